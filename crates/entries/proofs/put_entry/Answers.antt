-- `put_entry` meets its contract: the number's four bytes are the entry, put in place.
use borrow.Author.Tests.{lt-ltb, le-ltb}
use Prim.Native.Nat.{ℕ, ◌+◌, ◌-◌, ◌*◌}
use mathlib.Core.Path.{◌≡◌}
use mathlib.Core.List.{List}
use native.Mathlib.Omega.{arith}
use lib.ListN.{drop}
use lib.Seq.{drop-drop}
use Rattle.entries.specs.Entries.{entry, with_entry}
use Rattle.entries.proofs.put_entry.Goals as goal

behind : (l : List ℕ) (i : ℕ) → drop (i + 4 - i) (drop i l) ≡ drop (i + 4) l
behind l i = let four : i + 4 - i ≡ 4 = omega arith in rw four (drop-drop 4 i l)

pub returns-then-index-list : goal.returns-then-index-list
unfolding entry with_entry
returns-then-index-list c = rw (lt-ltb _ _ c.if-index-list.true, c.copy_from_slice.ensures.after, c.to_le_bytes-bytes.ensures, behind c.args.list.now (4 * c.args.index))

pub returns-else-index-list : goal.returns-else-index-list
unfolding with_entry
returns-else-index-list c = rw (le-ltb _ _ c.if-index-list.false)

-- Where there is room for all bytes, all are copied. Assumes nothing.
use Prim.Native.Nat.{ℕ, ◌≤◌}
use mathlib.Core.Path.{◌≡◌}
use mathlib.Core.List.{List}
use borrow.Author.Tests.{le-leb}
use lib.ListN.{length}
use Rattle.entries.specs.Entries.{copied_count}

pub copied-with-room : (bytes others : List ℕ) → length bytes ≤ length others → copied_count bytes others ≡ length bytes
unfolding copied_count
copied-with-room bytes others h = rw (le-leb _ _ h)

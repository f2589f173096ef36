-- `small_byte` meets its contract: 195 is no byte before a mark. Assumes nothing.
use Rattle.std.proofs.Common.{arith, ◌≡◌, refl, ℕ, ◌+◌, ◌%◌, ◌≤◌, Bool, true, false, sym, ◌∙◌}
use lib.Dec.{eqb}
use borrow.Author.Tests.{eqb-true, le-ltb, lt-leb, eq-eqb}
use Rattle.words.specs.Words.{behind_mark, small_byte}
use Rattle.words.proofs.small_byte.Goals as goal
use Rattle.words.proofs.small_byte.Goals.{in_default-via-in-128-to-159+else-before-eq195, in_default-via-else-b-lt160}

other : (before : ℕ) → behind_mark before ≡ true → eqb before 195 ≡ false
unfolding behind_mark
other before m = go (eqb before 195) refl
  where
    go : (t : Bool) → eqb before 195 ≡ t → eqb before 195 ≡ false
    go true e = absurd (let same : before ≡ 195 = eqb-true before 195 e in cc (rw same at m))
    go false e = e

marked : (before b : ℕ) → 128 ≤ b → behind_mark before ≡ true → b % 2 ≡ 0 → b + 1 ≡ small_byte before b
unfolding small_byte
marked before b h m even = rw (le-ltb b 65 (omega arith), lt-leb b 90 (omega arith), le-ltb b 128 h, other before m, m, eq-eqb (b % 2) 0 even)

pub returns-in_default : goal.returns-in_default
returns-in_default c =
    elim c.in_default.branch [
      | in_default-via-in-128-to-159+else-before-eq195 w ↦ marked _ _ (omega arith) (sym c.behind_mark.ensures ∙ c.if-behind_mark.true) c.if-b-eq0.true
      | in_default-via-else-b-lt160 w ↦ marked _ _ (omega arith) (sym c.behind_mark.ensures ∙ c.if-behind_mark.true) c.if-b-eq0.true
    ]

-- The first condition of a list: where it holds the next one's turn comes, else it is the first that does not.
-- Assumes nothing.
use Prim.Native.Nat.{ℕ}
use mathlib.Core.Path.{◌≡◌}
use mathlib.Core.Bool.{Bool, true, false}
use mathlib.Core.List.{List, ◌∷◌}
use Rattle.std.specs.Prelude.{Some, None}
use Rattle.reasons.specs.Conditions.{Wanted, Condition, one_condition, first_unmet}
use Rattle.reasons.specs.Parts.{TestedFor}

pub next : (c : Condition) (cs : List Condition) → c.holds ≡ true → first_unmet cs ≡ first_unmet (c ∷ cs)
unfolding first_unmet
next c cs e = rw e

pub here : (c : Condition) (cs : List Condition) → c.holds ≡ false → c.cause ≡ first_unmet (c ∷ cs)
unfolding first_unmet
here c cs e = rw e

-- one that was tested
module _ (number : ℕ) {holds : Bool} (asked : Wanted) (value : ℕ) (cs : List Condition) where
  pub tested-next : TestedFor holds value None → first_unmet cs ≡ first_unmet (one_condition number holds asked value ∷ cs)
  tested-next e = next _ cs e

  pub tested-here : {found : ℕ} → TestedFor holds value (Some found) → record { condition = number; asked = asked; found = found } ≡ first_unmet (one_condition number holds asked value ∷ cs)
  tested-here e = rw e.1 (here (one_condition number holds asked value) cs e.0)

-- Conditions in a row: from one on they are its own and those from the next one on. And the bodies that the code names,
-- by their numbers.
-- Assumes nothing.
use Prim.Native.Nat.{ℕ, zero, suc, ◌+◌, ◌-◌, ◌<◌}
use mathlib.Core.Path.{◌≡◌, refl}
use mathlib.Core.Bool.{cond}
use mathlib.Core.List.{List, [], ◌∷◌, ◌++◌}
use native.Mathlib.Omega.{arith}
use lib.ListN.{get_or}
use Rattle.std.specs.Prelude.{Some, None}
use Rattle.longitudes.specs.declared.Body.{Body}
use Rattle.longitudes.specs.declared.Body.TheVariants.{Sun, Moon, MoonApogee, MoonNode, Mars, MercuryAnomaly, Jupiter, VenusAnomaly, Saturn}
use Rattle.longitudes.specs.Answers.{body_number}
use Rattle.reasons.specs.Conditions.{Cause, Condition, row, first_unmet}
use Rattle.reasons.specs.Parts.{TestedFor}

-- the first that is not met from number k on, of so many in a row with others behind them
abbrev pub unmet_from : (ℕ → Condition) → ℕ → List Condition → ℕ → Cause
unmet_from f count others k = first_unmet (row f k (count - k) ++ others)

module _ (f : ℕ → Condition) (count : ℕ) (others : List Condition) where
  from-here : (k : ℕ) → k < count → unmet_from f count others k ≡ cond (f k).holds (unmet_from f count others (k + 1)) (f k).cause
  unfolding first_unmet row
  from-here k l = let e : count - k ≡ suc (count - (k + 1)) = omega arith in rw e

  -- the test of number k: where it holds the next one's turn comes, else it is the first
  module _ (k : ℕ) (l : k < count) where
    pub one-met : TestedFor (f k).holds (f k).cause.found None → unmet_from f count others (k + 1) ≡ unmet_from f count others k
    one-met e = rw (from-here k l, e)

    pub one-unmet : {found : ℕ} → TestedFor (f k).holds (f k).cause.found (Some found) → record { condition = (f k).cause.condition; asked = (f k).cause.asked; found = found } ≡ unmet_from f count others k
    one-unmet e = rw (from-here k l, e.0, e.1)

  -- behind the last come the others
  pub row_ends : (k : ℕ) → k ≡ count → first_unmet others ≡ unmet_from f count others k
  unfolding row
  row_ends k e = let none : count - k ≡ 0 = omega arith in rw none

pub in_order : (k : ℕ) (other : Body) → k < 9 → body_number (get_or (Sun ∷ Moon ∷ MoonApogee ∷ MoonNode ∷ Mars ∷ MercuryAnomaly ∷ Jupiter ∷ VenusAnomaly ∷ Saturn ∷ []) k other) ≡ k
in_order zero other l = refl
in_order (suc zero) other l = refl
in_order (suc (suc zero)) other l = refl
in_order (suc (suc (suc zero))) other l = refl
in_order (suc (suc (suc (suc zero)))) other l = refl
in_order (suc (suc (suc (suc (suc zero))))) other l = refl
in_order (suc (suc (suc (suc (suc (suc zero)))))) other l = refl
in_order (suc (suc (suc (suc (suc (suc (suc zero))))))) other l = refl
in_order (suc (suc (suc (suc (suc (suc (suc (suc zero)))))))) other l = refl
in_order (suc (suc (suc (suc (suc (suc (suc (suc (suc n))))))))) other l = absurd (omega arith)

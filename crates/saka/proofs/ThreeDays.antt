-- At most one of three days in a row has a weekday, and which one it is: by their weekdays mod 7, which differ.
-- Assumes nothing.
use mathlib.Core.Bool.{Bool, true, false}
use mathlib.Core.List.{List, [], ◌∷◌}
use mathlib.Core.Path.{◌≡◌, refl}
use Prim.Native.Nat.{ℕ, zero, suc, ◌+◌, ◌-◌, ◌%◌, ◌<◌, ◌≤◌}
use native.Mathlib.Omega.{arith}
use lib.Dec.{eqb}
use lib.IntN.{ℤ, pos, pred_ℤ}
use lib.ListN.{length}
use borrow.Author.Tests.{eqb-true, eqb-false, eq-eqb, ne_eqb}
use Rattle.std.specs.Prelude.{Err}
use Rattle.days.specs.declared.refusal.Refusal.TheVariants.{NoSuchWeekday}
use Rattle.saka.specs.LunarDays.{integer_weekday, three_days, having_weekday, integer_day, answer_from, day_on}

-- the weekday of the day before, which may be day −1
before : (n : ℕ) → integer_weekday (pred_ℤ (pos n)) ≡ (n + 6) % 7
before zero = refl
before (suc n) = omega arith

module _ (w : ℕ) (z : ℤ) (zs : List ℤ) where
  has : integer_weekday z ≡ w → having_weekday w (z ∷ zs) ≡ z ∷ having_weekday w zs
  unfolding having_weekday
  has e = rw (eq-eqb (integer_weekday z) w e)

  lacks : (integer_weekday z ≡ w → ⊥) → having_weekday w (z ∷ zs) ≡ having_weekday w zs
  unfolding having_weekday
  lacks e = rw (ne_eqb (integer_weekday z) w e)

-- the days that have the weekday, where one of the three has it, and where none has
module _ (w n : ℕ) where
  only-before : integer_weekday (pred_ℤ (pos n)) ≡ w → having_weekday w (three_days n) ≡ pred_ℤ (pos n) ∷ []
  unfolding having_weekday
  only-before e = rw (has w (pred_ℤ (pos n)) _ e, lacks w (pos n) _ (λ x. omega (arith, before n)), lacks w (pos (n + 1)) [] (λ x. omega (arith, before n)))

  only-reckoned : n % 7 ≡ w → having_weekday w (three_days n) ≡ pos n ∷ []
  unfolding having_weekday
  only-reckoned e = rw (lacks w (pred_ℤ (pos n)) _ (λ x. omega (arith, before n)), has w (pos n) _ e, lacks w (pos (n + 1)) [] (λ x. omega arith))

  only-after : (n + 1) % 7 ≡ w → having_weekday w (three_days n) ≡ pos (n + 1) ∷ []
  unfolding having_weekday
  only-after e = rw (lacks w (pred_ℤ (pos n)) _ (λ x. omega (arith, before n)), lacks w (pos n) _ (λ x. omega arith), has w (pos (n + 1)) [] e)

  none : (integer_weekday (pred_ℤ (pos n)) ≡ w → ⊥) → (n % 7 ≡ w → ⊥) → ((n + 1) % 7 ≡ w → ⊥) → having_weekday w (three_days n) ≡ []
  unfolding having_weekday
  none i j k = rw (lacks w (pred_ℤ (pos n)) _ i, lacks w (pos n) _ j, lacks w (pos (n + 1)) [] k)

-- at most one of the three days has the weekday, so the order in which they are tried cannot matter
pub at_most_one : (w n : ℕ) → length (having_weekday w (three_days n)) ≤ 1
at_most_one w n = go (eqb (integer_weekday (pred_ℤ (pos n))) w) (eqb (n % 7) w) (eqb ((n + 1) % 7) w) refl refl refl
  where
    go : (a b c : Bool) → eqb (integer_weekday (pred_ℤ (pos n))) w ≡ a → eqb (n % 7) w ≡ b → eqb ((n + 1) % 7) w ≡ c → length (having_weekday w (three_days n)) ≤ 1
    go true b c i j k = rw (only-before w n (eqb-true _ _ i)) (omega arith)
    go false true c i j k = rw (only-reckoned w n (eqb-true _ _ j)) (omega arith)
    go false false true i j k = rw (only-after w n (eqb-true _ _ k)) (omega arith)
    go false false false i j k = rw (none w n (eqb-false _ _ i) (eqb-false _ _ j) (eqb-false _ _ k)) (omega arith)

-- which of the three it is, by how many days the weekday is ahead of day n
module _ (w n : ℕ) (h : w < 7) where
  abbrev ahead : ℕ
  ahead = (w + 7 - n % 7) % 7

  pub on-reckoned : ahead ≡ 0 → day_on w n ≡ integer_day (pos n)
  unfolding day_on answer_from
  on-reckoned k = rw (only-reckoned w n (omega arith))

  pub on-after : ahead ≡ 1 → day_on w n ≡ integer_day (pos (n + 1))
  unfolding day_on answer_from
  on-after k = rw (only-after w n (omega arith))

  pub on-before : ahead ≡ 6 → day_on w n ≡ integer_day (pred_ℤ (pos n))
  unfolding day_on answer_from
  on-before k = rw (only-before w n (omega (arith, before n)))

  pub on_none : (ahead ≡ 0 → ⊥) → (ahead ≡ 1 → ⊥) → (ahead ≡ 6 → ⊥) → day_on w n ≡ Err NoSuchWeekday
  unfolding day_on answer_from
  on_none i j k = rw (none w n (λ e. omega (arith, before n)) (λ e. omega arith) (λ e. omega arith))

-- the four, by one name
pub ruleset on_days = (on-reckoned, on-after, on-before, on_none)

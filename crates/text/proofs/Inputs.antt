-- What is known of an input that is read as a day's number: the number is a day's, and a refusal is one of two.
-- Assumes nothing.
use mathlib.Core.Path.{◌≡◌, refl}
use mathlib.Core.Bool.{Bool, true, false, cond}
use mathlib.Core.List.{List}
use Prim.Native.Nat.{ℕ, ◌-◌, ◌≤◌}
use native.Mathlib.Omega.{arith}
use lib.ListN.{length, take}
use lib.Dec.{leb}
use borrow.Author.Tests.{leb-true}
use Rattle.std.specs.Prelude.{Result, Ok, Err}
use Rattle.days.specs.Days.{last_day}
use Rattle.days.specs.Refusals.{result_number}
use Rattle.days.specs.declared.refusal.Refusal.{Refusal}
use Rattle.days.specs.declared.refusal.Refusal.TheVariants.{OutOfRange, BadInput}
use Rattle.text.specs.Decimal.{is_number, number_read}
use Rattle.text.specs.Inputs.{is_line, input_read, day_read, day_input}

-- a number that is read is a day's
pub day-read-low : (s : List ℕ) (n : ℕ) → Ok n ≡ day_input s → n ≤ last_day
unfolding day_input
day-read-low s n e = go (input_read s) e
  where
    go : (read : Result ℕ Refusal) → Ok n ≡ day_read read → n ≤ last_day
    go (Ok m) e = low (leb m last_day) refl e
      where
        low : (t : Bool) → leb m last_day ≡ t → Ok n ≡ cond t (Ok m) (Err OutOfRange) → n ≤ last_day
        low true t e = let k : n ≡ m = cc in rw k (leb-true _ _ t)
        low false t e = absurd cc
    go (Err r) e = absurd cc

-- a refusal of an input is 2 or 3
pub refusal-low : (s : List ℕ) → result_number (day_input s) ≤ 3
unfolding day_input input_read number_read result_number
refusal-low s = go (is_line s) (is_number (take (length s - 1) s)) _
  where
    of-day : (low : Bool) (n : ℕ) → result_number (cond low (Ok n) (Err OutOfRange)) ≤ 3
    of-day true n = omega arith
    of-day false n = omega arith

    go : (line number : Bool) (n : ℕ) → result_number (day_read (cond line (cond number (Ok n) (Err BadInput)) (Err BadInput))) ≤ 3
    go true true n = of-day (leb n last_day) n
    go true false n = omega arith
    go false number n = omega arith

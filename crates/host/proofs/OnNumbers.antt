-- A number of a day's pair is the number of the day, by cases on whether there is such a day: past the last one its
-- pair is out of range.
-- Assumes nothing.
use mathlib.Core.Bool.{false}
use mathlib.Core.Path.{◌≡◌, ap, ◌∙◌}
use Prim.Native.Nat.{ℕ, ◌<◌, ◌≤◌}
use native.Mathlib.Decide.{dec_le}
use native.Mathlib.Omega.{arith}
use borrow.Author.Tests.{le-leb, lt-leb, le-ltb}
use Rattle.std.specs.Prelude.{Result}
use Rattle.std.specs.Result.{result_unwrap_or}
use Rattle.days.specs.declared.Day.{Day}
use Rattle.days.specs.declared.refusal.Refusal.{Refusal}
use Rattle.days.specs.Days.{cycles, last_day, pair_at, in_range, answer_on}
use Rattle.days.proofs.Laws.{pair-in-range, given, refused}
use Rattle.host.specs.Calls.{on_number}

pub pair-past-last : (n : ℕ) → last_day < n → in_range (pair_at n) ≡ false
unfolding in_range
pair-past-last n h = let k : cycles ≤ (pair_at n).cycle = omega arith in rw (le-ltb _ _ k)

pub on-number : (f : Day → ℕ) (n : ℕ) {d : Day} {a : Result ℕ Refusal} → d ≡ pair_at n → a ≡ answer_on f d → result_unwrap_or a 0 ≡ on_number f n
unfolding on_number
on-number f n {a = a} p e = go (dec_le n last_day)
  where
    answer : a ≡ answer_on f (pair_at n)
    answer = e ∙ ap (answer_on f) p

    go : Dec (n ≤ last_day) → result_unwrap_or a 0 ≡ on_number f n
    go (yes h) = rw (le-leb _ _ h, answer ∙ given f (pair_at n) (pair-in-range n h))
    go (no h) = let k : last_day < n = omega arith in rw (lt-leb _ _ k, answer ∙ refused f (pair_at n) (pair-past-last n k))

-- The extra months, with paper 02's mark and without it: by cases on the mark, and on whether the quotient is 0.
-- Assumes nothing.
use mathlib.Core.Bool.{Bool, true, false, cond}
use mathlib.Core.Path.{◌≡◌, refl}
use Prim.Native.Nat.{ℕ, ◌+◌, ◌-◌, ◌*◌, ◌/◌, ◌<◌, ◌≤◌}
use native.Mathlib.Numerals.{unary_clauses}
use native.Mathlib.Omega.{arith}
use borrow.Author.Tests.{eq-eqb, ne_eqb}
use Rattle.std.specs.Prelude.{Ok, Err}
use Rattle.days.specs.declared.refusal.Refusal.TheVariants.{NoExtraMonth}
use Rattle.saka.specs.declared.LunarDate.{LunarDate}
use Rattle.saka.specs.LunarDays.{extra_months, leap_month_pending, elapsed_extra_months, reckoned_day, lunar_day_with, lunar_day}

module _ (d : LunarDate) where
  all : leap_month_pending d ≡ false → elapsed_extra_months d ≡ Ok (extra_months d)
  unfolding elapsed_extra_months
  all e = rw e

  one_fewer : leap_month_pending d ≡ true → 0 < extra_months d → elapsed_extra_months d ≡ Ok (extra_months d - 1)
  unfolding elapsed_extra_months extra_months
  one_fewer e h = rw (e, ne_eqb (extra_months d) 0 (λ z. omega arith))

  none : leap_month_pending d ≡ true → extra_months d ≡ 0 → elapsed_extra_months d ≡ Err NoExtraMonth
  unfolding elapsed_extra_months extra_months
  none e z = rw (e, eq-eqb (extra_months d) 0 z)

  -- as the code has it: less the months that are still to come, one with the mark
  abbrev pending : ℕ
  pending = cond (leap_month_pending d) 1 0

  pub elapsed : pending ≤ extra_months d → elapsed_extra_months d ≡ Ok (extra_months d - pending)
  elapsed = go (leap_month_pending d) refl
    where
      go : (b : Bool) → leap_month_pending d ≡ b → cond b 1 0 ≤ extra_months d → elapsed_extra_months d ≡ Ok (extra_months d - cond b 1 0)
      go true e h = one_fewer e (omega arith)
      go false e h = simp unary_clauses (all e)

  pub too_few : extra_months d < pending → elapsed_extra_months d ≡ Err NoExtraMonth
  too_few = go (leap_month_pending d) refl
    where
      go : (b : Bool) → leap_month_pending d ≡ b → extra_months d < cond b 1 0 → elapsed_extra_months d ≡ Err NoExtraMonth
      go true e h = none e (omega arith)
      go false e h = absurd (omega arith)

  -- without the mark the answer is paper 01's, with all the extra months
  pub without-mark : leap_month_pending d ≡ false → lunar_day d ≡ lunar_day_with (Ok (extra_months d)) d
  unfolding lunar_day
  without-mark e = rw (all e)

-- what the mark does where the quotient is not 0: paper 01's rule with one extra month fewer, and a reckoned day 29 or
-- 30 days earlier
pub record MonthEarlier (d : LunarDate) : Type 0 where
  pub answer : lunar_day d ≡ lunar_day_with (Ok (extra_months d - 1)) d
  pub least : reckoned_day d (extra_months d - 1) + 29 ≤ reckoned_day d (extra_months d)
  pub most : reckoned_day d (extra_months d) ≤ reckoned_day d (extra_months d - 1) + 30

-- thirty tithis more are 29 or 30 days more, since one of them at most is a 64th
month : (days months tithis more E : ℕ) → 0 < E →
    let fewer = 30 * (months + (E - 1)) + tithis + more in
    let all = 30 * (months + E) + tithis + more in
    (days + (fewer - fewer / 64) + 29 ≤ days + (all - all / 64)) × (days + (all - all / 64) ≤ days + (fewer - fewer / 64) + 30)
month days months tithis more E h = omega arith

pub with-mark : (d : LunarDate) → leap_month_pending d ≡ true → 0 < extra_months d → MonthEarlier d
unfolding lunar_day reckoned_day
with-mark d e h =
    record { answer = rw (one_fewer d e h); least = (month _ _ _ _ _ h).0; most = (month _ _ _ _ _ h).1 }

-- `put_verdict` meets its contract: an arm for each case. Assumes nothing.
use Prim.Native.Nat.{ℕ, ◌+◌, ◌-◌}
use mathlib.Core.Path.{◌≡◌}
use native.Mathlib.Omega.{arith}
use Rattle.reasons.specs.Reasons.{cause_of}
use Rattle.explanation.specs.Explanations.{element_text, verdict_of}
use Rattle.explanation.proofs.Making.{unfit-said, end-said}
use Rattle.explanation.proofs.put_verdict.Goals as goal

-- a place back from the number of its condition
back : (first place : ℕ) → first + place - first ≡ place
back first place = omega arith

pub returns-in-Fits : goal.returns-in-Fits
unfolding cause_of verdict_of element_text
returns-in-Fits c = rw (c.text.ensures, c.in-Fits.is)

pub returns-in-BeforeSpan : goal.returns-in-BeforeSpan
unfolding cause_of verdict_of element_text
returns-in-BeforeSpan c = rw (c.put_day.ensures, c.text-in-BeforeSpan.ensures, c.text-unfit.ensures, c.in-BeforeSpan.is) (end-said _ _ _)

pub returns-in-AfterSpan : goal.returns-in-AfterSpan
unfolding cause_of verdict_of element_text
returns-in-AfterSpan c = rw (c.put_day-in-AfterSpan.ensures, c.text-in-AfterSpan.ensures, c.text-unfit.ensures, c.in-AfterSpan.is) (end-said _ _ _)

pub returns-in-Weekday : goal.returns-in-Weekday
unfolding cause_of verdict_of element_text
returns-in-Weekday c = rw (c.put_weekdays.ensures, c.text-unfit.ensures, c.in-Weekday.is) (unfit-said _ _)

pub returns-in-Tithi : goal.returns-in-Tithi
unfolding cause_of verdict_of element_text
returns-in-Tithi c = rw (c.put_numbers.ensures, c.text-unfit.ensures, c.in-Tithi.is) (unfit-said _ _)

pub returns-in-Nakshatra : goal.returns-in-Nakshatra
unfolding cause_of verdict_of element_text
returns-in-Nakshatra c = rw (c.put_numbers-in-Nakshatra.ensures, c.text-unfit.ensures, c.in-Nakshatra.is) (unfit-said _ _)

pub returns-in-Yoga : goal.returns-in-Yoga
unfolding cause_of verdict_of element_text
returns-in-Yoga c = rw (c.put_numbers-in-Yoga.ensures, c.text-unfit.ensures, c.in-Yoga.is) (unfit-said _ _)

pub returns-in-Karana : goal.returns-in-Karana
unfolding cause_of verdict_of element_text
returns-in-Karana c = rw (c.put_numbers-in-Karana.ensures, c.text-unfit.ensures, c.in-Karana.is) (unfit-said _ _)

pub returns-in-Arcs : goal.returns-in-Arcs
unfolding cause_of verdict_of element_text
returns-in-Arcs c = rw (c.put_mean_arcs.ensures, c.text-unfit.ensures, c.in-Arcs.is, back 7 _) (unfit-said _ _)

pub returns-in-TrueArcs : goal.returns-in-TrueArcs
unfolding cause_of verdict_of element_text
returns-in-TrueArcs c = rw (c.put_true_arcs.ensures, c.text-unfit.ensures, c.in-TrueArcs.is, back 17 _) (unfit-said _ _)

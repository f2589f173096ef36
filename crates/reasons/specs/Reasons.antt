-- Why a day is not in a query's list, in the numbers of the papers; and these numbers for every case of the answer.
-- Assumes nothing.
use Rattle.std.specs.Prelude.{cond, ℕ, ◌+◌, leb, eqb, Result, Ok, Err}
use Rattle.days.specs.Days.{last_day}
use Rattle.days.specs.Refusals.{accepted, out_of_range, bad_edition, refusal_number}
use Rattle.days.specs.declared.refusal.Refusal.{Refusal}
use Rattle.panchanga.specs.TrueLongitudes.{is_edition}
use Rattle.query.specs.declared.Query.{Query}
use Rattle.query.specs.Query.{refusal_of}
use Rattle.reasons.specs.declared.Answer.{Answer}
use Rattle.reasons.specs.declared.Reason.{Reason}
use Rattle.reasons.specs.declared.Reason.TheVariants.{Fits, BeforeSpan, AfterSpan, Weekday, Tithi, Nakshatra, Yoga, Karana, Arcs, TrueArcs}
use Rattle.reasons.specs.Conditions.{Cause, no_cause, bound, any_of, mean_arcs, true_arcs, conditions_on, first_unmet}

-- why the question is refused, or 0: the edition's 14 first, then 2 for the day, then as the query is: 2 for an end of
-- the span, 5 and 6
unfoldable pub refusal_on : Query → ℕ → ℕ
refusal_on q n = cond (is_edition q.edition) (cond (leb n last_day) (refusal_of q) out_of_range) bad_edition

-- the answer in numbers: the refusal or 0, the edition by which it is reckoned, and what shuts the day out
pub record Numbers : Type 0 where
  pub refusal : ℕ
  pub edition : ℕ
  pub cause : Cause

-- a refusal has all zeros
abbrev pub no_answer : ℕ → Numbers
no_answer refusal = record { refusal = refusal; edition = 0; cause = no_cause }

-- WHY DAY n IS NOT IN THE LIST: the first of the conditions, in their order, that does not hold; or none, and the day
-- fits
unfoldable pub why_of : Query → ℕ → Numbers
why_of q n =
    cond (eqb (refusal_on q n) accepted) (record { refusal = accepted; edition = q.edition; cause = first_unmet (conditions_on q n) }) (no_answer (refusal_on q n))

-- the numbers of each case of a reason
unfoldable pub cause_of : Reason → Cause
cause_of Fits = no_cause
cause_of (BeforeSpan first day) = record { condition = 1; asked = bound first; found = day }
cause_of (AfterSpan last day) = record { condition = 2; asked = bound last; found = day }
cause_of (Weekday asked found) = record { condition = 3; asked = any_of asked; found = found }
cause_of (Tithi asked found) = record { condition = 4; asked = any_of asked; found = found }
cause_of (Nakshatra asked found) = record { condition = 5; asked = any_of asked; found = found }
cause_of (Yoga asked found) = record { condition = 6; asked = any_of asked; found = found }
cause_of (Karana asked found) = record { condition = 16; asked = any_of asked; found = found }
cause_of (Arcs body asked found) = record { condition = 7 + body; asked = mean_arcs asked; found = found }
cause_of (TrueArcs place asked found) = record { condition = 17 + place; asked = true_arcs asked; found = found }

-- and of an answer
unfoldable pub numbers_of : Result Answer Refusal → Numbers
numbers_of (Err refusal) = no_answer (refusal_number refusal)
numbers_of (Ok answer) = record { refusal = accepted; edition = answer.edition; cause = cause_of answer.reason }

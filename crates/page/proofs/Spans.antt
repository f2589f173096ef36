-- Of two refusals the one that `first_refusal` picks is told. A line with the keyword `span` means its two days,
-- refused as they are or as their span is: by cases, as the query of these days alone computes. Assumes nothing.
use mathlib.Core.Bool.{Bool, true, false, cond, ◌&&◌}
use mathlib.Core.Path.{◌≡◌, refl, sym}
use Prim.Native.Nat.{ℕ}
use borrow.Author.Tests.{eqb-true, eq-eqb}
use lib.Dec.{eqb, leb}
use Rattle.std.specs.Prelude.{Result, Ok, Err, IfErr}
use Rattle.days.specs.declared.refusal.Refusal.{Refusal}
use Rattle.days.specs.declared.refusal.Refusal.TheVariants.{NoSuchDate, OutOfRange, BadInput, NoSuchWeekday, LastBeforeFirst, BadCondition, ListTooShort, NoExtraMonth, BadLength, BadChecksum, BadIndex, NotZero, BadDay, BadEdition, BadLine, NoSuchBody}
use Rattle.days.specs.Days.{last_day, check_span, answer_over}
use Rattle.days.specs.Refusals.{refusal_number, and_then}
use Rattle.panchanga.specs.TrueLongitudes.{is_edition}
use Rattle.query.specs.Conditions.{numbers_in_range, weekdays_in_range, arc_in_range, body_arcs_in_range, arcs_in_range, true_arcs_in_range, elements_in_range, conditions_in_range, no_arcs}
use Rattle.query.specs.Query.{check_of}
use Rattle.page.specs.declared.Values.{Values}
use Rattle.page.specs.Page.{span_keyword, with_condition, ranks_before, first_refusal, both_read, numbers_read, alone_read, condition_read, line_numbers}

-- of two refusals the one whose number comes first
pub both-first : (r t : Refusal) → IfErr (both_read (Err r) (Err t)) (λ (x : Refusal). refusal_number x ≡ first_refusal (refusal_number r) (refusal_number t))
unfolding both_read first_refusal
both-first r t = go (ranks_before (refusal_number t) (refusal_number r))
  where
    go : (b : Bool) → refusal_number (cond (eqb (cond b (refusal_number t) (refusal_number r)) (refusal_number t)) t r) ≡ cond b (refusal_number t) (refusal_number r)
    go true = rw (eq-eqb (refusal_number t) (refusal_number t) refl)
    go false = same (eqb (refusal_number r) (refusal_number t)) refl
      where
        same : (u : Bool) → eqb (refusal_number r) (refusal_number t) ≡ u → refusal_number (cond u t r) ≡ refusal_number r
        same true e = sym (eqb-true (refusal_number r) (refusal_number t) e)
        same false e = refl

-- a value's refusal is the line's, malformed or not
refused : (r : Refusal) → line_numbers (condition_read span_keyword (Err r)) ≡ Err r
unfolding condition_read
refused NoSuchDate = refl
refused OutOfRange = refl
refused BadInput = refl
refused NoSuchWeekday = refl
refused LastBeforeFirst = refl
refused BadCondition = refl
refused ListTooShort = refl
refused NoExtraMonth = refl
refused BadLength = refl
refused BadChecksum = refl
refused BadIndex = refl
refused NotZero = refl
refused BadDay = refl
refused BadEdition = refl
refused BadLine = refl
refused NoSuchBody = refl

pub span-line :
    (a b : Result ℕ Refusal) →
    line_numbers (condition_read span_keyword (numbers_read a b)) ≡ and_then (both_read a b) (λ d. and_then (check_span d.0 d.1) (λ _. Ok d))
unfolding condition_read alone_read numbers_read both_read with_condition check_of answer_over is_edition conditions_in_range numbers_in_range weekdays_in_range arc_in_range body_arcs_in_range arcs_in_range true_arcs_in_range elements_in_range
span-line (Ok a) (Ok b) = go (leb a last_day && leb b last_day) (leb a b)
  where
    v : Values
    v = record { first = a; second = b; arcs = no_arcs }

    check : Bool → Bool → Result (Unit {0}) Refusal
    check days order = cond days (cond order (Ok (tt {0})) (Err LastBeforeFirst)) (Err OutOfRange)

    go :
        (days order : Bool) →
        and_then {B = ℕ × ℕ} (and_then (check days order) (λ _. Ok v)) (λ (w : Values). Ok (w.first, w.second))
        ≡ and_then {B = ℕ × ℕ} (check days order) (λ _. Ok (a, b))
    go true true = refl
    go true false = refl
    go false order = refl
span-line (Ok a) (Err t) = refused t
span-line (Err r) (Ok b) = refused r
span-line (Err r) (Err t) = refused _

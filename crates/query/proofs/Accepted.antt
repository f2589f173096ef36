-- A query that is not refused: what is then in range, by the tests in their order; and back.
-- Assumes nothing.
use Prim.Native.Nat.{ℕ, ◌≤◌}
use mathlib.Core.Path.{◌≡◌, refl, sym, ap, ◌∙◌}
use mathlib.Core.Bool.{Bool, true, false, cond, ◌&&◌, false≢true}
use native.Mathlib.Omega.{arith}
use lib.Dec.{leb}
use borrow.Author.Tests.{leb-true, le-leb}
use Rattle.std.specs.Prelude.{Result, Ok, Err}
use Rattle.days.specs.declared.refusal.Refusal.{Refusal}
use Rattle.days.specs.declared.refusal.Refusal.TheVariants.{NoSuchDate, OutOfRange, BadInput, NoSuchWeekday, LastBeforeFirst, BadCondition, ListTooShort, NoExtraMonth, BadLength, BadChecksum, BadIndex, NotZero, BadDay, BadEdition, BadLine, NoSuchBody}
use Rattle.days.specs.Refusals.{refusal_number, result_number}
use Rattle.days.specs.Days.{last_day, answer_over, refused_span_or}
use Rattle.days.proofs.Laws.{over-number}
use Rattle.panchanga.specs.TrueLongitudes.{is_edition}
use Rattle.query.specs.declared.BodyArcs.{BodyArcs}
use Rattle.query.specs.declared.Query.{Query}
use Rattle.query.specs.Conditions.{weekdays_in_range, arc_in_range, body_arcs_in_range, arcs_in_range, elements_in_range, conditions_in_range}
use Rattle.query.specs.Query.{sun_arcs, refusal_of, check_of}

and_right : (a b : Bool) → (a && b) ≡ true → b ≡ true
and_right true b e = e
and_right false b e = absurd (false≢true e)

and_left : (a b : Bool) → (a && b) ≡ true → a ≡ true
and_left true b e = refl
and_left false b e = e

-- both arcs of a body
pub each-in-range : (a : BodyArcs) → body_arcs_in_range a ≡ true → (arc_in_range a.first ≡ true) × (arc_in_range a.second ≡ true)
unfolding body_arcs_in_range
each-in-range a e = (and_left (arc_in_range a.first) (arc_in_range a.second) e, and_right (arc_in_range a.first) (arc_in_range a.second) e)

-- a query that is not refused: its edition, its days and the Sun's arcs are in range
pub record Accepted (q : Query) : Type 0 where
  pub edition : is_edition q.edition ≡ true
  pub first : q.first ≤ q.last
  pub last : q.last ≤ last_day
  pub sun : body_arcs_in_range (sun_arcs q) ≡ true
  pub conditions : conditions_in_range q ≡ true

sun-of : (q : Query) → conditions_in_range q ≡ true → body_arcs_in_range (sun_arcs q) ≡ true
unfolding conditions_in_range arcs_in_range
sun-of q e =
    and_left (body_arcs_in_range (sun_arcs q)) _
    (and_left (arcs_in_range q.arcs) _ (and_right (elements_in_range q) _ (and_right (weekdays_in_range q.weekdays) _ e)))

pub accepted-by : (q : Query) → refusal_of q ≡ 0 → Accepted q
unfolding refusal_of
accepted-by q e = go (is_edition q.edition) (leb q.first last_day) (leb q.last last_day) (leb q.first q.last) (conditions_in_range q) refl refl refl refl e
  where
    go :
        (t a b o g : Bool) →
        is_edition q.edition ≡ t →
        leb q.last last_day ≡ b →
        leb q.first q.last ≡ o →
        conditions_in_range q ≡ g →
        ◌≡◌ {A = ℕ} (cond t (cond (a && b) (cond o (cond g 0 6) 5) 2) 14) 0 →
        Accepted q
    go true true true true true d h k c e = record { edition = d; first = leb-true _ _ k; last = leb-true _ _ h; sun = sun-of q c; conditions = c }
    go true true true true false d h k c e = absurd (omega arith)
    go true true true false g d h k c e = absurd (omega arith)
    go true true false o g d h k c e = absurd (omega arith)
    go true false b o g d h k c e = absurd (omega arith)
    go false a b o g d h k c e = absurd (omega arith)

-- the check of a query has the number of its refusal
pub check-number : (q : Query) → result_number (check_of q) ≡ refusal_of q
unfolding check_of refusal_of result_number
check-number q = go (is_edition q.edition) (conditions_in_range q)
  where
    go :
        (t g : Bool) →
        result_number (cond t (answer_over q.first q.last (cond g (Ok (tt {0})) (Err BadCondition))) (Err BadEdition))
        ≡ cond t (refused_span_or q.first q.last (cond g 0 6)) 14
    go true true = over-number q.first q.last _
    go true false = over-number q.first q.last _
    go false g = refl

-- a query that the check accepts, and one that it refuses
pub checked : (q : Query) → Ok (tt {0}) ≡ check_of q → refusal_of q ≡ 0
unfolding result_number
checked q e = sym (check-number q) ∙ ap result_number (sym e)

-- a refusal has a number that is not 0
pub refusal-positive : (r : Refusal) → refusal_number r ≡ 0 → ⊥
refusal-positive NoSuchDate e = omega arith
refusal-positive OutOfRange e = omega arith
refusal-positive BadInput e = omega arith
refusal-positive NoSuchWeekday e = omega arith
refusal-positive LastBeforeFirst e = omega arith
refusal-positive BadCondition e = omega arith
refusal-positive ListTooShort e = omega arith
refusal-positive NoExtraMonth e = omega arith
refusal-positive BadLength e = omega arith
refusal-positive BadChecksum e = omega arith
refusal-positive BadIndex e = omega arith
refusal-positive NotZero e = omega arith
refusal-positive BadDay e = omega arith
refusal-positive BadEdition e = omega arith
refusal-positive BadLine e = omega arith
refusal-positive NoSuchBody e = omega arith

pub accepts-check : (q : Query) → refusal_of q ≡ 0 → check_of q ≡ Ok (tt {0})
unfolding result_number
accepts-check q e = go (check_of q) (check-number q ∙ e)
  where
    go : (c : Result (Unit {0}) Refusal) → result_number c ≡ 0 → c ≡ Ok (tt {0})
    go (Ok tt) n = refl
    go (Err r) n = absurd (refusal-positive r n)

pub check-refused : (q : Query) {r : Refusal} → Err r ≡ check_of q → refusal_number r ≡ refusal_of q
unfolding result_number
check-refused q e = ap result_number e ∙ check-number q

pub refused-number : (q : Query) {r : Refusal} → Err r ≡ check_of q → refusal_of q ≡ 0 → ⊥
refused-number q {r} e z = refusal-positive r (check-refused q e ∙ z)

pub accepts : (q : Query) → is_edition q.edition ≡ true → q.first ≤ q.last → q.last ≤ last_day → conditions_in_range q ≡ true → refusal_of q ≡ 0
unfolding refusal_of
accepts q d h k c = rw (d, le-leb q.first last_day (omega arith), le-leb _ _ k, le-leb _ _ h, c)

-- 14 is the edition's refusal, and no other is
pub edition-refused : (q : Query) → refusal_of q ≡ 14 → is_edition q.edition ≡ false
unfolding refusal_of
edition-refused q e = go (is_edition q.edition) (leb q.first last_day && leb q.last last_day) (leb q.first q.last) (conditions_in_range q) refl e
  where
    go : (t a o g : Bool) → is_edition q.edition ≡ t → ◌≡◌ {A = ℕ} (cond t (cond a (cond o (cond g 0 6) 5) 2) 14) 14 → is_edition q.edition ≡ false
    go false a o g d e = d
    go true true true true d e = absurd (omega arith)
    go true true true false d e = absurd (omega arith)
    go true true false g d e = absurd (omega arith)
    go true false o g d e = absurd (omega arith)

pub edition-accepted : (q : Query) → (refusal_of q ≡ 14 → ⊥) → is_edition q.edition ≡ true
unfolding refusal_of
edition-accepted q n = go (is_edition q.edition) refl n
  where
    go : (t : Bool) → is_edition q.edition ≡ t → (refusal_of q ≡ 14 → ⊥) → is_edition q.edition ≡ true
    go true d n = d
    go false d n = absurd (n (rw d))

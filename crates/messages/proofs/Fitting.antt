-- What is said of a page fits a line: each text is short, and the line's number has at most ten digits. Assumes
-- nothing.
use mathlib.Core.Path.{◌≡◌, ap}
use mathlib.Core.Bool.{Bool, true, false, cond}
use mathlib.Core.List.{List}
use Prim.Native.Nat.{ℕ, ◌-◌, ◌≤◌, ◌<◌}
use native.Mathlib.Omega.{arith}
use lib.Dec.{eqb, leb, ltb}
use lib.ListN.{length, length-append}
use Rattle.days.specs.Refusals.{no_such_date, out_of_range, last_before_first, bad_edition}
use Rattle.page.specs.Page.{span_keyword, weekday_keyword, tithi_keyword, nakshatra_keyword, yoga_keyword, arc_keywords, karana_keyword, true_keywords, print_keyword, unknown_word, bad_value, repeated_word, not_ended, other_values}
use Rattle.text.specs.declared.Line.{Line}
use Rattle.text.specs.Lines.{line_capacity, with_bytes}
use Rattle.text.proofs.Printing.{digits-length}
use Rattle.words.specs.Words.{name_at}
use Rattle.words.proofs.Names.{body-name-short, true-name-short}
use Rattle.messages.specs.Messages.{refusal_text, condition_takes, arcs_take, takes_text, values_text, fault_text, fault_line}

-- the longer of two texts that one is picked from
pub picked : (b : Bool) (one other : List ℕ) (most : ℕ) → length one ≤ most → length other ≤ most → length (cond b one other) ≤ most
picked true one other most h k = h
picked false one other most h k = k

pub refusal-short : (refusal : ℕ) → length (refusal_text refusal) ≤ 53
unfolding refusal_text
refusal-short refusal =
    picked (eqb refusal no_such_date) _ _ 53 (omega arith)
    (picked (eqb refusal out_of_range) _ _ 53 (omega arith) (picked (eqb refusal last_before_first) _ _ 53 (omega arith) (picked (eqb refusal bad_edition) _ _ 53 (omega arith) (omega arith))))

condition-short : (k : ℕ) → length (condition_takes k) ≤ 120
unfolding condition_takes
condition-short k =
    picked (eqb k span_keyword) _ _ 120 (omega arith)
    (picked (eqb k weekday_keyword) _ _ 120 (omega arith)
    (picked (eqb k tithi_keyword) _ _ 120 (omega arith)
    (picked (eqb k nakshatra_keyword) _ _ 120 (omega arith) (picked (eqb k yoga_keyword) _ _ 120 (omega arith) (omega arith)))))

-- what the name at a place takes
pub of-the-name : (line : Line) (names : List (List ℕ)) (n : ℕ) (name : List ℕ) → name ≡ name_at names n → with_bytes line (arcs_take name) ≡ with_bytes line (arcs_take (name_at names n))
of-the-name line names n name e = ap (λ (x : List ℕ). with_bytes line (arcs_take x)) e

arcs-short : (name : List ℕ) → length name ≤ 12 → length (arcs_take name) ≤ 120
unfolding arcs_take
arcs-short name h = simp length-append (omega arith)

takes-short : (k : ℕ) → length (takes_text k) ≤ 120
unfolding takes_text
takes-short k =
    picked (ltb k arc_keywords) _ _ 120 (condition-short k)
    (picked (ltb k karana_keyword) _ _ 120 (arcs-short _ (omega (arith, body-name-short (k - arc_keywords))))
    (picked (eqb k karana_keyword) _ _ 120 (omega arith)
    (picked (ltb k print_keyword) _ _ 120 (arcs-short _ (true-name-short (k - true_keywords))) (omega arith))))

values-short : (refusal reason : ℕ) → length (values_text refusal reason) ≤ 120
unfolding values_text
values-short refusal reason =
    picked (leb (other_values 0) reason) _ _ 120 (takes-short (reason - other_values 0)) (omega (arith, refusal-short refusal))

fault-short : (refusal reason : ℕ) → length (fault_text refusal reason) ≤ 120
unfolding fault_text
fault-short refusal reason =
    picked (eqb reason unknown_word) _ _ 120 (omega arith)
    (picked (eqb reason bad_value) _ _ 120 (omega arith)
    (picked (eqb reason repeated_word) _ _ 120 (omega arith) (picked (eqb reason not_ended) _ _ 120 (omega arith) (values-short refusal reason))))

pub fault-fits : (line refusal reason : ℕ) → line < 4294967296 → length (fault_line line refusal reason) ≤ line_capacity
unfolding fault_line
fault-fits line refusal reason h = simp length-append (omega (arith, digits-length 9 line (omega arith), fault-short refusal reason))

-- What a line with the word `span` in front means, by its words and its two days: the page's own definitions compute on
-- the word. And what a span that is accepted keeps to.
-- Assumes nothing.
use mathlib.Core.Bool.{Bool, true, false, cond}
use mathlib.Core.List.{List, ◌++◌}
use mathlib.Core.Path.{◌≡◌, refl, sym, ◌∙◌}
use Prim.Native.Nat.{ℕ, ◌≤◌}
use lib.Dec.{eqb, ltb}
use lib.ListN.{length}
use Rattle.std.specs.Prelude.{Result, Ok, Err, IfOk}
use Rattle.std.proofs.lemmas.Result.{IfOk-at_ok}
use Rattle.days.specs.declared.refusal.Refusal.{Refusal}
use Rattle.days.specs.declared.refusal.Refusal.TheVariants.{BadInput}
use Rattle.days.specs.Days.{check_span}
use Rattle.days.specs.Refusals.{and_then}
use Rattle.days.proofs.Laws.{Span as Ordered, checked}
use Rattle.page.proofs.Spans.{span-line}
use Rattle.page.specs.Page.{span_keyword, is_element, has_arcs, first_value, second_value, both_read, numbers_read, most_values, values_read, malformed_line, condition_read, words_read, line_read, line_numbers}
use Rattle.page.specs.declared.Reason.TheVariants.{OtherValues}
use Rattle.text.specs.Ascii.{ascii}
use Rattle.text.specs.Inputs.{too_long}
use Rattle.text.specs.Lines.{newline}
use Rattle.values.specs.Values.{day_read}
use Rattle.values.proofs.Refusals.{either}
use Rattle.words.specs.Words.{hash, is_separator, run_length, up_to, after_first, trimmed, first_word, after_word, after_words, same_bytes, behind_mark, small_byte, small_from, place_in}
use Rattle.words.proofs.Runs.{run-le}
use Rattle.span_line.specs.declared.Span.{Span}
use Rattle.span_line.specs.SpanLine.{the_span, both_days, span_line, is_one_line, span_read, span_input}

-- ---- the two days
-- as a page takes them
page-days : (a b : Result ℕ Refusal) → and_then (line_numbers (condition_read span_keyword (numbers_read a b))) (λ d. Ok (the_span d.0 d.1)) ≡ both_days a b
unfolding both_days
page-days a b = rw (span-line a b) (go (both_read a b))
  where
    go :
        (d : Result (ℕ × ℕ) Refusal) →
        and_then (and_then d (λ e. and_then (check_span e.0 e.1) (λ _. Ok e))) (λ e. Ok (the_span e.0 e.1))
        ≡ and_then d (λ e. and_then (check_span e.0 e.1) (λ _. Ok (the_span e.0 e.1)))
    go (Ok d) = by (check_span d.0 d.1)
      where
        by : (c : Result (Unit {0}) Refusal) → and_then (and_then c (λ _. Ok d)) (λ e. Ok (the_span e.0 e.1)) ≡ and_then c (λ _. Ok (the_span d.0 d.1))
        by (Ok _) = refl
        by (Err _) = refl
    go (Err r) = refl

-- ---- the line's words
words_are :
    (l : List ℕ) →
    line_read (ascii "span " ++ l)
    ≡ cond (eqb (length (first_word (after_word (after_word (up_to hash l))))) 0) (condition_read span_keyword (values_read span_keyword (up_to hash l))) (malformed_line (OtherValues span_keyword))
unfolding line_read words_read is_element has_arcs most_values is_separator run_length up_to after_first trimmed after_words same_bytes behind_mark small_byte small_from place_in
words_are l = refl

values-are : (t : List ℕ) → values_read span_keyword t ≡ numbers_read (day_read (first_word t)) (day_read (first_word (after_word t)))
unfolding is_element has_arcs values_read first_value second_value
values-are t = refl

three-are : (l : List ℕ) → eqb (length (first_word (after_word (after_word (up_to hash l))))) 0 ≡ false → span_line l ≡ Err BadInput
unfolding span_line
three-are l h = rw (words_are l, h)

two-are :
    (l : List ℕ) →
    eqb (length (first_word (after_word (after_word (up_to hash l))))) 0 ≡ true →
    span_line l ≡ both_days (day_read (first_word (up_to hash l))) (day_read (first_word (after_word (up_to hash l))))
unfolding span_line
two-are l h = rw (words_are l, h, values-are (up_to hash l)) (page-days _ _)

module _ (line body others more : List ℕ) (eb : body ≡ up_to hash line) (eo : others ≡ after_word body) (em : more ≡ first_word (after_word others)) where
  more-is : eqb (length more) 0 ≡ eqb (length (first_word (after_word (after_word (up_to hash line))))) 0
  more-is = rw (em, eo, eb)

  pub three-words : eqb (length more) 0 ≡ false → Err BadInput ≡ span_line line
  three-words some = sym (three-are line (sym more-is ∙ some))

  pub two-words : (first second : List ℕ) → first ≡ first_word body → second ≡ first_word others → eqb (length more) 0 ≡ true → both_days (day_read first) (day_read second) ≡ span_line line
  two-words first second ef es none = rw (ef, es, eo, eb) (sym (two-are line (sym more-is ∙ none)))

-- ---- the text's line
pub end-within : (text : List ℕ) (n : ℕ) → n ≡ run_length false newline text → n ≤ length text
end-within text n e = rw e (run-le false newline text)

-- ---- a span that is accepted
abbrev pub Sound : Result Span Refusal → Type 0
Sound r = IfOk r (λ s. Ordered s.first s.last)

pub days-sound : (a b : Result ℕ Refusal) → Sound (both_days a b)
unfolding both_days both_read
days-sound (Ok a) (Ok b) = go (check_span a b) refl
  where
    go : (c : Result (Unit {0}) Refusal) → check_span a b ≡ c → Sound (and_then c (λ _. Ok (the_span a b)))
    go (Ok u) e = checked a b (sym e)
    go (Err r) e = tt {0}
days-sound (Ok a) (Err t) = tt {0}
days-sound (Err r) (Ok b) = tt {0}
days-sound (Err r) (Err t) = tt {0}

pub line-sound : (l : List ℕ) → Sound (span_line l)
line-sound l = go (eqb (length (first_word (after_word (after_word (up_to hash l))))) 0) refl
  where
    go : (t : Bool) → eqb (length (first_word (after_word (after_word (up_to hash l))))) 0 ≡ t → Sound (span_line l)
    go true h = rw (two-are l h) (days-sound _ _)
    go false h = rw (three-are l h) (tt {0})

text-sound : (text : List ℕ) → Sound (span_read text)
unfolding span_read
text-sound text = either Sound (is_one_line text) (line-sound (up_to newline text)) (tt {0})

input-sound : (input : List ℕ) → Sound (span_input input)
unfolding span_input
input-sound input = either Sound (ltb (length input) too_long) (text-sound input) (tt {0})

pub accepted-span : (input : List ℕ) {s : Span} → span_input input ≡ Ok s → Ordered s.first s.last
accepted-span input e = IfOk-at_ok (λ (s : Span). Ordered s.first s.last) e (input-sound input)

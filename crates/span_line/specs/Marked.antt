-- What a line with two days means where a word, the mark, may stand behind them.
-- Assumes nothing.
use Rattle.std.specs.Prelude.{Bool, true, false, cond, ◌&&◌, List, ℕ, eqb, ltb, length, Result, Err}
use Rattle.days.specs.declared.refusal.Refusal.{Refusal}
use Rattle.days.specs.declared.refusal.Refusal.TheVariants.{BadInput}
use Rattle.text.specs.Inputs.{too_long}
use Rattle.text.specs.Lines.{space, newline}
use Rattle.values.specs.Values.{day_read}
use Rattle.words.specs.Words.{hash, up_to, first_word, after_word, after_words, pieces, place_in}
use Rattle.span_line.specs.declared.Span.{Span}
use Rattle.span_line.specs.declared.Marked.{Marked}
use Rattle.span_line.specs.SpanLine.{both_days, span_line, is_one_line}

-- the mark is the third word of a line without its comment, and the last
unfoldable pub is_marked : List ℕ → List ℕ → Bool
is_marked mark body = eqb (place_in (pieces space mark) (first_word (after_words 2 body))) 0 && eqb (length (first_word (after_words 3 body))) 0

abbrev pub with_mark : Result Span Refusal → Marked
with_mark s = record { span = s; marked = true }

abbrev pub not_marked : Result Span Refusal → Marked
not_marked s = record { span = s; marked = false }

-- WHAT A LINE MEANS: with the mark its two days, and without it what it means where there is no mark
unfoldable pub marked_line : List ℕ → List ℕ → Marked
marked_line mark l =
    let body : List ℕ = up_to hash l in
    cond (is_marked mark body)
    (with_mark (both_days (day_read (first_word body)) (day_read (first_word (after_word body)))))
    (not_marked (span_line l))

-- what a program's input means
unfoldable pub marked_input : List ℕ → List ℕ → Marked
marked_input mark input =
    cond (ltb (length input) too_long && is_one_line input) (marked_line mark (up_to newline input)) (not_marked (Err BadInput))

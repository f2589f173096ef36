-- What a line with two days means: the span that a page's line means where the word `span` stands in front.
-- Assumes nothing.
use Rattle.std.specs.Prelude.{Bool, false, cond, List, ◌++◌, ℕ, ◌+◌, eqb, ltb, length, Result, Ok, Err}
use Rattle.days.specs.declared.refusal.Refusal.{Refusal}
use Rattle.days.specs.declared.refusal.Refusal.TheVariants.{BadInput}
use Rattle.days.specs.Days.{check_span}
use Rattle.days.specs.Refusals.{and_then}
use Rattle.page.specs.Page.{both_read, line_read, line_numbers}
use Rattle.text.specs.Ascii.{ascii}
use Rattle.text.specs.Inputs.{too_long}
use Rattle.text.specs.Lines.{newline}
use Rattle.words.specs.Words.{run_length, up_to}
use Rattle.span_line.specs.declared.Span.{Span}

abbrev pub the_span : ℕ → ℕ → Span
the_span first last = record { first = first; last = last }

-- two days that have been read: refused as the first of them in a page's order, or as their span is
unfoldable pub both_days : Result ℕ Refusal → Result ℕ Refusal → Result Span Refusal
both_days a b = and_then (both_read a b) (λ d. and_then (check_span d.0 d.1) (λ _. Ok (the_span d.0 d.1)))

-- a line's two days, as a page has them behind the word `span`
unfoldable pub span_line : List ℕ → Result Span Refusal
span_line l = and_then (line_numbers (line_read (ascii "span " ++ l))) (λ d. Ok (the_span d.0 d.1))

-- the first newline is the last byte
unfoldable pub is_one_line : List ℕ → Bool
is_one_line text = eqb (run_length false newline text + 1) (length text)

-- WHAT A TEXT MEANS
unfoldable pub span_read : List ℕ → Result Span Refusal
span_read text = cond (is_one_line text) (span_line (up_to newline text)) (Err BadInput)

-- what a program's input means
unfoldable pub span_input : List ℕ → Result Span Refusal
span_input input = cond (ltb (length input) too_long) (span_read input) (Err BadInput)

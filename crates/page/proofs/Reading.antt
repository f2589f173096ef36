-- What holds along the loop over a page's lines: the lines ahead, put on the page so far, make the page meant.
-- Assumes nothing.
use mathlib.Core.Path.{◌≡◌, refl, ap, sym, ◌∙◌}
use mathlib.Core.Bool.{false}
use mathlib.Core.List.{List, [], ◌∷◌}
use Prim.Native.Nat.{ℕ, suc, ◌+◌, ◌≤◌, ◌<◌}
use native.Mathlib.Omega.{arith}
use native.Mathlib.Numerals.{add-one}
use borrow.Author.Tests.{ne_eqb, leb-false}
use lib.ListN.{length}
use Rattle.text.specs.Lines.{newline}
use Rattle.words.specs.Words.{hash, run_length, up_to, after_first, first_word, after_word, after_words, pieces, unmarked, place_in}
use Rattle.values.proofs.Refusals.{either}
use Rattle.page.specs.Names.{keywords}
use Rattle.words.proofs.Marks.{unmarked-shorter}
use Rattle.words.proofs.Runs.{run-le}
use Rattle.words.proofs.Pieces.{pieces-first, pieces-last, pieces_more, after-shorter}
use Rattle.page.specs.declared.Page.{Page}
use Rattle.page.specs.declared.LineRead.{LineRead}
use Rattle.page.specs.declared.LineRead.TheVariants.{Blank}
use Rattle.page.specs.declared.Reason.TheVariants.{UnknownWord, NotEnded, OtherValues}
use Rattle.days.specs.declared.refusal.Refusal.{Refusal}
use Rattle.page.specs.declared.Values.{Values}
use Rattle.std.specs.Prelude.{Result, Ok, Err, cond, leb, eqb}
use Rattle.std.proofs.lemmas.Bool.{cond_both}
use Rattle.days.specs.Refusals.{bad_input, refusal_number}
use Rattle.page.specs.Page.{keyword_count, HasKeyword, malformed_at, most_values, values_read, malformed_line, condition_read, words_read, line_read, with_fault, with_line, with_lines, empty_page, page_answer, lines_of, page_read}

-- a line that is read has a keyword among the keywords, if any
condition-known : (k : ℕ) (v : Result Values Refusal) → k < keyword_count → HasKeyword (condition_read k v)
unfolding condition_read
condition-known k (Ok v) h = h
condition-known k (Err r) h = either HasKeyword (eqb (refusal_number r) bad_input) (tt {0}) h

words-known : (name behind : List ℕ) → HasKeyword (words_read name behind)
unfolding words_read
words-known name behind =
    let k = place_in keywords name in
    either HasKeyword (eqb (length name) 0) (tt {0})
    (cond_both (leb keyword_count k) (malformed_line UnknownWord)
    (cond (eqb (length (first_word (after_words (most_values k) behind))) 0) (condition_read k (values_read k behind)) (malformed_line (OtherValues k)))
    HasKeyword
    (λ _. tt {0})
    (λ known. either HasKeyword (eqb (length (first_word (after_words (most_values k) behind))) 0) (condition-known k (values_read k behind) (leb-false keyword_count k known)) (tt {0})))

pub keyword-known : (l : List ℕ) → HasKeyword (line_read l)
unfolding line_read
keyword-known l = words-known (first_word (up_to hash l)) (after_word (up_to hash l))

lines_more :
    (p : Page) (n : ℕ) (l text : List ℕ) →
    with_lines p n (l ∷ pieces newline text) ≡ with_lines (with_line p n (line_read l)) (suc n) (pieces newline text)
unfolding with_lines
lines_more p n l text = rw (pieces-first newline text)

lines-last : (p : Page) (n : ℕ) → with_lines p n ([] ∷ []) ≡ p
unfolding with_lines
lines-last p n = refl

lines-not-ended :
    (p : Page) (n : ℕ) (l : List ℕ) →
    (length l ≡ 0 → ⊥) →
    with_lines p n (l ∷ []) ≡ with_fault p (malformed_at NotEnded n)
unfolding with_lines
lines-not-ended p n l h = rw (ne_eqb (length l) 0 h)

empty : (s : List ℕ) → length s ≡ 0 → s ≡ []
empty [] h = refl
empty (b ∷ s) h = absurd (omega arith)

-- before the line n: rest is what is left of the text
pub record Reading (text : List ℕ) (p : Page) (n : ℕ) (rest : List ℕ) : Type 0 where
  pub ahead : with_lines p n (pieces newline rest) ≡ with_lines empty_page 1 (lines_of text)
  pub room : n + length rest ≤ length text + 1

pub reading-start : (text : List ℕ) → Reading text empty_page 1 (unmarked text)
reading-start text = record { ahead = refl; room = omega (arith, unmarked-shorter text) }

module _ (text : List ℕ) (p : Page) (n : ℕ) (rest : List ℕ) (r : Reading text p n rest) where
  pub reading-end : length rest ≡ 0 → page_answer p ≡ page_read text
  unfolding page_read pieces
  reading-end none =
      ap page_answer
      (sym (lines-last p n) ∙ ap (λ s. with_lines p n (pieces newline s)) (sym (empty rest none)) ∙ r.ahead)

  pub reading-not-ended :
      0 < length rest →
      run_length false newline rest ≡ length rest →
      page_answer (with_fault p (malformed_at NotEnded n)) ≡ page_read text
  unfolding page_read
  reading-not-ended some whole =
      ap page_answer
      (sym (lines-not-ended p n rest (λ z. omega arith)) ∙ ap (with_lines p n) (sym (pieces-last newline rest whole)) ∙ r.ahead)

  pub reading-next :
      (run_length false newline rest ≡ length rest → ⊥) →
      Reading text (with_line p n (line_read (up_to newline rest))) (n + 1) (after_first newline rest)
  reading-next more =
      let some : run_length false newline rest < length rest = omega (arith, run-le false newline rest) in
      record {
        ahead =
            rw add-one
            (sym (lines_more p n (up_to newline rest) (after_first newline rest))
            ∙ ap (with_lines p n) (sym (pieces_more newline rest some))
            ∙ r.ahead);
        room = omega (arith, r.room, after-shorter newline rest more);
      }

-- a blank line leaves the page
pub reading-blank : (text : List ℕ) (p : Page) (n m : ℕ) (rest : List ℕ) (l : LineRead) → l ≡ Blank → Reading text (with_line p n l) m rest → Reading text p m rest
unfolding with_line
reading-blank text p n m rest l e h = rw e at h

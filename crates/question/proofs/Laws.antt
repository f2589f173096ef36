-- A text that asks names a day and a query that are not refused; and the line at fault is among the first so many. By
-- cases on what was read. Assumes nothing.
use mathlib.Core.Path.{◌≡◌, refl}
use mathlib.Core.Bool.{false}
use mathlib.Core.List.{List}
use Prim.Native.Nat.{ℕ, ◌+◌, ◌≤◌}
use native.Mathlib.Omega.{arith}
use borrow.Author.Tests.{leb-true}
use lib.Dec.{eqb, leb}
use lib.ListN.{length, length-drop}
use Rattle.std.specs.Prelude.{Result, Ok, Err, IfOk, IfErr}
use Rattle.std.proofs.lemmas.Bool.{cond_both}
use Rattle.std.proofs.lemmas.Result.{IfOk-at_ok, IfErr-at_err}
use Rattle.days.specs.declared.refusal.Refusal.{Refusal}
use Rattle.days.specs.declared.refusal.Refusal.TheVariants.{OutOfRange}
use Rattle.days.specs.Days.{last_day}
use Rattle.days.specs.Refusals.{refusal_number, and_then}
use Rattle.page.specs.declared.Fault.{Fault}
use Rattle.page.specs.declared.PageRead.{PageRead}
use Rattle.page.specs.Page.{ranks_before, first_fault, page_read}
use Rattle.page.proofs.Accepted.{accepted-page}
use Rattle.page.proofs.LineNumbers.{line-number}
use Rattle.query.specs.Query.{refusal_of}
use Rattle.text.specs.Lines.{newline}
use Rattle.values.specs.Values.{day_read}
use Rattle.values.proofs.Refusals.{either}
use Rattle.words.specs.Words.{hash, run_length, up_to, after_first, first_word, after_word, unmarked}
use Rattle.question.specs.declared.Question.{Question}
use Rattle.question.specs.Questions.{day_in_range, day_line_read, day_or_fault, first_line_read, a_line_down, behind_day, asked_by, question_read}

-- ---- the day
abbrev IsDay : {E : Type 0} → Result ℕ E → Type 0
IsDay a = IfOk a (λ d. d ≤ last_day)

in-range : (a : Result ℕ Refusal) → IsDay (and_then a (λ n. day_in_range n))
in-range (Ok n) = cond_both (leb n last_day) (Ok n) (Err OutOfRange) IsDay (λ e. leb-true n last_day e) (λ _. tt {0})
in-range (Err r) = tt {0}

line-day : (l : List ℕ) → IsDay (day_line_read l)
unfolding day_line_read
line-day l = either IsDay (eqb (length (first_word (after_word (up_to hash l)))) 0) (in-range (day_read (first_word (up_to hash l)))) (tt {0})

fault-day : (a : Result ℕ Refusal) → IsDay a → IsDay (day_or_fault a)
unfolding day_or_fault
fault-day (Ok d) h = h
fault-day (Err r) h = tt {0}

first-day : (text : List ℕ) → IsDay (first_line_read text)
unfolding first_line_read
first-day text = either IsDay (eqb (run_length false newline text) (length text)) (tt {0}) (fault-day _ (line-day (up_to newline text)))

-- ---- A QUESTION that is not refused
pub record AcceptedQuestion (q : Question) : Type 0 where
  pub day : q.day ≤ last_day
  pub query : refusal_of q.query ≡ 0

-- both are accepted: its day is the first line's, and its query and how the days are printed are the page's
record Both (first : Result ℕ Fault) (page : Result PageRead Fault) (q : Question) : Type 0 where
  line : first ≡ Ok q.day
  rest : page ≡ Ok (record { query = q.query; print = q.print })

both : (first : Result ℕ Fault) (page : Result PageRead Fault) {q : Question} → asked_by first page ≡ Ok q → Both first page q
unfolding asked_by
both first page e = IfOk-at_ok (λ (q : Question). Both first page q) e (go first page)
  where
    go : (first : Result ℕ Fault) (page : Result PageRead Fault) → IfOk (asked_by first page) (λ (q : Question). Both first page q)
    go (Ok d) (Ok page) = record { line = refl; rest = refl }
    go (Ok d) (Err f) = tt {0}
    go (Err f) (Ok page) = tt {0}
    go (Err f) (Err g) = tt {0}

page-query : (text : List ℕ) → IfOk (behind_day text) (λ (r : PageRead). refusal_of r.query ≡ 0)
page-query text = go (page_read (after_first newline text)) refl
  where
    go : (page : Result PageRead Fault) → page_read (after_first newline text) ≡ page → IfOk (a_line_down page) (λ (r : PageRead). refusal_of r.query ≡ 0)
    go (Ok page) e = accepted-page (after_first newline text) e
    go (Err f) e = tt {0}

pub accepted-text : (text : List ℕ) {q : Question} → question_read text ≡ Ok q → AcceptedQuestion q
unfolding question_read
accepted-text text e =
    let k = both (first_line_read (unmarked text)) (behind_day text) e in
    record {
      day = IfOk-at_ok (λ (d : ℕ). d ≤ last_day) k.line (first-day (unmarked text));
      query = IfOk-at_ok (λ (r : PageRead). refusal_of r.query ≡ 0) k.rest (page-query text);
    }

-- ---- the line at fault
abbrev Early : {A : Type 0} → ℕ → Result A Fault → Type 0
Early n r = IfErr r (λ (f : Fault). f.line ≤ n)

page-line : (text : List ℕ) → Early (length text + 2) (behind_day text)
page-line text = go (page_read (after_first newline text)) refl
  where
    go : (page : Result PageRead Fault) → page_read (after_first newline text) ≡ page → Early (length text + 2) (a_line_down page)
    go (Ok page) e = tt {0}
    go (Err f) e =
        let shorter : length (after_first newline text) ≤ length text = unfold after_first in simp length-drop (omega arith) in
        omega (arith, line-number (after_first newline text) e)

first-line : (text : List ℕ) → Early 1 (first_line_read text)
unfolding first_line_read day_or_fault
first-line text = either (Early 1) (eqb (run_length false newline text) (length text)) (omega arith) (go (day_line_read (up_to newline text)))
  where
    go : (a : Result ℕ Refusal) → Early 1 (day_or_fault a)
    go (Ok d) = tt {0}
    go (Err r) = omega arith

either-line : (n : ℕ) (first : Result ℕ Fault) (page : Result PageRead Fault) → Early 1 first → Early (n + 2) page → Early (n + 2) (asked_by first page)
unfolding asked_by first_fault
either-line n (Ok d) (Ok page) h k = tt {0}
either-line n (Ok d) (Err f) h k = k
either-line n (Err f) (Ok page) h k = omega arith
either-line n (Err f) (Err g) h k = either (λ (x : Fault). x.line ≤ n + 2) (ranks_before (refusal_number g.refusal) (refusal_number f.refusal)) k (omega arith)

pub line-at-fault : (text : List ℕ) {f : Fault} → question_read text ≡ Err f → f.line ≤ length text + 2
unfolding question_read
line-at-fault text e =
    IfErr-at_err (λ (f : Fault). f.line ≤ length text + 2) e (either-line (length text) _ _ (first-line (unmarked text)) (page-line text))

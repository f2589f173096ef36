-- A line without a mark means what it means where there is none; and what a span that is accepted keeps to, by cases
-- on the tests of the meaning. Assumes nothing.
use mathlib.Core.Bool.{Bool, true, false, cond, ◌&&◌, true≢false}
use mathlib.Core.List.{List}
use mathlib.Core.Path.{◌≡◌, refl}
use Prim.Native.Nat.{ℕ}
use lib.Dec.{ltb}
use lib.ListN.{length}
use Rattle.std.specs.Prelude.{Result, Ok, Err}
use Rattle.std.proofs.lemmas.Result.{IfOk-at_ok}
use Rattle.days.specs.declared.refusal.Refusal.{Refusal}
use Rattle.days.specs.declared.refusal.Refusal.TheVariants.{BadInput}
use Rattle.days.proofs.Laws.{Span as Ordered}
use Rattle.text.specs.Inputs.{too_long}
use Rattle.text.specs.Lines.{newline}
use Rattle.values.proofs.Refusals.{either}
use Rattle.words.specs.Words.{hash, up_to}
use Rattle.span_line.specs.declared.Span.{Span}
use Rattle.span_line.specs.declared.Marked.{Marked}
use Rattle.span_line.specs.SpanLine.{span_line, is_one_line, span_read, span_input}
use Rattle.span_line.specs.Marked.{is_marked, not_marked, marked_line, marked_input}
use Rattle.span_line.proofs.Laws.{Sound, days-sound, line-sound}

-- ---- THE LAW: without the mark an input means what it means where there is none
abbrev AsBefore : Result Span Refusal → Marked → Type 0
AsBefore s m = m.marked ≡ false → m.span ≡ s

line-as-before : (mark l : List ℕ) → AsBefore (span_line l) (marked_line mark l)
unfolding marked_line
line-as-before mark l = either (AsBefore (span_line l)) (is_marked mark (up_to hash l)) (λ e. absurd (true≢false e)) (λ e. refl)

pub as_before : (mark input : List ℕ) → (marked_input mark input).marked ≡ false → (marked_input mark input).span ≡ span_input input
unfolding marked_input span_input span_read
as_before mark input = go (ltb (length input) too_long) (is_one_line input) refl refl
  where
    go :
        (t u : Bool) →
        ltb (length input) too_long ≡ t →
        is_one_line input ≡ u →
        AsBefore (cond t (cond u (span_line (up_to newline input)) (Err BadInput)) (Err BadInput)) (cond (t && u) (marked_line mark (up_to newline input)) (not_marked (Err BadInput)))
    go true true e f = line-as-before mark (up_to newline input)
    go true false e f = λ _. refl
    go false u e f = λ _. refl

-- ---- a span that is accepted
marked-sound : (mark l : List ℕ) → Sound (marked_line mark l).span
unfolding marked_line
marked-sound mark l =
    either (λ (m : Marked). Sound m.span) (is_marked mark (up_to hash l)) (days-sound _ _) (line-sound l)

input-sound : (mark input : List ℕ) → Sound (marked_input mark input).span
unfolding marked_input
input-sound mark input =
    either (λ (m : Marked). Sound m.span) (ltb (length input) too_long && is_one_line input) (marked-sound mark (up_to newline input)) (tt {0})

pub accepted-marked : (mark input : List ℕ) {s : Span} → (marked_input mark input).span ≡ Ok s → Ordered s.first s.last
accepted-marked mark input e = IfOk-at_ok (λ (s : Span). Ordered s.first s.last) e (input-sound mark input)

-- `set_of` meets its contract: `Reading` holds before each value. Assumes nothing.
use Rattle.std.proofs.Common.{ap, sym, ◌∙◌, ◌≡◌, ◌-◌, ◌+◌, length, arith}
use Rattle.std.proofs.lemmas.Result.{err_from_is_err_and}
use borrow.Author.Tests.{eqb-true, eqb-false}
use Rattle.words.specs.Words.{first_word}
use Rattle.values.proofs.Readings.{reading-end, reading-many, reading-unread, reading-refused, reading-next}
use Rattle.values.proofs.set_of.Goals as goal
use Rattle.values.proofs.set_of.Goals.{Else-is_empty}

-- there is a word
some-word : (c : Else-is_empty) → length (first_word c.loop-taken.rest.now) ≡ 0 → ⊥
some-word c z = eqb-false _ 0 (sym c.if-is_empty.ensures) (ap length c.first_word-first.ensures ∙ z)

pub returns-then-is_empty : goal.returns-then-is_empty
returns-then-is_empty c =
    c.no_empty_set.ensures
    ∙ reading-end _ _ _ _ _ _ c.loop-taken.invariant.1 (ap length (sym c.first_word-first.ensures) ∙ eqb-true _ 0 (sym c.if-is_empty.ensures))

pub returns-in_err-value : goal.returns-in_err-value
returns-in_err-value c =
    let p = err_from_is_err_and c.from_residual.result c.from_residual.ensures.1 in
    rw (p.1, p.2)
    (reading-unread _ _ _ _ _ _ c.loop-taken.invariant.1 (some-word (goal.at.returns-in_err-value c).Else-is_empty) (omega arith) (rw c.read_value-next.ensures at c.in_err-value.was))

pub returns-in_err-more : goal.returns-in_err-more
returns-in_err-more c =
    let p = err_from_is_err_and c.from_residual-in_err-more.result c.from_residual-in_err-more.ensures.1 in
    rw (p.1, p.2)
    (reading-refused _ _ _ _ _ _ c.loop-taken.invariant.1 (some-word (goal.at.returns-in_err-more c).Else-is_empty) (omega arith)
    (rw c.read_value-next.ensures at c.in_ok-value.was)
    (sym c.with_value.ensures ∙ c.in_err-more.was))

pub loop-taken-preserved : goal.loop-taken-preserved
loop-taken-preserved c =
    let less : c.args.most - (c.loop-taken.taken + 1) ≡ c.args.most - c.loop-taken.taken - 1 = omega arith in (
      omega arith,
      rw (less, c.after_words-rest.ensures, c.read_value-next.ensures)
          (reading-next _ _ _ _ _ _ c.loop-taken.invariant.1 (some-word (goal.at.loop-taken-preserved c).Else-is_empty) (omega arith)
          (rw c.read_value-next.ensures at c.in_ok-value.was)
          (sym c.with_value.ensures ∙ c.in_ok-more.was)),
    )

pub returns-then-is_empty-2 : goal.returns-then-is_empty-2
returns-then-is_empty-2 c =
    c.no_empty_set-then-is_empty-2.ensures
    ∙ reading-end _ _ _ _ _ _ c.loop-taken.invariant.1 (ap length (sym c.first_word.ensures) ∙ eqb-true _ 0 (sym c.if-is_empty-2.ensures))

pub returns-else-is_empty-2 : goal.returns-else-is_empty-2
returns-else-is_empty-2 c =
    reading-many _ _ _ _ _ _ c.loop-taken.invariant.1 (λ z. eqb-false _ 0 (sym c.if-is_empty-2.ensures) (ap length c.first_word.ensures ∙ z)) (omega arith)

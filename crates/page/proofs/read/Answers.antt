-- `read` meets its contract: `Reading` holds before each line. Assumes nothing.
use mathlib.Core.Path.{sym, ap, ◌∙◌}
use native.Mathlib.Omega.{arith}
use Rattle.words.proofs.Pieces.{after-shorter}
use Rattle.page.specs.Page.{line_read, page_answer}
use Rattle.page.proofs.Reading.{keyword-known, reading-start, reading-next, reading-blank, reading-not-ended, reading-end}
use Rattle.page.proofs.read.Goals as goal
use Rattle.page.proofs.read.Goals.{in-Blank, in_default}

pub loop-rest-init : goal.loop-rest-init
loop-rest-init c = rw (c.unmarked-rest.ensures, c.empty_page-page.ensures) (reading-start _)

pub returns-then-run_length-rest : goal.returns-then-run_length-rest
returns-then-run_length-rest c = c.page_answer.ensures ∙ ap page_answer c.with_fault.ensures ∙ reading-not-ended _ _ _ _ c.loop-rest.invariant c.loop-rest-test.true (sym c.run_length.ensures ∙ c.if-run_length-rest.true)

pub with_line-page-requires : goal.with_line-page-requires
with_line-page-requires c = rw c.read_line.ensures (keyword-known _)

pub overflow_add-number : goal.overflow_add-number
overflow_add-number c = omega (arith, c.loop-rest.invariant.room, c.well_formed.0.1)

pub loop-rest-smaller : goal.loop-rest-smaller
loop-rest-smaller c = rw c.after-others.ensures (after-shorter _ _ (λ end. c.if-run_length-rest.false (c.run_length.ensures ∙ end)))

pub loop-rest-preserved : goal.loop-rest-preserved
loop-rest-preserved c =
    let next = reading-next _ _ _ _ c.loop-rest.invariant (λ end. c.if-run_length-rest.false (c.run_length.ensures ∙ end)) in
    elim c.match-read_line.branch [
      | in-Blank w ↦ rw (c.after-others.ensures, w.page-is) (reading-blank _ _ _ _ _ _ (sym (c.read_line.ensures ∙ ap line_read c.up_to.ensures) ∙ w.in-Blank.is) next)
      | in_default w ↦ rw (c.after-others.ensures, w.page-is, w.with_line-page.ensures, c.read_line.ensures, c.up_to.ensures) next
    ]

pub returns : goal.returns
returns c = c.page_answer-2.ensures ∙ reading-end _ _ _ _ c.loop-rest.invariant (omega arith)

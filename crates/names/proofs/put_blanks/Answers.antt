-- `put_blanks` meets its contract. The loop's invariant: with the blanks from this column on, the line is the whole.
-- Assumes nothing.
use mathlib.Core.Path.{refl, ap, sym, ◌∙◌}
use native.Mathlib.Omega.{arith}
use Rattle.text.specs.Lines.{space, with_bytes}
use Rattle.text.proofs.Lines.{with-bytes-none, with-bytes-more}
use Rattle.names.proofs.Columns.{blanks-more, blanks-none}
use Rattle.names.proofs.put_blanks.Goals as goal

pub loop-at-init : goal.loop-at-init
loop-at-init c = refl

pub loop-at-preserved : goal.loop-at-preserved
loop-at-preserved c =
    let l = c.loop-at in
    rw c.byte-made.ensures
    (sym (ap (with_bytes l.made) (blanks-more l.at _ (omega arith)) ∙ with-bytes-more l.made space _) ∙ l.invariant)

pub returns : goal.returns
returns c =
    let l = c.loop-at in
    sym (ap (with_bytes l.made) (blanks-none l.at _ (omega arith)) ∙ with-bytes-none l.made) ∙ l.invariant

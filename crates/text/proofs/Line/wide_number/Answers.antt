-- `text::Line::wide_number` meets its contract: the part that is lent is all the digits written. Assumes nothing.
use mathlib.Core.Path.{ap, ◌∙◌}
use Rattle.text.specs.Lines.{with_bytes}
use Rattle.text.proofs.Lending.{lent-rest}
use Rattle.text.proofs.Line.wide_number.Goals as goal

pub returns : goal.returns
returns c =
    let written = c.decimal-digits in
    c.text.ensures
    ∙ ap (with_bytes _) ((rw written.ensures.0 at (lent-rest written.result.bytes written.result.from)) ∙ written.ensures.2)

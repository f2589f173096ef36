-- `read_date` meets its contract: each test is one of the form's. Assumes nothing.
use mathlib.Core.Path.{◌∙◌}
use Rattle.date_lines.proofs.Lines.{other_length, no-first-dash, no-second-dash, no-newline, no-digits, digits, few-read}
use Rattle.date_lines.proofs.read_date.Goals as goal

pub returns-then-line-ne-DATE_BYTES : goal.returns-then-line-ne-DATE_BYTES
returns-then-line-ne-DATE_BYTES c = other_length _ c.if-line-ne-DATE_BYTES.true

pub returns-then-line-ne45 : goal.returns-then-line-ne45
returns-then-line-ne45 c = no-first-dash _ c.if-line-ne-DATE_BYTES.false c.if-line-ne45.true

pub returns-then-line-ne45-2 : goal.returns-then-line-ne45-2
returns-then-line-ne45-2 c = no-second-dash _ c.if-line-ne-DATE_BYTES.false c.if-line-ne45.false c.if-line-ne45-2.true

pub returns-then-line-ne10 : goal.returns-then-line-ne10
returns-then-line-ne10 c = no-newline _ c.if-line-ne-DATE_BYTES.false c.if-line-ne45.false c.if-line-ne45-2.false c.if-line-ne10.true

pub returns-in_default : goal.returns-in_default
returns-in_default c = no-digits _ c.if-line-ne-DATE_BYTES.false c.if-line-ne45.false c.if-line-ne45-2.false c.if-line-ne10.false (few-read c.args.line.now) c.in_default.ensures

pub returns : goal.returns
returns c = c.day_of.ensures ∙ digits _ c.if-line-ne-DATE_BYTES.false c.if-line-ne45.false c.if-line-ne45-2.false c.if-line-ne10.false (few-read c.args.line.now) c.in-Ok.ensures

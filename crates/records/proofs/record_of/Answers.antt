-- `record_of` meets its contract, case by case. Assumes nothing.
use mathlib.Core.Path.{sym, ap, ◌∙◌}
use Rattle.std.specs.Prelude.{Ok}
use Rattle.records.proofs.Answers.{record-bad-edition, record-out-of-range, record-given}
use Rattle.records.proofs.record_of.Goals as goal

pub returns-then-not-is_edition : goal.returns-then-not-is_edition
returns-then-not-is_edition c = sym (record-bad-edition _ _ (sym c.is_edition.ensures ∙ c.if-not-is_edition.true))

pub returns-then-number-gt-LAST : goal.returns-then-number-gt-LAST
returns-then-number-gt-LAST c = sym (record-out-of-range _ _ (sym c.is_edition.ensures ∙ c.if-not-is_edition.false) c.if-number-gt-LAST.true)

pub filled-requires : goal.filled-requires
filled-requires c = (sym c.is_edition.ensures ∙ c.if-not-is_edition.false, c.if-number-gt-LAST.false)

pub returns : goal.returns
returns c = ap Ok c.filled.ensures ∙ sym (record-given _ _ (sym c.is_edition.ensures ∙ c.if-not-is_edition.false) c.if-number-gt-LAST.false)

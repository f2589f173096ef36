-- `month_from` meets its contract, case by case: where the last of thirty days is in range all are, and filled together
-- they are the month's.
-- Assumes nothing.
use mathlib.Core.Path.{sym, ap, ◌∙◌}
use native.Mathlib.Omega.{arith}
use Rattle.std.specs.Prelude.{Ok}
use Rattle.records.specs.Records.{filled_after}
use Rattle.records.proofs.Thirty.{month-bad-edition, month-out-of-range, month-given, thirty-filled}
use Rattle.records.proofs.month_from.Goals as goal

pub returns-then-not-is_edition : goal.returns-then-not-is_edition
returns-then-not-is_edition c = sym (month-bad-edition _ _ (sym c.is_edition.ensures ∙ c.if-not-is_edition.true))

pub returns-then-first-gt-LAST_FIRST : goal.returns-then-first-gt-LAST_FIRST
returns-then-first-gt-LAST_FIRST c = sym (month-out-of-range _ _ (sym c.is_edition.ensures ∙ c.if-not-is_edition.false) (omega arith))

pub returns-else-first-gt-LAST_FIRST : goal.returns-else-first-gt-LAST_FIRST
returns-else-first-gt-LAST_FIRST c =
    let e = c.args.edition in
    let edition = sym c.is_edition.ensures ∙ c.if-not-is_edition.false in
    let records = c.filled_thirty.ensures ∙ ap (filled_after e) c.thirty_from-thirty.ensures ∙ thirty-filled _ _ edition (omega arith) in
    ap Ok records ∙ sym (month-given _ _ edition (omega arith))

-- `thirty_from` meets its contract: each record is its index's.
-- Assumes nothing.
use Rattle.std.proofs.Common.{rules}
use Rattle.records.specs.Records.{unfilled_on, no_record}
use Rattle.records.proofs.Thirty.{thirty-is}
use Rattle.records.proofs.thirty_from.Goals as goal

pub returns : goal.returns
returns c = thirty-is unfilled_on _ _ no_record _ _ c.from_fn.ensures.items (λ i y q k. search rules)

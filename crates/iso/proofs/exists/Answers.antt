-- `exists` meets its contract: the year among 2000 to 2399 that the date's year goes round to has the same months.
use mathlib.Core.Path.{◌∙◌}
use native.Mathlib.Omega.{arith}
use Rattle.iso.proofs.Later.{exists-round}
use Rattle.iso.proofs.exists.Goals as goal

pub returns : goal.returns
returns c = c.exists.ensures ∙ exists-round c.args.date _ (omega arith) (omega arith)

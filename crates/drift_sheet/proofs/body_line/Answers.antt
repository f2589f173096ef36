-- `body_line` meets its contract: what is put one after another is put at once, and it fits. Assumes nothing.
use native.Mathlib.Omega.{arith}
use Rattle.text.proofs.Holding.{holds}
use Rattle.words.specs.Words.{pieces, is_separator, in_front}
use Rattle.drift_sheet.proofs.Fitting.{body-line-fits, body-line-made}
use Rattle.drift_sheet.proofs.body_line.Goals as goal

pub returns : goal.returns
unfolding pieces is_separator in_front
returns c =
    let fits = c.ranges in
    holds _ _ (body-line-fits _ _ _ _ (omega arith) (omega arith) (omega arith))
    (rw (
      c.byte-3.ensures,
      c.put_day.ensures,
      c.byte-fraction.ensures,
      c.wide_number-2.ensures,
      c.byte-2.ensures,
      c.wide_number.ensures,
      c.byte.ensures,
      c.text.ensures,
      c.empty.ensures,
    )
    (body-line-made _ _ _ _ _ c.name_at-name.ensures))

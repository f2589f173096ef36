-- `degrees` meets its contract: the cast reads the number back from its bits, and the division rounds once. Assumes
-- nothing.
use mathlib.Core.Path.{ap, ◌∙◌}
use lib.IntN.{ℤ}
use lib.Ieee.{binary64, div, of_int, of_bits}
use mir.Syntax.{w32}
use mir.ValLaws.{to_z-of_z}
use Rattle.arms.proofs.Once.{bits-3600, once}
use Rattle.arms.proofs.degrees.Goals as goal

pub returns : goal.returns
returns c =
    let z = c.args.seconds in
    let f = c.ranges.seconds in
    ap (λ (y : ℤ). div binary64 (of_int binary64 y) (of_bits binary64 bits-3600)) (to_z-of_z w32 z f) ∙ once z f

-- `true_planet` meets its contract: its calls are the meaning's steps, each correction with its sign a number of
-- seconds forwards.
use mathlib.Core.Path.{ap, ◌∙◌}
use Prim.Native.Nat.{ℕ, ◌+◌, ◌/◌, ◌%◌}
use Rattle.longitudes.specs.Longitudes.{circle, difference_of}
use Rattle.planets.specs.Tables.{straight_line}
use Rattle.planets.specs.Steps.{sighra_size, manda_size}
use Rattle.planets.proofs.Signs.{size_is}
use Rattle.planets.proofs.Steps.{steps}
use Rattle.planets.proofs.true_planet.Goals as goal

pub returns : goal.returns
unfolding sighra_size manda_size
returns c =
    let a = c.args in
    let row = a.row.now in
    c.within_circle.ensures.0
    ∙ ap (λ (n : ℕ). (n + c.forwards-whole.result) % circle) c.within_circle-middle.ensures.0
    ∙ steps
    (record {
      half-signed = size_is (ap (λ (n : ℕ). n / 2) (c.on_line.ensures.0 ∙ ap (straight_line row.sighra) c.within_half.ensures.0)) c.forwards-half.ensures;
      anomaly-is = c.less-anomaly.ensures.0 ∙ ap (difference_of row.apogee) c.within_circle-place.ensures.0;
      manda-signed = size_is (c.on_line-2.ensures.0 ∙ ap (straight_line row.manda) c.within_quarter.ensures.0) c.forwards-centre.ensures;
      second_is = c.less-second.ensures.0;
      whole-signed = size_is (c.on_line-3.ensures.0 ∙ ap (straight_line row.sighra) c.within_half-2.ensures.0) c.forwards-whole.ensures;
    })

-- `bridge_iso_day` meets its contract: the answer in one number. Assumes nothing.
use mathlib.Core.Path.{ap, ap₂, ◌∙◌}
use Prim.Native.Nat.{ℕ}
use Rattle.bridge.specs.Iso.{in_one, day_in_one}
use Rattle.bridge.proofs.iso_dates.bridge_iso_day.Goals as goal

pub returns : goal.returns
returns c =
    c.in_one.ensures
    ∙ ap₂ (λ (refusal day : ℕ). in_one refusal day) c.result_number.ensures c.unwrap_or.ensures
    ∙ ap day_in_one c.day_of-answer.ensures

-- What only contracts of private functions speak of: why a day is not listed, in numbers.
-- Assumes nothing.
use Rattle.std.specs.Prelude.{◌≡◌, List, ℕ, Result, Ok, Err}
use Rattle.days.specs.declared.refusal.Refusal.{Refusal}
use Rattle.days.specs.Refusals.{result_number, part_or_zero}
use Rattle.reasons.specs.Conditions.{Cause}
use Rattle.reasons.specs.Reasons.{Numbers}
use Rattle.bridge.specs.declared.whys.Cause.{Cause as CauseFound}
use Rattle.bridge.specs.declared.whys.Told.{Told}
use Rattle.bridge.specs.Answers.{one_number, six_of}

pub record BridgeCause (meant : Cause) (found : CauseFound) : Type 0 where
  pub condition : found.condition ≡ meant.condition
  pub asked : found.asked ≡ six_of meant.asked
  pub value : found.found ≡ meant.found

-- the values asked; six zeros of a refusal
abbrev pub asked_told : Result Told Refusal → List ℕ
asked_told (Ok told) = told.cause.asked
asked_told (Err refusal) = one_number 0

pub record BridgeWhy (meant : Numbers) (found : Result Told Refusal) : Type 0 where
  pub result : result_number found ≡ meant.refusal
  pub edition : part_or_zero (λ (t : Told). t.edition) found ≡ meant.edition
  pub condition : part_or_zero (λ (t : Told). t.cause.condition) found ≡ meant.cause.condition
  pub asked : asked_told found ≡ six_of meant.cause.asked
  pub value : part_or_zero (λ (t : Told). t.cause.found) found ≡ meant.cause.found

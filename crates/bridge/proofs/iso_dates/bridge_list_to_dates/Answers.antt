-- `bridge_list_to_dates` meets its contract: the answer in one number. Assumes nothing.
use mathlib.Core.Path.{ap, ◌∙◌}
use Rattle.bridge.specs.Iso.{length_in_one}
use Rattle.bridge.proofs.iso_dates.bridge_list_to_dates.Goals as goal

pub returns : goal.returns
returns c = record { value = c.length_in_one.ensures ∙ ap length_in_one c.list_to_lines.ensures.value; text_after = c.list_to_lines.ensures.text_after }

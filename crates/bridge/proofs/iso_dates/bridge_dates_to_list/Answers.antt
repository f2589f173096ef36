-- `bridge_dates_to_list` meets its contract: the answer in one number. Assumes nothing.
use mathlib.Core.Path.{ap, ◌∙◌}
use Rattle.bridge.specs.Iso.{length_in_one}
use Rattle.bridge.proofs.iso_dates.bridge_dates_to_list.Goals as goal

pub returns : goal.returns
returns c = record { value = c.length_in_one.ensures ∙ ap length_in_one c.lines_to_list.ensures.value; list_after = c.lines_to_list.ensures.list_after }

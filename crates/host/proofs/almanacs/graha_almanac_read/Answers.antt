-- `graha_almanac_read` meets its contract: the library's promise, by its number.
use mathlib.Core.Path.{ap, ◌∙◌}
use Rattle.entries.specs.Told.{put_number}
use Rattle.almanac.specs.Reading.{reading_result}
use Rattle.host.proofs.almanacs.graha_almanac_read.Goals as goal

pub returns : goal.returns
unfolding reading_result
returns c =
    let s = c.read.ensures in
    record { value = c.put_number.ensures ∙ ap put_number s.value; list_after = s.list_after }

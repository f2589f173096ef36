-- `graha_almanac_write` meets its contract: the library's promise, by its number.
use mathlib.Core.Path.{ap, ◌∙◌}
use Rattle.entries.specs.Told.{put_number}
use Rattle.almanac.proofs.Answers.{writing-number}
use Rattle.host.proofs.almanacs.graha_almanac_write.Goals as goal

pub returns : goal.returns
returns c =
    let s = c.write.ensures in
    record { value = c.put_number.ensures ∙ ap put_number s.value ∙ writing-number _ _ _; file_after = s.file_after }

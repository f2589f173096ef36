-- `graha_sign_entries` meets its contract: the library's promise, by its number.
use mathlib.Core.Path.{ap, ◌∙◌}
use Rattle.entries.specs.Told.{put_number}
use Rattle.zodiac.proofs.Answers.{listing-number}
use Rattle.host.proofs.signs.graha_sign_entries.Goals as goal

pub returns : goal.returns
returns c =
    let s = c.sign_entries.ensures in
    record { value = c.put_number.ensures ∙ ap put_number s.value ∙ listing-number _ _ _ _; list_after = s.list_after }

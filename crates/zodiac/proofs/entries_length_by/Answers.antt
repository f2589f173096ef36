-- `entries_length_by` meets its contract: the number is what is put or would do, refused as the listing is.
use Rattle.zodiac.proofs.Answers.{number-by, number-short, number-refused}
use Rattle.zodiac.proofs.entries_length_by.Goals as goal

pub returns-in-Ok : goal.returns-in-Ok
returns-in-Ok c = number-by _ _ _ _ c.in-Ok.ensures.value

pub returns-in-Err-TooShort : goal.returns-in-Err-TooShort
returns-in-Err-TooShort c = number-short _ _ _ _ (rw c.in-Err-TooShort.field-0-is at c.in-Err-TooShort.ensures.value)

pub returns-in-Err-Refused : goal.returns-in-Err-Refused
returns-in-Err-Refused c = number-refused _ _ _ _ (rw c.in-Err-Refused.field-0-is at c.in-Err-Refused.ensures.value)

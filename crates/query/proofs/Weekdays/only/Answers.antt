-- `Weekdays::only` meets its contract: the set is the weekday's bit.
use Rattle.query.proofs.Weekdays.only.Goals as goal

pub returns : goal.returns
returns c = rw c.weekday_bit-set.ensures

-- `plain_names` meets its contract: a table's pieces are the names of its kind. Assumes nothing.
use Rattle.names.specs.declared.Kind.TheVariants.{Tithi, Nakshatra, Yoga, Karana, Sign, Month, Fortnight, Weekday}
use Rattle.names.proofs.Pieces.{plain-pieces}
use Rattle.names.proofs.plain_names.Goals as goal

pub returns-in-Tithi : goal.returns-in-Tithi
returns-in-Tithi c = rw c.in-Tithi.is (plain-pieces Tithi)

pub returns-in-Nakshatra : goal.returns-in-Nakshatra
returns-in-Nakshatra c = rw c.in-Nakshatra.is (plain-pieces Nakshatra)

pub returns-in-Yoga : goal.returns-in-Yoga
returns-in-Yoga c = rw c.in-Yoga.is (plain-pieces Yoga)

pub returns-in-Karana : goal.returns-in-Karana
returns-in-Karana c = rw c.in-Karana.is (plain-pieces Karana)

pub returns-in-Sign : goal.returns-in-Sign
returns-in-Sign c = rw c.in-Sign.is (plain-pieces Sign)

pub returns-in-Month : goal.returns-in-Month
returns-in-Month c = rw c.in-Month.is (plain-pieces Month)

pub returns-in-Fortnight : goal.returns-in-Fortnight
returns-in-Fortnight c = rw c.in-Fortnight.is (plain-pieces Fortnight)

pub returns-in-Weekday : goal.returns-in-Weekday
returns-in-Weekday c = rw c.in-Weekday.is (plain-pieces Weekday)

-- `other_names` meets its contract: a table's pieces are the names of its kind. Assumes nothing.
use Rattle.names.specs.declared.Kind.TheVariants.{Tithi, Nakshatra, Yoga, Karana, Sign, Month, Fortnight, Weekday}
use Rattle.names.proofs.Pieces.{other-pieces}
use Rattle.names.proofs.other_names.Goals as goal

pub returns-in-Tithi : goal.returns-in-Tithi
returns-in-Tithi c = rw c.in-Tithi.is (other-pieces Tithi)

pub returns-in-Nakshatra : goal.returns-in-Nakshatra
returns-in-Nakshatra c = rw c.in-Nakshatra.is (other-pieces Nakshatra)

pub returns-in-Yoga : goal.returns-in-Yoga
returns-in-Yoga c = rw c.in-Yoga.is (other-pieces Yoga)

pub returns-in-Karana : goal.returns-in-Karana
returns-in-Karana c = rw c.in-Karana.is (other-pieces Karana)

pub returns-in-Sign : goal.returns-in-Sign
returns-in-Sign c = rw c.in-Sign.is (other-pieces Sign)

pub returns-in-Month : goal.returns-in-Month
returns-in-Month c = rw c.in-Month.is (other-pieces Month)

pub returns-in-Fortnight : goal.returns-in-Fortnight
returns-in-Fortnight c = rw c.in-Fortnight.is (other-pieces Fortnight)

pub returns-in-Weekday : goal.returns-in-Weekday
returns-in-Weekday c = rw c.in-Weekday.is (other-pieces Weekday)

-- `put_word` meets its contract: an arm for each kind. Assumes nothing.
use Rattle.explanation.proofs.put_word.Goals as goal

pub returns-in-Tithi : goal.returns-in-Tithi
returns-in-Tithi c = rw c.in-Tithi.is c.text.ensures

pub returns-in-Nakshatra : goal.returns-in-Nakshatra
returns-in-Nakshatra c = rw c.in-Nakshatra.is c.text-in-Nakshatra.ensures

pub returns-in-Yoga : goal.returns-in-Yoga
returns-in-Yoga c = rw c.in-Yoga.is c.text-in-Yoga.ensures

pub returns-in-Karana : goal.returns-in-Karana
returns-in-Karana c = rw c.in-Karana.is c.text-in-Karana.ensures

pub returns-in-Sign : goal.returns-in-Sign
returns-in-Sign c = rw c.in-Sign.is c.text-in-Sign.ensures

pub returns-in-Month : goal.returns-in-Month
returns-in-Month c = rw c.in-Month.is c.text-in-Month.ensures

pub returns-in-Fortnight : goal.returns-in-Fortnight
returns-in-Fortnight c = rw c.in-Fortnight.is c.text-in-Fortnight.ensures

pub returns-in-Weekday : goal.returns-in-Weekday
returns-in-Weekday c = rw c.in-Weekday.is c.text-in-Weekday.ensures

-- `with_form` meets its contract: by the kind. Assumes nothing.
use Rattle.conversion.proofs.with_form.Goals as goal

pub returns-in-Dates : goal.returns-in-Dates
returns-in-Dates c = rw c.in-Dates.is c.text.ensures

pub returns-in-Days : goal.returns-in-Days
returns-in-Days c = rw c.in-Days.is c.text-in-Days.ensures

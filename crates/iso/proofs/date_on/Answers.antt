-- `date_on` meets its contract: what it reads from the day 400 years later is the day's date.
use Rattle.iso.proofs.Later.{spring-date, winter-date}
use Rattle.iso.proofs.date_on.Goals as goal

pub returns-then-m-lt10 : goal.returns-then-m-lt10
returns-then-m-lt10 c = spring-date _ c.if-m-lt10.true

pub returns-else-m-lt10 : goal.returns-else-m-lt10
returns-else-m-lt10 c = winter-date _ c.if-m-lt10.false

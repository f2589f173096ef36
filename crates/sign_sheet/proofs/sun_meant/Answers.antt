-- `sun_meant` meets its contract: by the mark. Assumes nothing.
use Rattle.sign_sheet.specs.SignSheets.{sun_meant}
use Rattle.sign_sheet.proofs.sun_meant.Goals as goal

pub returns-then-marked : goal.returns-then-marked
unfolding sun_meant
returns-then-marked c = rw c.if-marked.true

pub returns-else-marked : goal.returns-else-marked
unfolding sun_meant
returns-else-marked c = rw c.if-marked.false

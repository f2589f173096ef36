-- `signs_passed` meets its contract: the definition, step by step; the delay is over, or is not.
use borrow.Author.Tests.{lt-ltb, le-ltb}
use Rattle.zodiac.specs.Passed.{passed_by}
use Rattle.zodiac.proofs.signs_passed.Goals as goal

pub returns-then-seconds-delays : goal.returns-then-seconds-delays
unfolding passed_by
returns-then-seconds-delays c = rw (lt-ltb _ _ c.if-seconds-delays.true)

pub returns : goal.returns
unfolding passed_by
returns c = rw (le-ltb _ _ c.if-seconds-delays.false)

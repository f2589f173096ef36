-- `day_passing` meets its contract: the definition, step by step.
use native.Mathlib.Omega.{arith}
use Rattle.zodiac.specs.Passed.{day_by}
use borrow.Author.Rules.{rules}
use Rattle.zodiac.proofs.day_passing.Goals as goal

pub overflow_add-seconds : goal.overflow_add-seconds
overflow_add-seconds c = omega (arith, c.requires.1 c.args.signs)

pub overflow_mul-result : goal.overflow_mul-result
overflow_mul-result c = omega (arith, c.requires.1 c.args.signs)

pub overflow_add-result-2 : goal.overflow_add-result-2
overflow_add-result-2 c = omega (arith, c.requires.1 c.args.signs)

pub returns : goal.returns
unfolding day_by
returns c = search rules

-- `Reader::ended` meets its contract, case by case.
use mathlib.Core.Path.{sym}
use Rattle.almanac.specs.Reading.{days_unless}
use Rattle.almanac.proofs.Answers.{ended-broken, ended-none, ended-other, ended-whole}
use Rattle.almanac.proofs.Reader.ended.Goals as goal

pub returns-then-self : goal.returns-then-self
returns-then-self c = sym (ended-broken _ c.if-self.true)

pub returns-then-self-eq0 : goal.returns-then-self-eq0
returns-then-self-eq0 c = sym (ended-none _ c.if-self.false c.if-self-eq0.true)

pub returns-then-self-blocks_for : goal.returns-then-self-blocks_for
returns-then-self-blocks_for c = sym (ended-other _ c.if-self.false c.if-self-eq0.false _ c.blocks_for.ensures c.if-self-blocks_for.true)

pub returns-in-Ok : goal.returns-in-Ok
unfolding days_unless
returns-in-Ok c = rw (ended-whole c.args.self c.if-self.false c.if-self-eq0.false _ c.blocks_for.ensures c.if-self-blocks_for.false, c.in-Ok.is)

pub returns-in-Err : goal.returns-in-Err
unfolding days_unless
returns-in-Err c = rw (ended-whole c.args.self c.if-self.false c.if-self-eq0.false _ c.blocks_for.ensures c.if-self-blocks_for.false, c.in-Err.is)

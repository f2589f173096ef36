-- `last_entry` meets its contract. The loop's invariant is `Looking`; the measure is the entries left.
use native.Mathlib.Omega.{arith}
use Rattle.lunar_months.proofs.Latest.{looking-start, looking-here, looking-before, looking-two, looking-end, looking-first, looking-none}
use Rattle.lunar_months.proofs.last_entry.Goals as goal

pub loop-number-init : goal.loop-number-init
loop-number-init c = looking-start _ _ _

pub returns-then-last-day : goal.returns-then-last-day
returns-then-last-day c =
    looking-here _ _ _ _ c.loop-number.invariant (omega (arith, c.loop-number-test.true)) _ c.start_at-last.ensures c.if-last-day.true

pub returns-then-before-day : goal.returns-then-before-day
returns-then-before-day c =
    looking-before _ _ _ _ c.loop-number.invariant c.loop-number-test.true _ c.start_at-last.ensures c.if-last-day.false _ c.start_at-before.ensures c.if-before-day.true

pub loop-number-preserved : goal.loop-number-preserved
loop-number-preserved c =
    looking-two _ _ _ _ c.loop-number.invariant c.loop-number-test.true _ c.start_at-last.ensures c.if-last-day.false _ c.start_at-before.ensures c.if-before-day.false

pub returns-then-number-eq0 : goal.returns-then-number-eq0
returns-then-number-eq0 c = looking-end _ _ _ _ c.loop-number.invariant (omega (arith, c.if-number-eq0.true))

pub returns-then-first-day : goal.returns-then-first-day
returns-then-first-day c =
    looking-first _ _ _ _ c.loop-number.invariant (omega (arith, c.loop-number-test.false)) c.if-number-eq0.false _ c.start_at-first.ensures c.if-first-day.true

pub returns : goal.returns
returns c =
    looking-none _ _ _ _ c.loop-number.invariant (omega (arith, c.loop-number-test.false)) c.if-number-eq0.false _ c.start_at-first.ensures c.if-first-day.false

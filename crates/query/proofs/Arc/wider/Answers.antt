-- `Arc::wider` meets its contract: the test is the minimum's.
use mathlib.Core.Path.{◌≡◌}
use Prim.Native.Nat.{◌+◌, min}
use native.Mathlib.Omega.{arith}
use Rattle.longitudes.specs.Longitudes.{circle}
use Rattle.query.specs.SunArcs.{wider_arc}
use Rattle.query.proofs.Arc.wider.Goals as goal

pub returns-then-self : goal.returns-then-self
unfolding wider_arc
returns-then-self c =
    let a = c.args.self in
    let less : min (a.width + 15690) circle ≡ a.width + 15690 = omega (arith, c.if-self.true) in
    rw (c.difference-start.ensures, less)

pub returns : goal.returns
unfolding wider_arc
returns c =
    let a = c.args.self in
    let whole : min (a.width + 15690) circle ≡ circle = omega (arith, c.if-self.false) in
    rw (c.difference-start.ensures, whole)

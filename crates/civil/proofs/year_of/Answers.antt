-- `year_of` meets its contract: the closed rules give the year, the Gregorian one by its century.
use mathlib.Core.Path.{◌≡◌}
use Prim.Native.Nat.{◌+◌, ◌-◌}
use native.Mathlib.Omega.{arith}
use Rattle.civil.proofs.Years.{julian-year, gregorian-year}
use Rattle.civil.proofs.year_of.Goals as goal

pub returns-then-gregorian : goal.returns-then-gregorian
returns-then-gregorian c =
    let s = c.args.serial in
    let e : s - 5 + 5 ≡ s = omega arith in
    (rw c.if-gregorian.true (rw e at (gregorian-year (s - 5))), omega arith)

pub returns-else-gregorian : goal.returns-else-gregorian
returns-else-gregorian c = (rw c.if-gregorian.false (julian-year c.args.serial), omega arith)

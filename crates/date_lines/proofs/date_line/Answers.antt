-- `date_line` meets its contract: each place has its digit. Assumes nothing.
use mathlib.Core.Path.{◌≡◌}
use Prim.Native.Nat.{◌/◌, ◌%◌}
use Rattle.dated.specs.Dated.{full_date_bytes}
use Rattle.date_lines.specs.Lines.{date_line}
use native.Mathlib.Omega.{arith}
use Rattle.date_lines.proofs.date_line.Goals as goal

pub returns : goal.returns
unfolding date_line full_date_bytes
returns c =
    let x = c.args.date in
    let y : x.year / 1000 % 10 ≡ x.year / 1000 = omega arith in
    let m : x.month / 10 % 10 ≡ x.month / 10 = omega arith in
    let d : x.day / 10 % 10 ≡ x.day / 10 = omega arith in
    rw (y, m, d, c.digit-8.ensures, c.digit-7.ensures, c.digit-6.ensures, c.digit-5.ensures, c.digit-4.ensures, c.digit-3.ensures, c.digit-2.ensures, c.digit.ensures)

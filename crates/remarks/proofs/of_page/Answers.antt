-- `of_page` meets its contract: nothing is said of a page that is refused. Assumes nothing.
use mathlib.Core.Path.{◌≡◌}
use native.Mathlib.Omega.{arith}
use lib.ListN.{length}
use borrow.Author.Rules.{rules}
use Rattle.remarks.proofs.Saying.{refused-said, remarks-short}
use Rattle.remarks.proofs.of_page.Goals as goal

pub returns-then-is_err : goal.returns-then-is_err
returns-then-is_err c =
    let said = refused-said _ _ (rw (c.read-read.ensures, c.if-is_err.true) at c.is_err.ensures.negation) _ in
    record { value = said.0; buffer_after = said.1; upper_bound = omega arith }

pub put_all-requires : goal.put_all-requires
put_all-requires c =
    let size : length c.args.buffer.now ≡ 8192 = search rules in
    (rw (c.read-read.ensures, c.if-is_err.false) at c.is_err.ensures.negation, size)

pub returns : goal.returns
returns c =
    let put = c.put_all.ensures in
    record { value = put.value; buffer_after = put.buffer_after; upper_bound = omega (arith, put.value, remarks-short c.args.first c.args.text.now (omega arith)) }

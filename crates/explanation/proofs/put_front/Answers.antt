-- `put_front` meets its contract: a line's contents are as many of its bytes as its length says, and there are. Assumes
-- nothing.
use mathlib.Core.Path.{◌≡◌, sym}
use native.Mathlib.Omega.{arith}
use lib.ListN.{length}
use Rattle.text.proofs.Sheets.{contents-length}
use borrow.Author.Rules.{rules}
use Rattle.explanation.proofs.put_front.Goals as goal

pub returns-then-len-lt-CAPACITY : goal.returns-then-len-lt-CAPACITY
returns-then-len-lt-CAPACITY c =
    let l = c.args.line in
    let size : length l.bytes ≡ 160 = search rules in
    record { value = sym (contents-length l l.len size (omega arith)); buffer_after = c.put.ensures.buffer_after; upper_bound = omega arith }

pub returns : goal.returns
returns c =
    let l = c.args.line in
    let size : length l.bytes ≡ 160 = search rules in
    record { value = sym (contents-length l 160 size (omega arith)); buffer_after = c.put.ensures.buffer_after; upper_bound = omega arith }

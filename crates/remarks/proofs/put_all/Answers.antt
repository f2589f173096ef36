-- `put_all` meets its contract: `Saying` holds before each line. Assumes nothing.
use mathlib.Core.Path.{◌∙◌}
use native.Mathlib.Omega.{arith}
use Rattle.remarks.proofs.Cases.{contents-length}
use Rattle.remarks.proofs.Saying.{after_less, saying-start, same_size, line-room, saying-next, saying-end, last-room, saying-last}
use Rattle.remarks.proofs.put_all.Goals as goal

pub loop-rest-init : goal.loop-rest-init
loop-rest-init c = rw c.unmarked-rest.ensures (saying-start _ _ _ c.requires.0)

pub put_line-at-requires : goal.put_line-at-requires
put_line-at-requires c = rw c.up_to-line.ensures (line-room _ _ _ c.requires.0 (omega arith) c.requires.1 _ _ _ _ _ c.loop-rest.invariant)

pub overflow_add-number : goal.overflow_add-number
overflow_add-number c = omega (arith, c.loop-rest.invariant.room)

pub loop-rest-smaller : goal.loop-rest-smaller
loop-rest-smaller c = rw c.after-others.ensures (after_less _ c.loop-rest-test.true)

pub loop-rest-preserved : goal.loop-rest-preserved
loop-rest-preserved c =
    let put = c.put_line-at.ensures in
    rw (c.after-others.ensures, c.asked_with-asked.ensures, put.value, put.buffer_after, c.up_to-line.ensures) (saying-next _ _ _ c.requires.0 (omega arith) c.requires.1 _ _ _ _ _ c.loop-rest.invariant c.loop-rest-test.true)

pub shape_of-buffer-then-asked : goal.shape_of-buffer-then-asked
shape_of-buffer-then-asked c = same_size _ _ _ c.requires.0 (omega arith) c.requires.1 _ _ _ _ _ c.loop-rest.invariant

pub returns-then-asked : goal.returns-then-asked
returns-then-asked c = let both = saying-end _ _ _ c.requires.0 (omega arith) c.requires.1 _ _ _ _ _ c.loop-rest.invariant (omega arith) c.if-asked.true in record { value = both.0; buffer_after = both.1 }

pub put-requires : goal.put-requires
put-requires c =
    let said = c.nothing_asked.ensures in
    (contents-length said, rw said.whole (last-room _ _ _ c.requires.0 (omega arith) c.requires.1 _ _ _ _ _ c.loop-rest.invariant (omega arith) c.if-asked.false))

pub shape_of-buffer : goal.shape_of-buffer
shape_of-buffer c = c.put.auto.buffer ∙ same_size _ _ _ c.requires.0 (omega arith) c.requires.1 _ _ _ _ _ c.loop-rest.invariant

pub returns : goal.returns
returns c =
    let put = c.put.ensures in
    let said = c.nothing_asked.ensures in
    let all = saying-last _ _ _ c.requires.0 (omega arith) c.requires.1 _ _ _ _ _ c.loop-rest.invariant (omega arith) c.if-asked.false in
    record { value = (rw said.whole at put.value) ∙ all.0; buffer_after = (rw said.whole at put.buffer_after) ∙ all.1 }

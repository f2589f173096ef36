-- `put_lines` meets its contract: what was put and what the rest will put are the whole piece (Filling), which stays so
-- by each line and is the answer at each of the three ends. Assumes nothing.
use mathlib.Core.Path.{refl, sym, ◌∙◌}
use native.Mathlib.Omega.{arith}
use Rattle.entries.proofs.Listed.{Due, due-some}
use Rattle.text.proofs.Holding.{holds-room}
use Rattle.catalogue.proofs.Filling.{filling-start, filling_step, no-more, ended-list, ended-no-day, ended-no-room}
use Rattle.catalogue.proofs.put_lines.Goals as goal
use Rattle.catalogue.proofs.put_lines.Goals.{In-Ok}

due : (c : In-Ok) → Due c.args.list.now c.loop-day.piece.next c.in-Ok.day
due c = due-some _ _ (sym c.in-Ok.is ∙ c.entry_at.ensures)

pub loop-day-init : goal.loop-day-init
loop-day-init c = filling-start _ _ _ _ _ _ refl

pub returns-then-day-gt-LAST : goal.returns-then-day-gt-LAST
returns-then-day-gt-LAST c =
    let both = ended-no-day _ _ _ _ _ _ _ c.loop-day.invariant _ (due (goal.at.returns-then-day-gt-LAST c).In-Ok) c.if-day-gt-LAST.true in
    record { value = rw c.unless_empty.ensures both.0; buffer_after = both.1 }

pub overflow_cast-len : goal.overflow_cast-len
overflow_cast-len c = omega (arith, (holds-room c.day_line-line.ensures).1)

pub returns-then-buffer-piece : goal.returns-then-buffer-piece
returns-then-buffer-piece c =
    let both = ended-no-room _ _ _ _ _ _ _ c.loop-day.invariant _ (due (goal.at.returns-then-buffer-piece c).In-Ok) _ c.day_line-line.ensures c.if-day-gt-LAST.false (omega (arith, c.if-buffer-piece.true, c.loop-day.invariant.same)) in
    record { value = rw c.unless_empty-then-buffer-piece.ensures both.0; buffer_after = both.1 }

pub put-requires : goal.put-requires
put-requires c =
    let room = holds-room c.day_line-line.ensures in
    (room.0, room.1, omega (arith, c.if-buffer-piece.false, c.loop-day.invariant.same, c.loop-day.invariant.within))

pub overflow_add-piece-in-Ok : goal.overflow_add-piece-in-Ok
overflow_add-piece-in-Ok c = omega (arith, (due (goal.at.overflow_add-piece-in-Ok c).In-Ok).there)

pub loop-day-smaller : goal.loop-day-smaller
loop-day-smaller c = omega (arith, (due (goal.at.loop-day-smaller c).In-Ok).there)

pub loop-day-preserved : goal.loop-day-preserved
loop-day-preserved c =
    filling_step _ _ _ _ _ _ _ _ _ _ c.loop-day.invariant (due (goal.at.loop-day-preserved c).In-Ok) c.if-day-gt-LAST.false c.day_line-line.ensures (omega (arith, c.if-buffer-piece.false, c.loop-day.invariant.same)) c.put.ensures

pub returns : goal.returns
returns c =
    let both = ended-list _ _ _ _ _ _ _ c.loop-day.invariant (no-more _ _ _ c.entry_at.ensures c.in_default.not-Ok) in
    record { value = both.0; buffer_after = both.1 }

-- `print_days` meets its contract: the output from the bytes written on begins with the lines that are still due
-- (Printing), and a piece is the front of these. Their bytes are the measure. Assumes nothing.
use mathlib.Core.Path.{◌≡◌, sym, ◌∙◌}
use mathlib.Core.Bool.{true}
use native.Mathlib.Omega.{arith}
use Rattle.panchanga.specs.TrueLongitudes.{is_edition}
use Rattle.query.proofs.Accepted.{accepted-by}
use Rattle.std.specs.Prelude.{Ok}
use lib.ListN.{length}
use Rattle.catalogue.specs.Pieces.{lines_piece, of_edition}
use Rattle.find.proofs.Printing.{lines-there, printing-start, step, next-piece, printed, countable, fewer, printing-step}
use Rattle.find.proofs.print_days.Goals as goal
use Rattle.find.proofs.print_days.Goals.{After-unwrap-piece}

edition : (c : After-unwrap-piece) → is_edition c.args.query.edition ≡ true
edition c = (accepted-by _ c.requires.0).edition

told : (c : After-unwrap-piece) → Ok c.unwrap-piece.result ≡ of_edition c.args.query.edition (lines_piece c.args.print c.args.query.edition c.args.days.now c.loop-print.next (length c.loop-print.buffer))
told c = sym c.unwrap-piece.ensures ∙ c.lines_in.ensures.value

pub unwrap-piece-requires : goal.unwrap-piece-requires
unwrap-piece-requires c =
    lines-there _ _ _ _ _ _ _ _ c.loop-print.invariant (accepted-by _ c.requires.0).edition _ c.lines_in.ensures.value

pub loop-print-init : goal.loop-print-init
loop-print-init c = printing-start _ _ _ _ _ c.requires.1 c.requires.2

pub shape_of-buffer-then-bytes-eq0 : goal.shape_of-buffer-then-bytes-eq0
shape_of-buffer-then-bytes-eq0 c =
    c.lines_in.auto.buffer ∙ c.loop-print.invariant.same

pub returns-then-bytes-eq0 : goal.returns-then-bytes-eq0
returns-then-bytes-eq0 c =
    printed _ _ _ _ _ _ _ _ c.loop-print.invariant _ _ (edition (goal.at.returns-then-bytes-eq0 c).After-unwrap-piece) (told (goal.at.returns-then-bytes-eq0 c).After-unwrap-piece) c.lines_in.ensures.buffer_after c.if-bytes-eq0.true

pub slice_bounds-write_next-end : goal.slice_bounds-write_next-end
slice_bounds-write_next-end c =
    let going = step _ _ _ _ _ _ _ _ c.loop-print.invariant _ _ (edition (goal.at.slice_bounds-write_next-end c).After-unwrap-piece) (told (goal.at.slice_bounds-write_next-end c).After-unwrap-piece) c.lines_in.ensures.buffer_after in
    omega (arith, going.within, c.lines_in.auto.buffer)

pub slice_bounds-write_next-end-in-loop-print : goal.slice_bounds-write_next-end-in-loop-print
slice_bounds-write_next-end-in-loop-print c =
    let going = step _ _ _ _ _ _ _ _ c.loop-print.invariant _ _ (edition (goal.at.slice_bounds-write_next-end-in-loop-print c).After-unwrap-piece) (told (goal.at.slice_bounds-write_next-end-in-loop-print c).After-unwrap-piece) c.lines_in.ensures.buffer_after in
    sym going.front

pub write_next-requires : goal.write_next-requires
write_next-requires c =
    next-piece _ _ _ _ _ _ _ _ c.loop-print.invariant _ _ (edition (goal.at.write_next-requires c).After-unwrap-piece) (told (goal.at.write_next-requires c).After-unwrap-piece) c.lines_in.ensures.buffer_after

pub overflow_add-written : goal.overflow_add-written
overflow_add-written c =
    omega (arith, countable _ _ _ _ _ _ _ _ c.loop-print.invariant _ _ (edition (goal.at.overflow_add-written c).After-unwrap-piece) (told (goal.at.overflow_add-written c).After-unwrap-piece) c.lines_in.ensures.buffer_after c.requires.0 c.if-bytes-eq0.false)

pub loop-print-smaller : goal.loop-print-smaller
loop-print-smaller c =
    fewer _ _ _ _ _ _ _ _ c.loop-print.invariant _ _ (edition (goal.at.loop-print-smaller c).After-unwrap-piece) (told (goal.at.loop-print-smaller c).After-unwrap-piece) c.lines_in.ensures.buffer_after c.if-bytes-eq0.false

pub loop-print-preserved : goal.loop-print-preserved
loop-print-preserved c =
    printing-step _ _ _ _ _ _ _ _ c.loop-print.invariant _ _ (edition (goal.at.loop-print-preserved c).After-unwrap-piece) (told (goal.at.loop-print-preserved c).After-unwrap-piece) c.lines_in.ensures.buffer_after c.lines_in.auto.buffer

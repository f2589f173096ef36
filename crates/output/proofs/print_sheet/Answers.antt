-- `print_sheet` meets its contract: the lines from `from` to before `index` wait in the buffer (Waiting), and are
-- printed where the next one does not fit and at the end. Assumes nothing.
use Rattle.std.proofs.Common.{◌+◌, ◌≤◌, arith}
use Rattle.text.proofs.Holding.{holds-room}
use Rattle.text.proofs.Sheets.{Waiting, waiting_none}
use Rattle.output.proofs.Printing.{waiting-line}
use Rattle.output.proofs.print_sheet.Goals as goal
use Rattle.output.proofs.print_sheet.Goals.{then-bytes-len+in_ok-print_between, else-bytes-len}

pub loop-index-preserved : goal.loop-index-preserved
loop-index-preserved g c =
    let lines = g.S.Sheet.lines c.args.sheet.now in
    let inv = c.loop-index.invariant.1 in
    let few = (holds-room c.line-line.ensures).1 in
    -- the line has room in the buffer: it had, or those that waited were printed
    let room :
    Waiting lines 8192 c.loop-index.buffer c.if-bytes-len.from c.if-bytes-len.bytes c.loop-index.index
    × (c.if-bytes-len.bytes + c.line-line.result.len ≤ 8192) =
    elim c.if-bytes-len.branch [
      | then-bytes-len+in_ok-print_between w ↦ rw (w.from-is, w.bytes-is) (waiting_none _ _ _ _ inv.size inv.some, omega arith)
      | else-bytes-len w ↦ rw (w.from-is, w.bytes-is) (inv, omega (arith, w.if-bytes-len.false))
    ] in
    (c.loop-index.invariant.0, waiting-line _ _ _ _ _ _ _ _ room.0 (omega arith) c.line-line.ensures room.1 c.put.ensures.buffer_after)

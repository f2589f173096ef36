-- What each turn of the loop keeps.
use Rattle.std.proofs.Common.{◌≡◌, length}
use Rattle.text.proofs.Sheets.{Waiting}
use Rattle.output.proofs.print_sheet.Given as goal

abbrev pub invariant-loop-index : goal.invariant-loop-index
invariant-loop-index g l =
    let lines = g.S.Sheet.lines l.sheet in
    (l.lines ≡ length lines) × Waiting lines 8192 l.buffer l.from l.bytes l.index

-- `put_heading` meets its contract: its line is put at the front where it fits. Assumes nothing.
use native.Mathlib.Omega.{arith}
use Rattle.text.proofs.Holding.{holds-room}
use Rattle.catalogue.proofs.Headings.{line_refused, line-put}
use Rattle.catalogue.proofs.put_heading.Goals as goal

pub overflow_cast-result : goal.overflow_cast-result
overflow_cast-result c = omega (arith, (holds-room c.heading_line-line.ensures).1)

pub returns-then-buffer-len : goal.returns-then-buffer-len
returns-then-buffer-len c =
    let both = line_refused _ _ _ _ _ _ c.heading_line-line.ensures c.if-buffer-len.true in
    record { value = both.0; buffer_after = both.1 }

pub put-requires : goal.put-requires
put-requires c =
    let room = holds-room c.heading_line-line.ensures in
    (room.0, room.1, omega (arith, c.if-buffer-len.false))

pub returns : goal.returns
returns c =
    let both = line-put _ _ _ _ _ _ c.heading_line-line.ensures c.if-buffer-len.false in
    record { value = both.0; buffer_after = rw c.put.ensures both.1 }

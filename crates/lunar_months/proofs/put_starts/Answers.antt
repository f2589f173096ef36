-- `put_starts` meets its contract. The loop's invariant is `Finding`; the measure is the days left.
use Rattle.lunar_months.proofs.Finding.{finding-start, finding-one, finding-none, finding-counted, finding-put}
use Rattle.lunar_months.proofs.put_starts.Goals as goal
use Rattle.lunar_months.proofs.put_starts.Goals.{then-tithi-before, else-tithi-before}

pub loop-day-init : goal.loop-day-init
loop-day-init c = finding-start _ _ _ _ _ _ c.tithi_on-before.ensures

pub loop-day-preserved : goal.loop-day-preserved
loop-day-preserved c =
    let at = c.loop-day in
    let some = c.requires.0.some in
    let more = c.loop-day-test.true in
    let found = c.tithi_on-tithi.ensures in
    elim c.if-tithi-before.branch [
      | then-tithi-before w ↦ rw (w.list-is, w.count-is, w.latest-is) (finding-one _ _ _ _ _ _ _ _ _ _ _ at.invariant some more found _ w.if-tithi-before.true w.put_entry.ensures)
      | else-tithi-before w ↦ rw (w.list-is, w.count-is, w.latest-is) (finding-none _ _ _ _ _ _ _ _ _ _ _ at.invariant some more found w.if-tithi-before.false)
    ]

pub shape_of-list : goal.shape_of-list
shape_of-list c = c.loop-day.invariant.size

pub returns : goal.returns
returns c = record { counted = finding-counted _ _ _ _ _ _ _ _ _ _ c.loop-day.invariant c.loop-day-test.false; list_after = finding-put _ _ _ _ _ _ _ _ _ _ c.loop-day.invariant c.loop-day-test.false }

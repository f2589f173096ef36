-- `scan` meets its contract. The loop's invariant is `Scanning`: the visit reached, the days put, the last match and
-- the visit to resume at. The measure is the days left.
use Prim.Native.Nat.{◌≤◌}
use mathlib.Core.Path.{refl}
use native.Mathlib.Omega.{arith}
use Rattle.days.specs.Days.{last_day}
use Rattle.search.proofs.Passes.{Seen, in-span, seen_at, scanning-start, scanning-visit, scanning-in, scanning-out, scanning-end}
use Rattle.search.proofs.scan.Goals as goal
use Rattle.search.proofs.scan.Goals.{After-examine_day-seen, In-loop-visit}

inside : (c : In-loop-visit) → c.loop-visit.visit.day ≤ c.args.query.last
inside c = omega (arith, c.loop-visit-test.true, c.requires.ends)

begun : (c : In-loop-visit) → c.args.query.first ≤ c.loop-visit.visit.day
begun c = omega (arith, c.loop-visit.invariant.reached.gone)

seen : (c : After-examine_day-seen) → Seen c.args.query c.loop-visit.visit.day c.examine_day-seen.result
seen c = seen_at _ _ _ c.requires.accepts ((omega (arith, c.loop-visit.invariant.reached.gone))) ((omega (arith, c.loop-visit-test.true, c.requires.ends))) c.examine_day-seen.ensures

few : (c : After-examine_day-seen) → c.loop-visit.length ≤ last_day
few c = omega (arith, (seen_at _ _ _ c.requires.accepts ((omega (arith, c.loop-visit.invariant.reached.gone))) ((omega (arith, c.loop-visit-test.true, c.requires.ends))) c.examine_day-seen.ensures), c.loop-visit.invariant.reached)

pub loop-visit-init : goal.loop-visit-init
loop-visit-init c = scanning-start _ _ _ _ c.requires.accepts c.requires.reached c.requires.fits

pub examine_day-seen-requires : goal.examine_day-seen-requires
examine_day-seen-requires c =
    let e = c.requires.accepts in
    record { query_value = e; asks = c.more_asked-more.ensures; day_value = in-span c.args.query _ (begun (goal.at.examine_day-seen-requires c).In-loop-visit) (inside (goal.at.examine_day-seen-requires c).In-loop-visit); visit_at = scanning-visit _ _ _ _ e _ _ _ _ _ c.loop-visit.invariant (inside (goal.at.examine_day-seen-requires c).In-loop-visit) }

pub next_visit-next-requires : goal.next_visit-next-requires
next_visit-next-requires c = omega (arith, seen (goal.at.next_visit-next-requires c).After-examine_day-seen, c.loop-visit.invariant.reached)

pub overflow_add-length : goal.overflow_add-length
overflow_add-length c = omega (arith, few (goal.at.overflow_add-length c).After-examine_day-seen)

pub loop-visit-smaller-then-index-room : goal.loop-visit-smaller-then-index-room
loop-visit-smaller-then-index-room c = rw c.next_visit-next.ensures (omega (arith, seen (goal.at.loop-visit-smaller-then-index-room c).After-examine_day-seen, c.loop-visit-test.true))

pub loop-visit-preserved-then-index-room : goal.loop-visit-preserved-then-index-room
loop-visit-preserved-then-index-room c =
    rw c.next_visit-next.ensures
    (scanning-in _ _ _ _ c.requires.accepts _ _ _ _ _ c.loop-visit.invariant (inside (goal.at.loop-visit-preserved-then-index-room c).In-loop-visit) _ (seen (goal.at.loop-visit-preserved-then-index-room c).After-examine_day-seen) _ _ c.if-seen.true c.put_entry.ensures (λ l. refl) (λ l. absurd (omega (arith, c.if-index-room.true))))

pub loop-visit-smaller-else-index-room : goal.loop-visit-smaller-else-index-room
loop-visit-smaller-else-index-room c = rw c.next_visit-next.ensures (omega (arith, seen (goal.at.loop-visit-smaller-else-index-room c).After-examine_day-seen, c.loop-visit-test.true))

pub loop-visit-preserved-else-index-room : goal.loop-visit-preserved-else-index-room
loop-visit-preserved-else-index-room c =
    rw c.next_visit-next.ensures
    (scanning-in _ _ _ _ c.requires.accepts _ _ _ _ _ c.loop-visit.invariant (inside (goal.at.loop-visit-preserved-else-index-room c).In-loop-visit) _ (seen (goal.at.loop-visit-preserved-else-index-room c).After-examine_day-seen) _ _ c.if-seen.true c.put_entry.ensures (λ l. absurd (omega (arith, c.if-index-room.false))) (λ l. refl))

pub loop-visit-smaller : goal.loop-visit-smaller
loop-visit-smaller c = rw c.next_visit-next.ensures (omega (arith, seen (goal.at.loop-visit-smaller c).After-examine_day-seen, c.loop-visit-test.true))

pub loop-visit-preserved : goal.loop-visit-preserved
loop-visit-preserved c =
    rw c.next_visit-next.ensures
    (scanning-out _ _ _ _ c.requires.accepts _ _ _ _ _ c.loop-visit.invariant (inside (goal.at.loop-visit-preserved c).In-loop-visit) _ (seen (goal.at.loop-visit-preserved c).After-examine_day-seen) c.if-seen.false)

pub shape_of-output : goal.shape_of-output
shape_of-output c = c.loop-visit.invariant.size

pub returns : goal.returns
returns c = let both = scanning-end _ _ _ _ c.requires.accepts _ _ _ _ _ c.loop-visit.invariant _ c.requires.ends c.requires.none-later c.loop-visit-test.false in record { tallied = both.0; output_after = both.1 }

-- `search` meets its contract: refused; an entry for each day, so that one pass suffices; too many; all of them kept
-- and copied; or the first ones copied and the others put by a second pass.
use Prim.Native.Nat.{◌*◌}
use mathlib.Core.Path.{◌≡◌, refl, sym, ap, ◌∙◌}
use native.Mathlib.Omega.{arith}
use lib.ListN.{length, take}
use lib.Seq.{length-take-le}
use Rattle.std.proofs.lemmas.Result.{err_from_is_err_and}
use Rattle.query.specs.Query.{refusal_of}
use Rattle.query.proofs.Accepted.{accepted-by, checked}
use Rattle.search.proofs.Answers.{refused, fits-span, too_many, all-written}
use Rattle.search.proofs.Passes.{scannable-first, scannable-rest}
use Rattle.entries.specs.Entries.{copied_count}
use Rattle.entries.proofs.Copying.{copied-with-room}
use Rattle.entries.proofs.Putting.{put_all, put-length, copied-length, copied_all, copied-and-put}
use Rattle.search.proofs.search.Goals as goal
use Rattle.search.proofs.search.Goals.{In_ok-check, Else-needed-le-KEPT}

accepted : (c : In_ok-check) → refusal_of c.args.query ≡ 0
accepted c = checked _ c.in_ok-check.ensures

pub returns-in_err-check : goal.returns-in_err-check
returns-in_err-check c =
    let p = err_from_is_err_and c.from_residual.result c.from_residual.ensures.1 in
    rw (p.1, p.2) (refused _ _ c.in_err-check.ensures)

pub overflow_sub-days_less_one : goal.overflow_sub-days_less_one
overflow_sub-days_less_one c = omega (arith, (accepted-by _ (accepted (goal.at.overflow_sub-days_less_one c).In_ok-check)).first)

pub scan-tally-requires : goal.scan-tally-requires
scan-tally-requires c = scannable-first _ _ _ (accepted (goal.at.scan-tally-requires c).In_ok-check) c.first_visit-start.ensures

pub returns-then-days_less_one-capacity : goal.returns-then-days_less_one-capacity
returns-then-days_less_one-capacity c =
    let e = accepted (goal.at.returns-then-days_less_one-capacity c).In_ok-check in
    let fits = fits-span _ _ e c.if-days_less_one-capacity.true in
    let t = c.scan-tally.ensures.tallied in
    rw c.found.ensures
    (all-written _ _ e t.count (t.visits refl) _ (omega (arith, t.count, fits)) (c.scan-tally.ensures.output_after ∙ put_all _ _ fits))

pub scan-tally-requires-2 : goal.scan-tally-requires-2
scan-tally-requires-2 c = scannable-first _ _ _ (accepted (goal.at.scan-tally-requires-2 c).In_ok-check) c.first_visit-start.ensures

pub returns-then-capacity-needed : goal.returns-then-capacity-needed
returns-then-capacity-needed c =
    let t = c.scan-tally-2.ensures.tallied in
    rw c.found-then-capacity-needed.ensures (too_many _ _ (accepted (goal.at.returns-then-capacity-needed c).In_ok-check) t.count (t.visits refl) c.if-capacity-needed.true)

pub slice_bounds-copy-end : goal.slice_bounds-copy-end
slice_bounds-copy-end c = sym (length-take-le _ _ (omega (arith, ap length c.scan-tally-2.ensures.output_after ∙ put-length _ _ _)))

pub returns-then-needed-le-KEPT : goal.returns-then-needed-le-KEPT
returns-then-needed-le-KEPT c =
    let t = c.scan-tally-2.ensures.tallied in
    let long = length-take-le (4 * c.scan-tally-2.result.length) c.scan-tally-2.new.output (omega (arith, ap length c.scan-tally-2.ensures.output_after ∙ put-length _ _ _)) in
    let all = copied-with-room (take (4 * c.scan-tally-2.result.length) c.scan-tally-2.new.output) c.args.list.now (omega (arith, long, c.if-capacity-needed.false)) in
    rw c.found-then-needed-le-KEPT.ensures
    (all-written _ _ (accepted (goal.at.returns-then-needed-le-KEPT c).In_ok-check) t.count (t.visits refl) _ c.if-capacity-needed.false
    (copied_all _ _ _ _ _ c.scan-tally-2.ensures.output_after (omega (arith, t.count, c.if-needed-le-KEPT.true)) (rw t.count at (rw all at c.copy.ensures.to_after))))

-- the kept days fill their array, for which the list has room
kept-copied : (c : Else-needed-le-KEPT) → copied_count c.scan-tally-2.new.output c.args.list.now ≡ length c.scan-tally-2.new.output
kept-copied c =
    let kept = ap length c.scan-tally-2.ensures.output_after ∙ put-length _ _ _ in
    copied-with-room _ _ (omega (arith, kept, c.if-capacity-needed.false, c.if-needed-le-KEPT.false))

pub write_rest-requires : goal.write_rest-requires
write_rest-requires c =
    let kept = ap length c.scan-tally-2.ensures.output_after ∙ put-length _ _ _ in
    let after = rw (kept-copied (goal.at.write_rest-requires c).Else-needed-le-KEPT) at c.copy-2.ensures.to_after in
    scannable-rest _ _ _ _ _ (accepted (goal.at.write_rest-requires c).In_ok-check) c.first_visit-start.ensures c.scan-tally-2.ensures.tallied (omega (arith, c.if-needed-le-KEPT.false))
    (omega (arith, copied-length c.scan-tally-2.new.output c.args.list.now _ after (omega (arith, kept, c.if-capacity-needed.false, c.if-needed-le-KEPT.false)), c.if-capacity-needed.false, c.if-needed-le-KEPT.false))

pub returns : goal.returns
returns c =
    let t = c.scan-tally-2.ensures.tallied in
    let after = rw (kept-copied (goal.at.returns c).Else-needed-le-KEPT) at c.copy-2.ensures.to_after in
    rw c.write_rest.ensures.value
    (all-written _ _ (accepted (goal.at.returns c).In_ok-check) t.count (t.visits refl) _ c.if-capacity-needed.false
    (copied-and-put _ _ _ _ _ _ 176 c.scan-tally-2.ensures.output_after refl (omega (arith, t.count, c.if-needed-le-KEPT.false)) (omega (arith, t.count, c.if-capacity-needed.false)) after c.write_rest.ensures.list_after))

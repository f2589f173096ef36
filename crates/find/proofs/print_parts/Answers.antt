-- `print_parts` meets its contract: the output from the bytes written on is the lines of the days that are left of the
-- span (Parting). Assumes nothing.
use Prim.Native.Nat.{◌≤◌}
use mathlib.Core.Path.{refl, ◌∙◌}
use native.Mathlib.Omega.{arith}
use lib.ListN.{length}
use Rattle.find.proofs.Parting.{parting-start, parted, part-there, part_filled, part-next, parting-step}
use Rattle.query.proofs.Accepted.{accepted-by}
use Rattle.find.proofs.print_parts.Goals as goal

pub loop-first-init : goal.loop-first-init
loop-first-init c = (refl, refl, parting-start _ _ c.requires.query_value.0 _ c.requires.query_value.1)

pub unwrap-found-requires : goal.unwrap-found-requires
unwrap-found-requires c =
    let room : 524288 ≤ length c.loop-first.list = omega (arith, c.requires.in_bounds.0, c.loop-first.invariant.0) in
    let found = rw (c.with_sun_arcs.ensures, c.part_of-part.ensures) at c.search.ensures in
    part-there _ _ c.requires.query_value.0 _ _ _ c.loop-first.invariant.2 c.part_end-last.ensures.0 c.part_end-last.ensures.1 _ _ _ found c.part_end-last.ensures.2 room

pub print_listed-requires : goal.print_listed-requires
print_listed-requires c =
    let room : 524288 ≤ length c.loop-first.list = omega (arith, c.requires.in_bounds.0, c.loop-first.invariant.0) in
    let found = rw (c.with_sun_arcs.ensures, c.part_of-part.ensures) at c.search.ensures in
    let low = c.part_end-last.ensures.0 in
    let high = c.part_end-last.ensures.1 in
    let filled = part_filled _ _ c.requires.query_value.0 _ _ _ c.loop-first.invariant.2 low high _ _ _ found c.part_end-last.ensures.2 room _ c.unwrap-found.ensures in
    (c.requires.query_value.0, part-next _ _ c.requires.query_value.0 _ _ _ c.loop-first.invariant.2 low high _ _ _ filled _ (omega (arith, c.requires.in_bounds.1, c.loop-first.invariant.1)))

pub overflow_add-first : goal.overflow_add-first
overflow_add-first c =
    omega (arith, c.part_end-last.ensures.1, (accepted-by _ c.requires.query_value.0).last)

pub loop-first-smaller : goal.loop-first-smaller
loop-first-smaller c =
    omega (arith, c.part_end-last.ensures.0, c.part_end-last.ensures.1)

pub loop-first-preserved : goal.loop-first-preserved
loop-first-preserved c =
    let room : 524288 ≤ length c.loop-first.list = omega (arith, c.requires.in_bounds.0, c.loop-first.invariant.0) in
    let found = rw (c.with_sun_arcs.ensures, c.part_of-part.ensures) at c.search.ensures in
    let low = c.part_end-last.ensures.0 in
    let high = c.part_end-last.ensures.1 in
    let filled = part_filled _ _ c.requires.query_value.0 _ _ _ c.loop-first.invariant.2 low high _ _ _ found c.part_end-last.ensures.2 room _ c.unwrap-found.ensures in
    (c.search.auto.list ∙ c.loop-first.invariant.0, c.print_listed.auto.buffer ∙ c.loop-first.invariant.1, parting-step _ _ c.requires.query_value.0 _ _ _ c.loop-first.invariant.2 low high _ _ _ filled _ c.in_ok-written.ensures)

pub shape_of-list : goal.shape_of-list
shape_of-list c = c.loop-first.invariant.0

pub shape_of-buffer : goal.shape_of-buffer
shape_of-buffer c = c.loop-first.invariant.1

pub returns : goal.returns
returns c = parted _ _ c.requires.query_value.0 _ _ c.loop-first.invariant.2 c.loop-first-test.false

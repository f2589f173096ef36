-- `print_found` meets its contract: the heading, and behind it the lines of the whole span as one part (Parting), or
-- those of the parts. Assumes nothing.
use Prim.Native.Nat.{ℕ}
use mathlib.Core.Path.{◌≡◌}
use native.Mathlib.Omega.{arith}
use Rattle.std.specs.Prelude.{Ok}
use Rattle.std.proofs.lemmas.Result.{IfOk-weaker}
use Rattle.query.specs.SunArcs.{with_sun_arcs}
use Rattle.search.specs.Search.{Measured}
use Rattle.find.proofs.Listed.{measure-there, count, visits, by_first}
use Rattle.find.proofs.Parting.{whole-next, whole-printed}
use Rattle.find.proofs.print_found.Goals as goal
use Rattle.find.proofs.print_found.Goals.{After-list_first}

told : (c : After-list_first) → Measured (with_sun_arcs c.args.query) c.list_first.result
told c = rw c.with_sun_arcs.ensures at c.list_first.ensures.measured

pub unwrap-found-requires : goal.unwrap-found-requires
unwrap-found-requires c = measure-there _ c.requires.0 _ (told (goal.at.unwrap-found-requires c).After-list_first)

pub say_counts-requires : goal.say_counts-requires
say_counts-requires c =
    let t = told (goal.at.say_counts-requires c).After-list_first in
    (count _ c.requires.0 _ _ t c.unwrap-found.ensures, visits _ c.requires.0 _ _ t c.unwrap-found.ensures)

pub print_heading-requires : goal.print_heading-requires
print_heading-requires c =
    let t = told (goal.at.print_heading-requires c).After-list_first in
    record {
      query_value = (c.requires.0, c.requires.2);
      length_value = (count _ c.requires.0 _ _ t c.unwrap-found.ensures, visits _ c.requires.0 _ _ t c.unwrap-found.ensures);
    }

pub print_listed-requires : goal.print_listed-requires
print_listed-requires c =
    let t = told (goal.at.print_listed-requires c).After-list_first in
    let put = rw c.with_sun_arcs.ensures at c.list_first.ensures.list_after in
    let filled = by_first _ c.requires.0 _ _ t c.unwrap-found.ensures _ _ put (omega (arith, c.if-found-gt-PART.false, c.requires.1)) in
    (c.requires.0, whole-next _ _ c.requires.0 _ c.in_ok-heading.ensures _ _ _ filled _ (omega (arith, c.requires.2, c.print_heading.auto.buffer)))

pub returns : goal.returns
returns c =
    let t = told (goal.at.returns c).After-list_first in
    let put = rw c.with_sun_arcs.ensures at c.list_first.ensures.list_after in
    let filled = by_first _ c.requires.0 _ _ t c.unwrap-found.ensures _ _ put (omega (arith, c.if-found-gt-PART.false, c.requires.1)) in
    IfOk-weaker _ _ _ (whole-printed _ _ c.requires.0 _ c.in_ok-heading.ensures _ _ _ filled) c.print_listed.ensures

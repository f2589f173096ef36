-- `day_line` meets its contract: the line's index decides which line is meant. Assumes nothing.
use mathlib.Core.Path.{sym, ◌∙◌}
use Prim.Native.Nat.{◌-◌}
use native.Mathlib.Omega.{arith}
use lib.ListN.{get_or}
use Rattle.days.proofs.Laws.{pair-in-range, given}
use Rattle.longitudes.specs.Answers.{longitudes_of}
use Rattle.text.proofs.Holding.{nothing-held}
use Rattle.plate.proofs.Lines.{heading-first, line-of-body, none-behind, Found, found}
use Rattle.plate.proofs.day_line.Goals as goal
use Rattle.plate.proofs.day_line.Goals.{After-unwrap-all}

body-found : (c : After-unwrap-all) → Found c.args.number (c.args.index - 1) (get_or c.unwrap-all.result.longitudes (c.args.index - 1) 0) (get_or c.unwrap-all.result.thirds (c.args.index - 1) 0)
body-found c = found _ _ (omega arith) c.at.ensures (sym c.unwrap-all.ensures ∙ c.mean_longitudes.ensures)

pub returns-then-index-eq0 : goal.returns-then-index-eq0
returns-then-index-eq0 c = rw (heading-first c.args.number _ c.if-index-eq0.true) c.heading.ensures

pub returns-then-index-ge-LINES : goal.returns-then-index-ge-LINES
returns-then-index-ge-LINES c = rw (none-behind c.args.number _ c.if-index-ge-LINES.true) (nothing-held _ c.empty.ensures)

pub unwrap-all-requires : goal.unwrap-all-requires
unfolding longitudes_of
unwrap-all-requires c = rw (c.mean_longitudes.ensures, c.at.ensures, given _ _ (pair-in-range _ c.requires))

pub body_line-requires : goal.body_line-requires
body_line-requires c = let f = body-found (goal.at.body_line-requires c).After-unwrap-all in (omega arith, f.below-circle, f.below-60)

pub returns : goal.returns
returns c = rw (line-of-body c.args.number _ c.if-index-eq0.false (omega arith), ← (body-found (goal.at.returns c).After-unwrap-all).line) c.body_line.ensures

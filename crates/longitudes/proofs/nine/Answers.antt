-- `nine` meets its contract: the bodies below `i` have their longitudes and thirds in the two arrays.
use borrow.Author.Count.{below_none}
use mathlib.Core.Path.{◌≡◌, refl, sym, ap, ◌∙◌}
use native.Mathlib.Omega.{arith}
use lib.ListN.{get_or}
use Rattle.longitudes.specs.declared.MeanLongitude.{MeanLongitude}
use Rattle.longitudes.specs.Longitudes.{longitudes_at, nine_thirds_at}
use Rattle.longitudes.proofs.Answers.{thirds-fit, thirds-found}
use Rattle.longitudes.proofs.Table.{nine-long, nine-at, thirds-long, thirds-nine-at}
use Rattle.longitudes.proofs.Filling.{filled_more, filled-whole}
use Rattle.longitudes.proofs.nine.Goals as goal

pub loop-i-init : goal.loop-i-init
loop-i-init c = (record { long = refl; same = below_none _ }, record { long = refl; same = below_none _ })

pub thirds_of-requires : goal.thirds_of-requires
thirds_of-requires c = thirds-fit _ _ c.longitude-found.ensures (omega arith)

pub loop-i-preserved : goal.loop-i-preserved
loop-i-preserved c =
    let d = c.args.day in
    let l = c.loop-i in
    let seconds : c.longitude-found.result.seconds ≡ get_or (longitudes_at d) l.i 0 = ap (λ (a : MeanLongitude). a.seconds) c.longitude-found.ensures ∙ sym (nine-at l.i d (omega arith)) in
    let thirds : c.thirds_of.result ≡ get_or (nine_thirds_at d) l.i 0 = c.thirds_of.ensures ∙ thirds-found _ _ c.longitude-found.ensures ∙ sym (thirds-nine-at l.i d (omega arith)) in
    (filled_more _ _ _ _ _ l.invariant.0 _ (omega arith) seconds, filled_more _ _ _ _ _ l.invariant.1 _ (omega arith) thirds)

pub returns : goal.returns
returns c =
    let d = c.args.day in
    let l = c.loop-i in
    rw (filled-whole _ _ _ _ _ l.invariant.0 (omega arith) (nine-long d), filled-whole _ _ _ _ _ l.invariant.1 (omega arith) (thirds-long d))

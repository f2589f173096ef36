-- `given_places` meets its contract. The loop's invariant is `Counting`.
use mathlib.Core.Path.{◌≡◌, sym, ◌∙◌}
use native.Mathlib.Omega.{arith}
use Rattle.search.proofs.Others.{counting-start, counting-first, counting-several, counting-not, counting-end}
use Rattle.search.proofs.given_places.Goals as goal
use Rattle.search.proofs.given_places.Goals.{then-given+in-None, then-given+in-One, else-given}

pub loop-place-init : goal.loop-place-init
loop-place-init c = counting-start _

pub loop-place-preserved : goal.loop-place-preserved
loop-place-preserved c =
    let inv = c.loop-place.invariant in
    elim c.if-given.branch [
      | then-given+in-None w ↦ rw w.places-is (counting-first _ _ (rw w.in-None.is at inv))
      | then-given+in-One w ↦ rw w.places-is (counting-several _ _)
      | else-given w ↦ rw w.places-is (counting-not _ _ _ (sym c.given.ensures ∙ w.if-given.false) inv)
    ]

pub returns : goal.returns
returns c =
    let all : c.loop-place.place ≡ 7 = omega arith in
    counting-end _ _ (rw all at c.loop-place.invariant)

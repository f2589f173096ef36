-- `karana_after` meets its contract: the tests are the meaning's.
use borrow.Author.Tests.{eqb-true, eqb-false, eq-eqb, ne_eqb, le-leb, lt-leb}
use mathlib.Core.Bool.{Bool, true, false, cond}
use mathlib.Core.Path.{◌≡◌, refl}
use Prim.Native.Nat.{ℕ, ◌-◌, ◌<◌}
use native.Mathlib.Omega.{arith}
use lib.Dec.{eqb}
use Rattle.panchanga.specs.Elements.{karana_after}
use Rattle.panchanga.proofs.karana_after.Goals as goal

-- the last three are a run
last-three : (h : ℕ) → 56 < h → h < 60 → h - 49 ≡ cond (eqb h 57) 8 (cond (eqb h 58) 9 10)
last-three h k l = go (eqb h 57) (eqb h 58) refl refl
  where
    go : (t u : Bool) → eqb h 57 ≡ t → eqb h 58 ≡ u → h - 49 ≡ cond t 8 (cond u 9 10)
    go true u e f = omega (arith, eqb-true h 57 e)
    go false true e f = omega (arith, eqb-true h 58 f)
    go false false e f = omega (arith, eqb-false h 57 e, eqb-false h 58 f)

pub returns-then-halves-eq0 : goal.returns-then-halves-eq0
unfolding karana_after
returns-then-halves-eq0 c = rw (eq-eqb _ _ c.if-halves-eq0.true)

pub returns-then-halves-le56 : goal.returns-then-halves-le56
unfolding karana_after
returns-then-halves-le56 c = rw (ne_eqb _ _ c.if-halves-eq0.false, le-leb _ _ c.if-halves-le56.true)

pub returns-else-halves-le56 : goal.returns-else-halves-le56
unfolding karana_after
returns-else-halves-le56 c = rw (ne_eqb _ _ c.if-halves-eq0.false, lt-leb _ _ c.if-halves-le56.false) (last-three _ c.if-halves-le56.false (omega arith))

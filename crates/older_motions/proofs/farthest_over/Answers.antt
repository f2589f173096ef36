-- `farthest_over` meets its contract: what `Scanned` says holds at each day. Assumes nothing.
use mathlib.Core.Path.{refl}
use Prim.Native.Nat.{◌+◌}
use native.Mathlib.Omega.{arith}
use Rattle.older_motions.specs.Parts.{motion_of}
use Rattle.older_motions.proofs.Laws.{ahead_small}
use Rattle.older_motions.proofs.Reckoned.{whole-positive}
use Rattle.older_motions.proofs.Scanning.{scan-start, scan-stays, scan-moves, scan-end}
use Rattle.older_motions.proofs.farthest_over.Goals as goal
use Rattle.older_motions.proofs.farthest_over.Goals.{then-numerator-distance, else-numerator-distance}

pub shorter_way-numerator-requires : goal.shorter_way-numerator-requires
shorter_way-numerator-requires c =
    omega (arith, c.whole_circle-circle.ensures, c.scan_from-scan.ensures.place, ahead_small (motion_of c.args.motion) (whole-positive _ c.requires.0) c.args.first)

pub loop-before-init : goal.loop-before-init
loop-before-init c = scan-start _ _ _ _ _ _ c.requires.1 c.whole_circle-circle.ensures c.scan_from-scan.ensures c.shorter_way-numerator.ensures

pub shorter_way-distance-requires : goal.shorter_way-distance-requires
shorter_way-distance-requires c =
    omega (arith, c.whole_circle-circle.ensures, c.scan_next-scan.ensures.place, ahead_small (motion_of c.args.motion) (whole-positive _ c.requires.0) (c.loop-before.before + 1))

pub loop-before-preserved : goal.loop-before-preserved
loop-before-preserved c =
    elim c.if-numerator-distance.branch [
      | then-numerator-distance w ↦ rw (w.numerator-is, w.day-is) (scan-moves _ _ _ _ _ _ _ _ _ _ _ c.loop-before.invariant refl (omega arith) c.whole_circle-circle.ensures c.scan_next-scan.ensures c.shorter_way-distance.ensures w.if-numerator-distance.true)
      | else-numerator-distance w ↦ rw (w.numerator-is, w.day-is) (scan-stays _ _ _ _ _ _ _ _ _ _ _ c.loop-before.invariant refl (omega arith) c.whole_circle-circle.ensures c.scan_next-scan.ensures c.shorter_way-distance.ensures w.if-numerator-distance.false)
    ]

pub returns : goal.returns
returns c = scan-end _ _ _ _ _ _ _ _ c.loop-before.invariant (omega arith) c.divisor_of-divisor.ensures

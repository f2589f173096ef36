-- `scan_next` meets its contract: a day that begins no cycle is what day 1 gained farther than the day before. Assumes
-- nothing.
use Prim.Native.Nat.{◌-◌}
use native.Mathlib.Omega.{arith}
use Rattle.older_motions.specs.Parts.{motion_of}
use Rattle.older_motions.proofs.Laws.{ahead_small}
use Rattle.older_motions.proofs.Reckoned.{whole-positive, ahead_after}
use Rattle.older_motions.proofs.scan_next.Goals as goal

pub forwards-ahead-requires : goal.forwards-ahead-requires
forwards-ahead-requires c =
    let w = c.whole_circle-circle.ensures in
    let small = ahead_small (motion_of c.args.motion) (whole-positive _ c.requires.0) in
    (omega (arith, c.requires.3.place, small (c.args.next - 1)), omega (arith, c.requires.4, small 1))

pub returns : goal.returns
returns c =
    let scan = c.requires.3 in
    let later = c.if-turn-next.false in
    let some = c.requires.1 in
    record {
      place =
          rw (c.forwards-ahead.ensures, c.whole_circle-circle.ensures, scan.place, c.requires.4)
          (ahead_after c.args.motion c.args.next c.requires.0 some (λ z. omega (arith, scan.begins, scan.soon)));
      begins = scan.begins;
      later = omega arith;
      soon = omega (arith, scan.soon);
    }

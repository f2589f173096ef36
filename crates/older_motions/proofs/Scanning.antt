-- What holds along the loop over the days: what was found so far is the peak of the days so far, and how far ahead the
-- last of them is. Assumes nothing.
use mathlib.Core.Path.{◌≡◌, sym, ◌∙◌}
use Prim.Native.Nat.{ℕ, ◌+◌, ◌≤◌, ◌<◌}
use native.Mathlib.Omega.{arith}
use Rattle.older_motions.specs.declared.Farthest.{Farthest}
use Rattle.older_motions.specs.OlderMotions.{OlderMotion, divisor_of, whole_circle, shorter_way, distance_on}
use Rattle.older_motions.specs.declared.Scan.{Scan}
use Rattle.older_motions.specs.Drifts.{farthest_over}
use Rattle.older_motions.specs.Parts.{Scans}
use Rattle.older_motions.proofs.Peaks.{Peak, peak-one, peak-stays, peak-moves}
use Rattle.older_motions.proofs.Laws.{peak-farthest, distance_is}

pub record Scanned (m : OlderMotion) (first last : ℕ) (scan : Scan) (most day next : ℕ) : Type 0 where
  pub from : first ≤ next
  pub upto : next ≤ last
  pub place : Scans m scan next
  pub peak : Peak (distance_on m) first next most day

module _ (m : OlderMotion) where
  -- the distance that the code finds on a day
  found : (n circle distance : ℕ) (scan : Scan) → circle ≡ whole_circle m → Scans m scan n → distance ≡ shorter_way circle scan.ahead → distance_on m n ≡ distance
  found n circle distance scan ec es ed = sym (ed ∙ rw (ec, es.place) (distance_is m n))

  pub still : (scan : Scan) (a b : ℕ) → a ≡ b → Scans m scan a → Scans m scan b
  still scan a b e h = rw e at h

  pub scan-start : (first last circle distance : ℕ) (scan : Scan) → first ≤ last → circle ≡ whole_circle m → Scans m scan first → distance ≡ shorter_way circle scan.ahead → Scanned m first last scan distance first first
  scan-start first last circle distance scan h ec es ed =
      record { from = omega arith; upto = h; place = es; peak = rw (found first circle distance scan ec es ed) at (peak-one (distance_on m) first) }

  module _ (first last most day next after circle distance : ℕ) (before scan : Scan) (s : Scanned m first last before most day next) (e : after ≡ next + 1) (h : after ≤ last) (ec : circle ≡ whole_circle m) (es : Scans m scan after) (ed : distance ≡ shorter_way circle scan.ahead) where
    reached : distance_on m (next + 1) ≡ distance
    reached = found (next + 1) circle distance scan ec (still scan after (next + 1) e es) ed

    pub scan-stays : distance ≤ most → Scanned m first last scan most day after
    scan-stays l =
        record {
          from = omega (arith, s.from);
          upto = h;
          place = es;
          peak = rw e (peak-stays (distance_on m) first next most day s.peak (omega (arith, reached)));
        }

    pub scan-moves : most < distance → Scanned m first last scan distance after after
    scan-moves l =
        record {
          from = omega (arith, s.from);
          upto = h;
          place = es;
          peak = rw e (rw reached at (peak-moves (distance_on m) first next most day s.peak (omega (arith, reached))));
        }

  pub scan-end :
      (first last most day next divisor : ℕ) (scan : Scan) →
      Scanned m first last scan most day next →
      last ≤ next →
      divisor ≡ divisor_of m →
      ◌≡◌ {A = Farthest} (record { numerator = most; divisor = divisor; day = day }) (farthest_over m first last)
  scan-end first last most day next divisor scan s h ed =
      let e : next ≡ last = omega (arith, s.upto) in
      rw ed (peak-farthest m first last most day (omega (arith, s.from, s.upto)) (rw e at s.peak))

-- What is handed back for a span: no day of it is farther, the day has that distance, and no earlier day of the span
-- has it; and nothing else is handed back that this holds of.
-- Assumes nothing.
use mathlib.Core.Path.{◌≡◌, refl}
use Prim.Native.Nat.{ℕ, suc, ◌+◌, ◌*◌, ◌-◌, ◌≤◌, ◌<◌}
use native.Mathlib.Omega.{arith}
use Rattle.integers.proofs.Reduced.{reduced-small}
use Rattle.std.specs.Prelude.{Ok}
use Rattle.days.proofs.Laws.{Span, over-span}
use Rattle.older_motions.specs.OlderMotions.{OlderMotion, divisor_of, whole_circle, ahead_on, shorter_way, distance_on}
use Rattle.older_motions.specs.Drifts.{farthest_over, the_drifts, drifts_over}
use Rattle.older_motions.proofs.Peaks.{Peak, peak-of, peak-most, peak-day}

-- THE LAWS of an answer: of the distances from the first day to the last, the numerator is the largest, and the day the
-- first that has it
pub farthest-peak : (m : OlderMotion) (first last : ℕ) → first ≤ last → Peak (distance_on m) first last (farthest_over m first last).numerator (farthest_over m first last).day
unfolding farthest_over
farthest-peak m first last h =
    let n : last + 1 - first ≡ suc (last - first) = omega arith in
    rw n (peak-of (distance_on m) (last - first) first last (omega arith))

-- and they say all of it
pub peak-farthest : (m : OlderMotion) (first last most day : ℕ) → first ≤ last → Peak (distance_on m) first last most day → record { numerator = most; divisor = divisor_of m; day = day } ≡ farthest_over m first last
unfolding farthest_over
peak-farthest m first last most day h p =
    let r = farthest-peak m first last h in
    let n : most ≡ (farthest_over m first last).numerator = peak-most (distance_on m) first last most day _ _ p r in
    let d : day ≡ (farthest_over m first last).day = peak-day (distance_on m) first last most day _ _ p r in
    rw (n, d)

-- a distance is at most half a circle
pub distance-half : (m : OlderMotion) (n : ℕ) → 2 * distance_on m n ≤ whole_circle m
unfolding distance_on
distance-half m n = omega arith

pub ahead_small : (m : OlderMotion) → 0 < whole_circle m → (n : ℕ) → ahead_on m n < whole_circle m
unfolding ahead_on
ahead_small m h n = reduced-small _ (whole_circle m) h

pub distance_is : (m : OlderMotion) (n : ℕ) → shorter_way (whole_circle m) (ahead_on m n) ≡ distance_on m n
unfolding distance_on
distance_is m n = refl

-- the three of a span that is not refused
pub drifts-given : (first last : ℕ) → Span first last → drifts_over first last ≡ Ok (the_drifts first last)
drifts-given first last s = over-span (Ok (the_drifts first last)) s

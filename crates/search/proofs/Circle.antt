-- How far the mean Sun is past a point of the circle, and when it comes there again: made linear by counting the
-- circles of the unrolled Sun.
-- Assumes nothing.
use Prim.Native.Nat.{ℕ, ◌+◌, ◌*◌, ◌-◌, ◌/◌, ◌%◌, ◌≤◌, ◌<◌}
use mathlib.Core.Path.{◌≡◌, ap, sym, ◌∙◌}
use native.Mathlib.Omega.{arith}
use Rattle.days.specs.Days.{pair_at}
use Rattle.longitudes.specs.Longitudes.{circle, difference_of}
use Rattle.longitudes.proofs.Sun.{unrolled, unrolled-reduced, days-most, mono}
use Rattle.longitudes.proofs.Subtraction.{difference-law}
use Rattle.longitudes.proofs.Table.{longitude-small}
use Rattle.search.specs.Look.{sun_advance, sun_on}

-- the seconds that the mean Sun of day d is past s
abbrev pub past : ℕ → ℕ → ℕ
past s d = difference_of (sun_on d) s

-- the circles that the unrolled Sun has made past s by day d
unfoldable pub circles : ℕ → ℕ → ℕ
circles s d = (unrolled d + circle - s) / circle

mod-add : (x s : ℕ) → s ≤ circle → (x % circle + circle - s) % circle ≡ (x + circle - s) % circle
mod-add x s h = omega arith

past-unrolled : (s d : ℕ) → s ≤ circle → past s d ≡ (unrolled d + circle - s) % circle
past-unrolled s d h = difference-law (sun_on d) s h ∙ ap (λ (x : ℕ). (x + circle - s) % circle) (sym (unrolled-reduced d)) ∙ mod-add (unrolled d) s h

pub past-low : (s d : ℕ) → s ≤ circle → past s d < circle
past-low s d h = omega (arith, past-unrolled s d h)

pub past-circles : (s d : ℕ) → s ≤ circle → circle * circles s d + past s d + s ≡ unrolled d + circle
unfolding circles
past-circles s d h = omega (arith, past-unrolled s d h)

-- from past s the way forward to s is the rest of the circle
pub ahead_past : (s d : ℕ) → s < circle → 0 < past s d → difference_of s (sun_on d) ≡ circle - past s d
ahead_past s d h k = omega (arith, difference-law s (sun_on d) (omega (arith, longitude-small 0 (pair_at d))), difference-law (sun_on d) s (omega arith), longitude-small 0 (pair_at d))

-- until the Sun can be at s again, it is past s by no less than on day d
pub past-grows : (s d j : ℕ) → s ≤ circle → sun_advance * j < circle - past s d → past s d ≤ past s (d + j)
past-grows s d j hs hj =
    omega (arith, days-most d j, mono d j, past-circles s d hs, past-circles s (d + j) hs, past-low s d hs, past-low s (d + j) hs)

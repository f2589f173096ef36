-- How far the mean longitude is ahead, in naturals, once over K, D, p, q, the circles and the days: whole circles are
-- taken off each of the two before it is multiplied; and what a day of a cycle gains is what day 1 did.
-- Assumes nothing.
use mathlib.Core.Path.{◌≡◌, refl, ap, ◌∙◌}
use Prim.Native.Nat.{ℕ, suc, ◌+◌, ◌*◌, ◌-◌, ◌/◌, ◌%◌, ◌<◌}
use native.Mathlib.Omega.{arith}
use native.Mathlib.Nat.{add-mul-mod_self_right, div-add-mod', mod-lt, mul-le-mul_right}
use lib.IntN.{ℤ, pos, ◌+ℤ◌, ◌-ℤ◌}
use Rattle.days.specs.Days.{cycle_days}
use Rattle.integers.proofs.Less.{Less, less-pos, less-add, less-minus, less-times, less-shift, less-same}
use Rattle.integers.specs.Integers.{reduced}
use Rattle.integers.proofs.Reduced.{less-reduced, reduced-sum}
use Rattle.longitudes.specs.Longitudes.{circle, exact_times_q}
use Rattle.longitudes.proofs.Mean.{row_of, exact-less}
use Rattle.older_motions.specs.OlderMotions.{OlderMotion, whole_circle, mean_exact, older_exact, ahead_on}

-- of cycle C and day A within it: t and u circles are taken off the two, r and s are left, and x is what a circle has
-- above the older one's
circles-off :
    (K D E p q circles days C A n t r u s x W : ℕ) →
    W ≡ circle * (q * days) →
    D + E ≡ circle →
    t * (circle * q) + r ≡ C * E * q + A * p →
    u * days + s ≡ n * circles →
    s * (circle * q) + x ≡ W →
    ((K + 0) * q + A * p) * days + 0 + (C + u + 1) * W ≡ ((0 + C * D) * q + A * 0) * days + (K * days + n * circles * circle) * q + (r * days + x + t * W)
circles-off K D E p q circles days C A n t r u s x W whole together mean older rest = joined turned moved gone rest
  where
    turned : C * D * q * days + C * E * q * days ≡ C * W
    turned = omega (arith, ap (λ (y : ℕ). C * y * q * days) together, ap (λ (y : ℕ). C * y) whole)

    moved : t * W + r * days ≡ C * E * q * days + A * p * days
    moved = omega (arith, ap (λ (y : ℕ). y * days) mean, ap (λ (y : ℕ). t * y) whole)

    gone : u * W + s * (circle * q) ≡ n * circles * (circle * q)
    gone = omega (arith, ap (λ (y : ℕ). y * (circle * q)) older, ap (λ (y : ℕ). u * y) whole)

    joined :
        C * D * q * days + C * E * q * days ≡ C * W →
        t * W + r * days ≡ C * E * q * days + A * p * days →
        u * W + s * (circle * q) ≡ n * circles * (circle * q) →
        s * (circle * q) + x ≡ W →
        ((K + 0) * q + A * p) * days + 0 + (C + u + 1) * W ≡ ((0 + C * D) * q + A * 0) * days + (K * days + n * circles * circle) * q + (r * days + x + t * W)
    joined a b c d = omega arith

module _ (K D p q circles days : ℕ) where
  abbrev motion : OlderMotion
  motion = record { row = row_of K D (pos p) q; circles = circles; days = days }

  abbrev difference : ℕ → ℤ
  difference n = mean_exact motion n -ℤ older_exact motion n

  -- the mean longitude less the older one as a difference of naturals
  abbrev more : ℕ → ℕ
  more n = ((K + 0) * q + n % cycle_days * p) * days + 0

  abbrev less : ℕ → ℕ
  less n = ((0 + n / cycle_days * D) * q + n % cycle_days * 0) * days + (K * days + n * circles * circle) * q

  difference-less : (n : ℕ) → Less (difference n) (more n) (less n)
  difference-less n =
      less-minus (mean_exact motion n) (older_exact motion n) (((K + 0) * q + n % cycle_days * p) * days) (((0 + n / cycle_days * D) * q + n % cycle_days * 0) * days)
      ((K * days + n * circles * circle) * q) 0
      (less-times (exact_times_q motion.row (n / cycle_days) (n % cycle_days)) ((K + 0) * q + n % cycle_days * p) ((0 + n / cycle_days * D) * q + n % cycle_days * 0) days
      (exact-less K D (pos p) q (n / cycle_days) (n % cycle_days) p 0 (less-pos p)))
      (less-pos ((K * days + n * circles * circle) * q))

  -- within a cycle each day gains what day 1 does
  difference-next : (n : ℕ) → n % cycle_days < 4015 → difference (n + 1) ≡ difference n +ℤ difference 1
  difference-next n h =
      less-same (difference (n + 1)) (difference n +ℤ difference 1) (more (n + 1)) (less (n + 1)) (difference-less (n + 1))
      (less-shift (difference n +ℤ difference 1) (more n + more 1) (less n + less 1) (more (n + 1)) (less (n + 1))
      (less-add (difference n) (difference 1) (more n) (less n) (more 1) (less 1) (difference-less n) (difference-less 1)) same)
    where
      same-cycle : (n + 1) / cycle_days ≡ n / cycle_days
      same-cycle = omega arith

      next-day : (n + 1) % cycle_days ≡ n % cycle_days + 1
      next-day = omega arith

      same : more n + more 1 + less (n + 1) ≡ less n + less 1 + more (n + 1)
      same = omega (arith, ap (λ (x : ℕ). x * D * q * days) same-cycle, ap (λ (x : ℕ). x * p * days) next-day)

  pub ahead-next : 0 < whole_circle motion → (n : ℕ) → n % cycle_days < 4015 → ahead_on motion (n + 1) ≡ (ahead_on motion n + ahead_on motion 1) % whole_circle motion
  unfolding ahead_on
  ahead-next w n h = ap (λ (z : ℤ). reduced z (whole_circle motion)) (difference-next n h) ∙ reduced-sum (difference n) (difference 1) (whole_circle motion) w

  -- q times the mean motion since the epoch, with a circle put on for each cycle: E is a circle less D
  abbrev pub gone : ℕ → ℕ → ℕ
  gone E n = n / cycle_days * E * q + n % cycle_days * p

  -- both motions since the epoch without their whole circles, in parts of a second
  abbrev pub mean_gone : ℕ → ℕ → ℕ
  mean_gone E n = gone E n % (circle * q) * days

  abbrev pub older_gone : ℕ → ℕ
  older_gone n = n * circles % days * (circle * q)

  pub mean-small : 0 < q → 0 < days → (E n : ℕ) → mean_gone E n < whole_circle motion
  mean-small hq hd E n = omega (arith, mul-le-mul_right {m = suc (gone E n % (circle * q))} {n = circle * q} days (mod-lt (gone E n) (omega arith)))

  pub older-small : 0 < q → 0 < days → (n : ℕ) → older_gone n < whole_circle motion
  older-small hq hd n = omega (arith, mul-le-mul_right {m = suc (n * circles % days)} {n = days} (circle * q) (mod-lt (n * circles) hd))

  pub ahead-is : 0 < q → 0 < days → (E : ℕ) → D + E ≡ circle → (n : ℕ) → ahead_on motion n ≡ (mean_gone E n + (whole_circle motion - older_gone n)) % whole_circle motion
  unfolding ahead_on
  ahead-is hq hd E together n =
      less-reduced (difference n) (more n) (less n) (mean_gone E n + (whole_circle motion - older_gone n) + turns * whole_circle motion) (whole_circle motion)
      (n / cycle_days + n * circles / days + 1) (omega (arith, older-small hq hd n)) (difference-less n)
      (circles-off K D E p q circles days (n / cycle_days) (n % cycle_days) n turns (gone E n % (circle * q)) (n * circles / days) (n * circles % days)
      (whole_circle motion - older_gone n) (whole_circle motion) refl together (div-add-mod' (gone E n) (circle * q)) (div-add-mod' (n * circles) days) (omega (arith, older-small hq hd n)))
      ∙ add-mul-mod_self_right (mean_gone E n + (whole_circle motion - older_gone n)) turns (whole_circle motion)
    where
      turns : ℕ
      turns = gone E n / (circle * q)

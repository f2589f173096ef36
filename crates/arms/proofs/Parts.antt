-- A body's whole seconds by its steps are those of its row: on each day of a cycle its motion in parts of a second,
-- rounded up, gives the same whole seconds as the exact motion; by what the quotients leave over. And within a cycle
-- the way forwards to the next day is what the day moves.
-- Assumes nothing.
use mathlib.Core.Path.{◌≡◌, sym, ap, ◌∙◌}
use Prim.Native.Nat.{ℕ, ◌+◌, ◌*◌, ◌-◌, ◌/◌, ◌%◌, ◌<◌, ◌≤◌}
use native.Mathlib.Nat.{div-add-mod', mod-lt, mul-le-mul, lt_of_mul-lt-mul_right}
use native.Mathlib.Omega.{arith}
use lib.ListN.{get_or}
use Rattle.days.specs.Days.{last_day, pair_at}
use Rattle.days.proofs.Laws.{pair-in-range}
use Rattle.integers.specs.RoundedUp.{rounded_up}
use Rattle.integers.proofs.RoundedUp.{rounded-up}
use Rattle.longitudes.specs.Longitudes.{circle, difference_of}
use Rattle.longitudes.specs.declared.Motion.{Motion}
use Rattle.longitudes.proofs.Motions.{motions, none, reckoned}
use Rattle.longitudes.proofs.Table.{remainder-at}
use Rattle.arms.specs.declared.Steps.{Steps}
use Rattle.arms.specs.Orders.{seconds_on}
use Rattle.arms.specs.Parts.{parts, steps_of, seconds_by, Small, StepsFor}
use Rattle.arms.proofs.Motion.{past}

-- A days of the motion w / q are u seconds with m left over; in parts, rounded up, a day is M
in_parts : (A w q s M u m : ℕ) → q ≡ s + 1 → A ≤ 4015 → s ≤ 1998 → w * parts ≤ M * q → M * q ≤ w * parts + s → u * q + m ≡ A * w → m ≤ s → A * M / parts ≡ u
in_parts A w q s M u m eq ha hs low high quotient left =
    let at_least : A * (w * parts) ≤ A * (M * q) = mul-le-mul {n₁ = A} {m₁ = w * parts} {n₂ = A} {m₂ = M * q} (omega arith) low in
    let at_most : A * (M * q) ≤ A * (w * parts + s) = mul-le-mul {n₁ = A} {m₁ = M * q} {n₂ = A} {m₂ = w * parts + s} (omega arith) high in
    let over : A * s ≤ 4015 * s = mul-le-mul {n₁ = A} {m₁ = s} {n₂ = 4015} {m₂ = s} ha (omega arith) in
    let least : parts * u * q < (A * M + 1) * q = omega (arith, at_least, quotient) in
    let most : A * M * q < (parts * u + parts) * q = omega (arith, at_most, over, quotient) in
    omega (arith, lt_of_mul-lt-mul_right q {m = parts * u} {n = A * M + 1} least, lt_of_mul-lt-mul_right q {m = A * M} {n = parts * u + parts} most)

-- the whole seconds of A days are the same in parts
pub day-parts : (A w q : ℕ) → A < 4016 → 0 < q → q < 2000 → A * rounded_up (w * parts) q / parts ≡ A * w / q
day-parts A w q ha hq hs =
    in_parts A w q (q - 1) (rounded_up (w * parts) q) (A * w / q) (A * w % q) (omega arith) (omega arith) (omega arith)
    (rounded-up (w * parts) q hq).enough
    (omega (arith, div-add-mod' (w * parts + (q - 1)) q))
    (omega (arith, div-add-mod' (A * w) q))
    (omega (arith, mod-lt (A * w) hq))

steps-seconds : (b n : ℕ) → b < 9 → n ≤ last_day → seconds_by (steps_of (get_or motions b none)) n ≡ seconds_on n b
unfolding seconds_by steps_of
steps-seconds b n h k =
    let r = reckoned b (pair_at n) h (pair-in-range n k) in
    let m : Motion = get_or motions b none in
    ap (λ (x : ℕ). (m.k + n / 4016 * (circle - m.d) + x) % circle)
    (day-parts (n % 4016) m.p m.q (omega arith) r.divisor (omega (arith, r.over, (remainder-at b (pair_at n) h).small)))
    ∙ r.whole

-- a body's number that is at least k, and another
pub above : (k n : ℕ) → k ≤ n → (n ≡ k → ⊥) → k + 1 ≤ n
above k n h e = omega arith

-- the steps of the body's row
pub steps-for : (b : ℕ) (s : Steps) → b < 9 → s ≡ steps_of (get_or motions b none) → Small (steps_of (get_or motions b none)) → StepsFor b s
steps-for b s h e small = rw e (record { seconds = λ n k. steps-seconds b n h k; small = small })

-- ---- what fits
pub record Bounded (s : Steps) (n : ℕ) : Type 0 where
  pub turned : s.epoch + n / 4016 * s.cycle < 100 * circle
  pub moved : n % 4016 * s.day + s.day ≤ 4016 * 10870797107200

pub bounded : (s : Steps) (n : ℕ) → Small s → n ≤ last_day → Bounded s n
bounded s n t h =
    let turned : n / 4016 * s.cycle ≤ 99 * circle = mul-le-mul {n₁ = n / 4016} {m₁ = s.cycle} {n₂ = 99} {m₂ = circle} (omega arith) t.cycle in
    let moved : n % 4016 * s.day ≤ 4015 * 10870797107200 = mul-le-mul {n₁ = n % 4016} {m₁ = s.day} {n₂ = 4015} {m₂ = 10870797107200} (omega arith) t.day in
    record { turned = omega (arith, t.epoch); moved = omega (arith, t.day) }

-- ---- the way forwards within a cycle, n % 4016 days of it being x parts
pub gain-small : (x d : ℕ) → d ≤ 10870797107200 → (x + d) / parts - x / parts < circle
gain-small x d h = omega arith

pub gain : (s : Steps) (n : ℕ) → Small s → n % 4016 < 4015 → (n % 4016 * s.day + s.day) / parts - n % 4016 * s.day / parts ≡ difference_of (seconds_by s (n + 1)) (seconds_by s n)
unfolding seconds_by
gain s n t h =
    let c : (n + 1) / 4016 ≡ n / 4016 = omega arith in
    let a : (n + 1) % 4016 ≡ n % 4016 + 1 = omega arith in
    rw (c, a, one_more (n % 4016) s.day)
    (sym
    (past (s.epoch + n / 4016 * s.cycle + (n % 4016 * s.day + s.day) / parts) (s.epoch + n / 4016 * s.cycle + n % 4016 * s.day / parts) ((n % 4016 * s.day + s.day) / parts - n % 4016 * s.day / parts) 0 (omega arith)
    ∙ omega (arith, gain-small (n % 4016 * s.day) s.day t.day)))
  where
    one_more : (a d : ℕ) → (a + 1) * d ≡ a * d + d
    one_more a d = omega arith

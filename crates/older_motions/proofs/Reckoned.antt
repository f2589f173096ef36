-- What the code reckons of a row fits 64 bits, since whole circles are taken off before anything is multiplied by a
-- circle: nothing comes to 2.5 × 10^17. And from one day of a cycle to the next it is what day 1 gained.
-- Assumes nothing.
use mathlib.Core.Path.{◌≡◌, ap, sym, ◌∙◌}
use Prim.Native.Nat.{ℕ, ◌+◌, ◌*◌, ◌-◌, ◌/◌, ◌%◌, ◌≤◌, ◌<◌}
use native.Mathlib.Omega.{arith}
use native.Mathlib.Nat.{mul-le-mul}
use Rattle.days.specs.Days.{cycle_days, last_day}
use Rattle.longitudes.specs.Longitudes.{circle}
use Rattle.older_motions.specs.declared.CodedMotion.{CodedMotion}
use Rattle.older_motions.specs.OlderMotions.{whole_circle, ahead_on}
use Rattle.older_motions.specs.Parts.{motion_of, Sizes}
use Rattle.older_motions.proofs.Ahead.{mean-small, older-small, ahead-is, ahead-next}

pub whole-positive : (c : CodedMotion) → Sizes c → 0 < whole_circle (motion_of c)
whole-positive c s = omega (arith, mul-le-mul {n₁ = 1} {m₁ = 1} {n₂ = c.mean.q} {m₂ = c.days} s.divisor s.span)

-- of the day n, with whole circles put on for the cycle's amount
pub record Reckoned (c : CodedMotion) (n : ℕ) : Type 0 where
  pub turned : n / cycle_days * (circle - c.mean.d) ≤ 99 * circle
  pub turned_parts : n / cycle_days * (circle - c.mean.d) * c.mean.q ≤ 99 * circle * 2000
  pub moved : n % cycle_days * c.mean.p ≤ 4015 * 10000000
  pub mean : (n / cycle_days * (circle - c.mean.d) * c.mean.q + n % cycle_days * c.mean.p) % (circle * c.mean.q) * c.days < whole_circle (motion_of c)
  pub circles : n * c.circles ≤ last_day * 100000000
  pub older : n * c.circles % c.days * (circle * c.mean.q) < whole_circle (motion_of c)
  pub ahead :
      ((n / cycle_days * (circle - c.mean.d) * c.mean.q + n % cycle_days * c.mean.p) % (circle * c.mean.q) * c.days
      + (whole_circle (motion_of c) - n * c.circles % c.days * (circle * c.mean.q)))
      % whole_circle (motion_of c)
      ≡ ahead_on (motion_of c) n

pub reckoned : (c : CodedMotion) (n : ℕ) → Sizes c → n ≤ last_day → Reckoned c n
reckoned c n s h =
    record {
      turned = t;
      turned_parts = mul-le-mul {n₁ = n / cycle_days * (circle - c.mean.d)} {m₁ = c.mean.q} {n₂ = 99 * circle} {m₂ = 2000} t (omega arith);
      moved = mul-le-mul {n₁ = n % cycle_days} {m₁ = c.mean.p} {n₂ = 4015} {m₂ = 10000000} (omega arith) (omega arith);
      mean = mean-small K D p q c.circles c.days s.divisor s.span (circle - D) n;
      circles = mul-le-mul {n₁ = n} {m₁ = c.circles} {n₂ = last_day} {m₂ = 100000000} h (omega arith);
      older = older-small K D p q c.circles c.days s.divisor s.span n;
      ahead = sym (ahead-is K D p q c.circles c.days s.divisor s.span (circle - D) (omega arith) n);
    }
  where
    K : ℕ
    K = c.mean.k

    D : ℕ
    D = c.mean.d

    p : ℕ
    p = c.mean.p

    q : ℕ
    q = c.mean.q

    t : n / cycle_days * (circle - c.mean.d) ≤ 99 * circle
    t = mul-le-mul {n₁ = n / cycle_days} {m₁ = circle - c.mean.d} {n₂ = 99} {m₂ = circle} (omega arith) (omega arith)

-- and on a day that begins no cycle, from the day before
pub ahead_after :
    (c : CodedMotion) (next : ℕ) → Sizes c → 0 < next → (next % cycle_days ≡ 0 → ⊥) → (ahead_on (motion_of c) (next - 1) + ahead_on (motion_of c) 1) % whole_circle (motion_of c) ≡ ahead_on (motion_of c) next
ahead_after c next s h r =
    let back : next - 1 + 1 ≡ next = omega arith in
    sym (ahead-next c.mean.k c.mean.d c.mean.p c.mean.q c.circles c.days (whole-positive c s) (next - 1) (omega arith)) ∙ ap (ahead_on (motion_of c)) back

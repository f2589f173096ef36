-- The unrolled Sun: the seconds that the mean Sun has gone, not reduced. A cycle is eleven circles less 6551 seconds,
-- so with 11 circles a cycle it never falls, and how far it goes in some days is linear arithmetic.
-- Assumes nothing.
use mathlib.Core.Path.{◌≡◌, refl, sym, ap, ◌∙◌}
use mathlib.Core.Bool.{Bool, true, false}
use mathlib.Core.Logic.{◌⊎◌, inl, inr}
use Prim.Native.Nat.{ℕ, zero, suc, ◌+◌, ◌*◌, ◌-◌, ◌/◌, ◌%◌, ◌≤◌, ◌<◌}
use native.Mathlib.Omega.{arith}
use lib.Dec.{ltb, eqb}
use lib.ListN.{get_or}
use borrow.Author.Tests.{ltb-true, ltb-false, eqb-true, eqb-false}
use Rattle.days.specs.Days.{pair_at}
use Rattle.longitudes.specs.Longitudes.{circle, no_row, table, longitude_at}
use Rattle.longitudes.proofs.Mean.{in-naturals}
use Rattle.longitudes.proofs.Table.{row-in-range}

-- on the day n, which may be any number
unfoldable pub unrolled : ℕ → ℕ
unrolled n = 1258860 + n / 4016 * (11 * circle - 6551) + n % 4016 * 124186 / 35

pub unrolled-reduced : (n : ℕ) → unrolled n % circle ≡ longitude_at 0 (pair_at n)
unfolding unrolled longitude_at table
unrolled-reduced n = sym ((in-naturals (get_or table 0 no_row) (n / 4016) (n % 4016) (row-in-range 0 (omega arith))).seconds ∙ omega arith)

-- the day after n is s seconds on
abbrev pub Gains : ℕ → ℕ → Type 0
Gains n s = unrolled (n + 1) ≡ unrolled n + s

turn-gains : (n : ℕ) → 4015 ≤ n % 4016 → Gains n 3541
unfolding unrolled
turn-gains n h = omega arith

-- within a cycle; a day is 124186 / 35 = 3548 + 6 / 35 seconds
within-gains : (n : ℕ) → n % 4016 < 4015 → (Gains n 3548 → ⊥) → Gains n 3549
unfolding unrolled
within-gains n h k =
    let c : (n + 1) / 4016 ≡ n / 4016 = omega arith in
    let a : (n + 1) % 4016 ≡ n % 4016 + 1 = omega arith in
    rw (c, a) (omega (arith, rw (c, a) at k))

-- 3541 where a cycle turns, else 3548 or 3549
pub day-gains : (n : ℕ) → Gains n 3541 ⊎ (Gains n 3548 ⊎ Gains n 3549)
day-gains n = go (ltb (n % 4016) 4015) (eqb (unrolled (n + 1)) (unrolled n + 3548)) refl refl
  where
    go : (t u : Bool) → ltb (n % 4016) 4015 ≡ t → eqb (unrolled (n + 1)) (unrolled n + 3548) ≡ u → Gains n 3541 ⊎ (Gains n 3548 ⊎ Gains n 3549)
    go false u e f = inl (turn-gains n (ltb-false _ _ e))
    go true true e f = inr (inl (eqb-true _ _ f))
    go true false e f = inr (inr (within-gains n (ltb-true _ _ e) (eqb-false _ _ f)))

pub day-least : (n : ℕ) → unrolled n + 3540 ≤ unrolled (n + 1)
unfolding unrolled
day-least n = omega arith

pub day-most : (n : ℕ) → unrolled (n + 1) ≤ unrolled n + 3549
unfolding unrolled
day-most n = omega arith

-- 366 days fall at most 320 seconds short of 3549 a day
pub days-least : (n k : ℕ) → k ≤ 366 → unrolled n + 3549 * k ≤ unrolled (n + k) + 320
unfolding unrolled
days-least n k h = omega arith

pub unrolled-at : {m n : ℕ} → m ≡ n → unrolled m ≡ unrolled n
unrolled-at e = ap unrolled e

pub days-most : (n k : ℕ) → unrolled (n + k) ≤ unrolled n + 3549 * k
days-most n zero = omega (arith, unrolled-at {m = n + 0} {n = n} (omega arith))
days-most n (suc k) = omega (arith, days-most n k, day-most (n + k), unrolled-at {m = n + suc k} {n = n + k + 1} (omega arith))

pub mono : (n k : ℕ) → unrolled n ≤ unrolled (n + k)
mono n zero = omega (arith, unrolled-at {m = n + 0} {n = n} (omega arith))
mono n (suc k) = omega (arith, mono n k, day-least (n + k), unrolled-at {m = n + suc k} {n = n + k + 1} (omega arith))

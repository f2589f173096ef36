-- The straight line: at an entry it is the entry, between two it is not above the larger, and what the code reckons is
-- the same fraction in smaller numbers.
-- Assumes nothing.
use mathlib.Core.List.{[], ◌∷◌, ◌++◌}
use mathlib.Core.Path.{◌≡◌, refl, ap}
use Prim.Native.Nat.{ℕ, zero, suc, ◌+◌, ◌*◌, ◌-◌, ◌/◌, ◌%◌, ◌≤◌}
use native.Mathlib.Omega.{arith}
use native.Mathlib.Nat.{mul-le-mul_right}
use lib.ListN.{get_or}
use Rattle.planets.specs.Tables.{spacing, tenth, Entries, on_line, straight_line, largest}

pub entry-most : (row : Entries) (i : ℕ) → get_or row i 0 ≤ largest row
entry-most [] i = omega arith
entry-most (e ∷ row) zero = omega arith
entry-most (e ∷ row) (suc i) = omega (arith, entry-most row i)

-- the two products of the line
pub record Weighed (row : Entries) (x : ℕ) : Type 0 where
  pub nearer : get_or row (x / spacing) 0 * (spacing - x % spacing) ≤ largest row * (spacing - x % spacing)
  pub further : get_or row (x / spacing + 1) 0 * (x % spacing) ≤ largest row * (x % spacing)
  pub both : largest row * (spacing - x % spacing) + largest row * (x % spacing) ≡ largest row * spacing

pub weighed : (row : Entries) (x : ℕ) → Weighed row x
weighed row x =
    record {
      nearer = mul-le-mul_right (spacing - x % spacing) (entry-most row (x / spacing));
      further = mul-le-mul_right (x % spacing) (entry-most row (x / spacing + 1));
      both = together (largest row) (x % spacing) (omega arith);
    }
  where
    together : (n r : ℕ) → r ≤ spacing → n * (spacing - r) + n * r ≡ n * spacing
    together n r h = let e : spacing - r + r ≡ spacing = omega arith in omega (arith, ap (λ (t : ℕ). n * t) e)

-- no size is above that of the row's largest entry
pub line-most : (row : Entries) (x : ℕ) → straight_line row x ≤ tenth * largest row
unfolding straight_line on_line
line-most row x = omega (arith, weighed row x)

-- at an entry the line gives the entry
pub line-entry : (row : Entries) (i : ℕ) → straight_line row (i * spacing) ≡ tenth * get_or row i 0
unfolding straight_line on_line
line-entry row i =
    let q : i * spacing / spacing ≡ i = omega arith in
    let r : i * spacing % spacing ≡ 0 = omega arith in
    rw (q, r) (omega arith)

-- a 0 behind the last entry changes nothing
behind : (row : Entries) (i : ℕ) → get_or (row ++ (0 ∷ [])) i 0 ≡ get_or row i 0
behind [] zero = refl
behind [] (suc i) = refl
behind (e ∷ row) zero = refl
behind (e ∷ row) (suc i) = behind row i

pub line-behind : (row : Entries) (x : ℕ) → straight_line (row ++ (0 ∷ [])) x ≡ straight_line row x
unfolding straight_line
line-behind row x = rw (behind row (x / spacing), behind row (x / spacing + 1))

-- in the code's numbers
pub between : (row : Entries) (x : ℕ) → straight_line row x ≡ (get_or row (x / spacing) 0 * (spacing - x % spacing) + get_or row (x / spacing + 1) 0 * (x % spacing)) / 150
unfolding straight_line on_line
between row x = omega arith

-- what the code reckons keeps to its bounds
pub record LineFits (row : Entries) (x : ℕ) : Type 0 where
  pub entry : get_or row (x / spacing) 0 ≤ 461
  pub next : get_or row (x / spacing + 1) 0 ≤ 461
  pub sum : get_or row (x / spacing) 0 * (spacing - x % spacing) + get_or row (x / spacing + 1) 0 * (x % spacing) ≤ 24894000

pub line-fits : (row : Entries) (x : ℕ) → largest row ≤ 461 → LineFits row x
line-fits row x h =
    record {
      entry = omega (arith, entry-most row (x / spacing));
      next = omega (arith, entry-most row (x / spacing + 1));
      sum = omega (arith, weighed row x);
    }

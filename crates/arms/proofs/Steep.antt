-- How steep each correction is: a table's straight line changes in a second by at most what two neighbours of its row
-- differ by, in 150ths, and an equation by what its Q does.
-- Assumes nothing.
use mathlib.Core.Bool.{cond}
use mathlib.Core.List.{[], ◌∷◌}
use mathlib.Core.Path.{◌≡◌, sym, ap, ◌∙◌}
use Prim.Native.Nat.{ℕ, zero, suc, ◌+◌, ◌*◌, ◌-◌, ◌/◌, ◌%◌, ◌<◌, ◌≤◌, max}
use native.Mathlib.Decide.{dec_le, dec_lt}
use native.Mathlib.Nat.{mul_comm, mul-le-mul_left, mul-le-mul_right, le_of_mul-le-mul_right, lt-div-mul-add, div-mul-le_self, div-lt_iff_lt-mul}
use native.Mathlib.Numerals.{add-one}
use native.Mathlib.Omega.{arith}
use lib.Dec.{leb}
use lib.ListN.{get_or, length}
use borrow.Author.Tests.{le-leb, lt-leb}
use Rattle.longitudes.specs.Longitudes.{circle}
use Rattle.panchanga.specs.TrueLongitudes.{bhuja, bhuja_product, equation}
use Rattle.panchanga.proofs.Naturals.{first-half, second-half}
use Rattle.panchanga.proofs.TrueSun.{product-most}
use Rattle.planets.specs.Tables.{spacing, Entries, straight_line, largest}
use Rattle.planets.specs.Steps.{within_half}
use Rattle.planets.proofs.Lines.{line-most, between}
use Rattle.planets.proofs.Folds.{near, far}
use Rattle.arms.proofs.Correction.{Even, Sized}

-- ---- a row of a table

-- what two neighbours differ by at most
abbrev pub steepness : Entries → ℕ
steepness [] = 0
steepness (a ∷ []) = 0
steepness (a ∷ b ∷ row) = max (max (a - b) (b - a)) (steepness (b ∷ row))

neighbours : (row : Entries) (i : ℕ) → suc i < length row → (get_or row (suc i) 0 ≤ get_or row i 0 + steepness row) × (get_or row i 0 ≤ get_or row (suc i) 0 + steepness row)
neighbours [] i h = absurd (omega arith)
neighbours (a ∷ []) i h = absurd (omega arith)
neighbours (a ∷ b ∷ row) zero h = omega arith
neighbours (a ∷ b ∷ row) (suc i) h = omega (arith, neighbours (b ∷ row) i (omega arith))

-- 150 times the straight line, r seconds behind the entry i, and at y seconds of arc
unfoldable pub line_at : Entries → ℕ → ℕ → ℕ
line_at row i r = get_or row i 0 * (spacing - r) + get_or row (suc i) 0 * r

unfoldable pub exact_line : Entries → ℕ → ℕ
exact_line row y = line_at row (y / spacing) (y % spacing)

line-is : (row : Entries) (y : ℕ) → straight_line row y ≡ exact_line row y / 150
unfolding exact_line line_at
line-is row y = between row y ∙ rw add-one

next-second : (row : Entries) (y : ℕ) → exact_line row (y + 1) ≡ line_at row (y / spacing) (y % spacing + 1)
unfolding exact_line line_at
next-second row y = go (dec_lt (y % spacing + 1) spacing)
  where
    go : Dec (y % spacing + 1 < spacing) → get_or row ((y + 1) / spacing) 0 * (spacing - (y + 1) % spacing) + get_or row (suc ((y + 1) / spacing)) 0 * ((y + 1) % spacing) ≡ get_or row (y / spacing) 0 * (spacing - (y % spacing + 1)) + get_or row (suc (y / spacing)) 0 * (y % spacing + 1)
    go (yes h) =
        let q : (y + 1) / spacing ≡ y / spacing = omega arith in
        let m : (y + 1) % spacing ≡ y % spacing + 1 = omega arith in
        rw (q, m)
    go (no h) =
        let q : (y + 1) / spacing ≡ suc (y / spacing) = omega arith in
        let m : (y + 1) % spacing ≡ 0 = omega arith in
        let r : y % spacing + 1 ≡ spacing = omega arith in
        rw (q, m, r) (omega arith)

shifted : (a b D r t : ℕ) → b ≤ a + D → a ≤ b + D → (a * t + b * (r + 1) ≤ a * (t + 1) + b * r + D) × (a * (t + 1) + b * r ≤ a * t + b * (r + 1) + D)
shifted a b D r t h k = omega arith

line-shifted : (row : Entries) (i r : ℕ) → r < spacing → suc i < length row → (line_at row i (r + 1) ≤ line_at row i r + steepness row) × (line_at row i r ≤ line_at row i (r + 1) + steepness row)
unfolding line_at
line-shifted row i r l k =
    let n = neighbours row i k in
    let s : spacing - r ≡ spacing - (r + 1) + 1 = omega arith in
    rw s (shifted (get_or row i 0) (get_or row (suc i) 0) (steepness row) r (spacing - (r + 1)) n.0 n.1)

-- from a second to the next
line_step : (row : Entries) (y : ℕ) → suc (y / spacing) < length row → (exact_line row (y + 1) ≤ exact_line row y + steepness row) × (exact_line row y ≤ exact_line row (y + 1) + steepness row)
unfolding exact_line
line_step row y h = rw (next-second row y) (line-shifted row (y / spacing) (y % spacing) (omega arith) h)

-- a row that begins with 0, and one that ends so too
line-start : (row : Entries) → get_or row 0 0 ≡ 0 → exact_line row 0 ≡ 0
unfolding exact_line line_at
line-start row h = rw h (omega arith)

line-end : (row : Entries) → get_or row 12 0 ≡ 0 → exact_line row 648000 ≡ 0
unfolding exact_line line_at
line-end row h = rw h (omega arith)

-- the śīghra's, over half a circle
pub sighra-even : (row : Entries) → length row ≡ 13 → get_or row 0 0 ≡ 0 → get_or row 12 0 ≡ 0 → Even (exact_line row) (steepness row)
sighra-even row l s e =
    record {
      start = line-start row s;
      end = line-end row e;
      up = λ y h. (line_step row y (omega arith)).0;
      down = λ y h. (line_step row y (omega arith)).1;
    }

-- the manda's, whose arc turns back at the quarter
unfoldable pub folded : ℕ → ℕ
folded y = cond (leb y 324000) y (648000 - y)

folded_low : (y : ℕ) → y ≤ 324000 → folded y ≡ y
unfolding folded
folded_low y h = rw (le-leb y 324000 h)

folded-high : (y : ℕ) → 324000 ≤ y → folded y ≡ 648000 - y
unfolding folded
folded-high y h = go (dec_le y 324000)
  where
    go : Dec (y ≤ 324000) → cond (leb y 324000) y (648000 - y) ≡ 648000 - y
    go (yes k) = rw (le-leb y 324000 k) (omega arith)
    go (no k) = let l : 324000 < y = omega arith in rw (lt-leb y 324000 l)

pub bhuja-folded : (x : ℕ) → x < circle → bhuja x ≡ folded (within_half x)
bhuja-folded x h = go (dec_le (within_half x) 324000)
  where
    go : Dec (within_half x ≤ 324000) → bhuja x ≡ folded (within_half x)
    go (yes k) = sym (near x h k) ∙ sym (folded_low (within_half x) k)
    go (no k) = sym (far x h (omega arith)) ∙ sym (folded-high (within_half x) (omega arith))

folded-step : (row : Entries) → length row ≡ 7 → (y : ℕ) → y < 648000 → (exact_line row (folded (y + 1)) ≤ exact_line row (folded y) + steepness row) × (exact_line row (folded y) ≤ exact_line row (folded (y + 1)) + steepness row)
folded-step row l y h = go (dec_le (y + 1) 324000)
  where
    go : Dec (y + 1 ≤ 324000) → (exact_line row (folded (y + 1)) ≤ exact_line row (folded y) + steepness row) × (exact_line row (folded y) ≤ exact_line row (folded (y + 1)) + steepness row)
    go (yes k) = rw (folded_low (y + 1) k, folded_low y (omega arith)) (line_step row y (omega arith))
    go (no k) =
        let z : ℕ = 648000 - (y + 1) in
        let e : folded y ≡ z + 1 = folded-high y (omega arith) ∙ omega arith in
        let s = line_step row z (omega arith) in
        rw (folded-high (y + 1) (omega arith), e) (s.1, s.0)

pub manda-even : (row : Entries) → length row ≡ 7 → get_or row 0 0 ≡ 0 → Even (λ (y : ℕ). exact_line row (folded y)) (steepness row)
manda-even row l s =
    record {
      start = ap (exact_line row) (folded_low 0 (omega arith)) ∙ line-start row s;
      end = ap (exact_line row) (folded-high 648000 (omega arith)) ∙ line-start row s;
      up = λ y h. (folded-step row l y h).0;
      down = λ y h. (folded-step row l y h).1;
    }

pub line_small : (row : Entries) → largest row ≤ 461 → (y : ℕ) → straight_line row y ≤ circle
line_small row h y = omega (arith, line-most row y)

-- their sizes: w more of the number is at most M more of the size
module _ (row : Entries) (w M : ℕ) (most : largest row ≤ 461) where
  pub sighra-sized : w < 150 * M → Sized (exact_line row) (straight_line row) w M
  sighra-sized h =
      record {
        small = λ y l. line_small row most y;
        rise = λ y z k l m. omega (arith, line-is row y, line-is row z);
        both = λ y z k l m. omega (arith, line-is row y, line-is row z);
      }

  pub half-sized : w < 300 * M → Sized (exact_line row) (λ (y : ℕ). straight_line row y / 2) w M
  half-sized h =
      record {
        small = λ y l. omega (arith, line_small row most y);
        rise = λ y z k l m. omega (arith, line-is row y, line-is row z);
        both = λ y z k l m. omega (arith, line-is row y, line-is row z);
      }

  pub manda-sized : w < 150 * M → Sized (λ (y : ℕ). exact_line row (folded y)) (λ (y : ℕ). straight_line row (folded y)) w M
  manda-sized h =
      record {
        small = λ y l. line_small row most (folded y);
        rise = λ y z k l m. omega (arith, line-is row (folded y), line-is row (folded z));
        both = λ y z k l m. omega (arith, line-is row (folded y), line-is row (folded z));
      }

-- ---- an equation, by Q

Q-shift : (y t : ℕ) → y + t ≡ 647999 → ((y + 1) * t ≤ y * (t + 1) + 648000) × (y * (t + 1) ≤ (y + 1) * t + 648000)
Q-shift y t e = omega arith

Q-step : (y : ℕ) → y < 648000 → (bhuja_product (y + 1) ≤ bhuja_product y + 648000) × (bhuja_product y ≤ bhuja_product (y + 1) + 648000)
Q-step y h =
    let r : 648000 - y ≡ 647999 - y + 1 = omega arith in
    let s : 648000 - (y + 1) ≡ 647999 - y = omega arith in
    rw (r, s) (Q-shift y (647999 - y) (omega arith))

pub Q-even : Even (λ (y : ℕ). bhuja_product y) 648000
Q-even = record { start = omega arith; end = omega arith; up = λ y h. (Q-step y h).0; down = λ y h. (Q-step y h).1 }

-- by its numbers, at an anomaly folded to half a circle
unfoldable pub equation_at : ℕ → ℕ → ℕ → ℕ
equation_at scale divisor y = scale * bhuja_product y / (divisor - bhuja_product y)

pub equation-folded : (scale divisor x : ℕ) → x < circle → equation scale divisor x ≡ equation_at scale divisor (within_half x)
unfolding equation equation_at within_half
equation-folded scale divisor x h = go (dec_le x 648000)
  where
    at : {q r : ℕ} → q ≡ r → scale * r / (divisor - r) ≡ scale * q / (divisor - q)
    at e = ap (λ (q : ℕ). scale * q / (divisor - q)) (sym e)

    go : Dec (x ≤ 648000) → scale * bhuja_product (bhuja x) / (divisor - bhuja_product (bhuja x)) ≡ scale * bhuja_product (cond (leb x 648000) x (circle - x)) / (divisor - bhuja_product (cond (leb x 648000) x (circle - x)))
    go (yes k) = rw (le-leb x 648000 k) (at (first-half x k))
    go (no k) =
        let l : 648000 < x = omega arith in
        let r : 648000 - (circle - x) ≡ x - 648000 = omega arith in
        let s : 648000 - (x - 648000) ≡ circle - x = omega arith in
        let m : bhuja_product (circle - x) ≡ bhuja_product (x - 648000) = rw (r, s) (mul_comm (circle - x) (x - 648000)) in
        rw (lt-leb x 648000 l) (at (m ∙ second-half x l h))

-- E is at least the largest equation, T what the divisor is less the largest Q, and w more of Q at most M seconds more
module _ (scale T E w M : ℕ) (deep : 0 < T) (most : scale * 104976000000 < (E + 1) * T) (wide : (E + 1 + scale) * w ≤ M * T) (few : E ≤ circle) where
  abbrev divisor : ℕ
  divisor = T + 104976000000

  largest-equation : (Q R : ℕ) → Q ≤ 104976000000 → T ≤ R → scale * Q / R ≤ E
  largest-equation Q R h k =
      let l : scale * Q / R < E + 1 = (div-lt_iff_lt-mul {k = R} {x = scale * Q} {y = E + 1} (omega arith)).1 (omega (arith, mul-le-mul_left scale h, mul-le-mul_left (E + 1) k)) in
      omega arith

  risen : (e Q Q' R R' : ℕ) → e ≤ E → Q' ≤ Q + w → R ≤ R' + w → T ≤ R' → scale * Q < e * R + R → scale * Q' < (e + M + 1) * R'
  risen e Q Q' R R' h q r t l =
      omega (arith, mul-le-mul_left scale q, mul-le-mul_left e r, mul-le-mul_right w h, mul-le-mul_left M t)

  pub equation-sized : Sized (λ (y : ℕ). bhuja_product y) (equation_at scale divisor) w M
  unfolding equation_at
  equation-sized =
      record {
        small = λ y l. omega (arith, largest-equation (bhuja_product y) (divisor - bhuja_product y) (product-most y l) (omega (arith, product-most y l)));
        rise = rise;
        both = both;
      }
    where
      rise : (y z : ℕ) → y ≤ 648000 → z ≤ 648000 → bhuja_product z ≤ bhuja_product y + w → scale * bhuja_product z / (divisor - bhuja_product z) ≤ scale * bhuja_product y / (divisor - bhuja_product y) + M
      rise y z k l m =
          let Q : ℕ = bhuja_product y in
          let Q' : ℕ = bhuja_product z in
          let a = product-most y k in
          let b = product-most z l in
          let e : ℕ = scale * Q / (divisor - Q) in
          let o = risen e Q Q' (divisor - Q) (divisor - Q') (largest-equation Q (divisor - Q) a (omega arith)) m (omega arith) (omega arith) (lt-div-mul-add {a = scale * Q} {b = divisor - Q} (omega arith)) in
          let f : scale * Q' / (divisor - Q') < e + M + 1 = (div-lt_iff_lt-mul {k = divisor - Q'} {x = scale * Q'} {y = e + M + 1} (omega arith)).1 o in
          omega arith

      share : (Q : ℕ) → Q ≤ 104976000000 → scale * Q / (divisor - Q) * T ≤ scale * Q
      share Q h =
          let r : T ≤ divisor - Q = omega arith in
          omega (arith, mul-le-mul_left (scale * Q / (divisor - Q)) r, div-mul-le_self (scale * Q) (divisor - Q))

      both : (y z : ℕ) → y ≤ 648000 → z ≤ 648000 → bhuja_product y + bhuja_product z ≤ w → scale * bhuja_product y / (divisor - bhuja_product y) + scale * bhuja_product z / (divisor - bhuja_product z) ≤ M
      both y z k l m =
          let Q : ℕ = bhuja_product y in
          let Q' : ℕ = bhuja_product z in
          let e : ℕ = scale * Q / (divisor - Q) in
          let e' : ℕ = scale * Q' / (divisor - Q') in
          let less : (e + e') * T ≤ M * T = omega (arith, share Q (product-most y k), share Q' (product-most z l), mul-le-mul_left scale m) in
          le_of_mul-le-mul_right {m = e + e'} {n = M} {k = T} less deep

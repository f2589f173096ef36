-- The rule in naturals, once over K, D, p and q: whole circles are put on until nothing is negative, and the reduction
-- takes them off again. And what seconds and remainder are together.
-- Assumes nothing.
use mathlib.Core.Path.{◌≡◌, ap, ◌∙◌}
use Prim.Native.Nat.{ℕ, suc, ◌+◌, ◌*◌, ◌-◌, ◌/◌, ◌%◌, ◌≤◌, ◌<◌}
use native.Mathlib.Omega.{arith}
use native.Mathlib.Nat.{add-mul-div_right, add-mul-mod_self_right, div-lt_iff_lt-mul}
use lib.IntN.{ℤ, pos, negsuc, ◌-ℤ◌, ◌*ℤ◌}
use Rattle.integers.proofs.Less.{Less, less-pos, less-add, less-minus, less-times, less_by}
use Rattle.integers.specs.Integers.{reduced}
use Rattle.integers.proofs.Reduced.{less-reduced, floor-reduced, floor-left, reduced-small}
use Rattle.longitudes.specs.Longitudes.{circle, Row, exact_times_q, mean_longitude, remainder_of, thirds}

-- q times a day's motion, forwards: to go p / q back is to go a circle less p / q forwards
abbrev pub forwards : ℤ → ℕ → ℕ
forwards (pos p) q = p
forwards (negsuc p) q = circle * q - suc p

-- what a row keeps to: a motion backwards is at most a circle a day
abbrev pub backwards : ℤ → ℕ
backwards (pos p) = 0
backwards (negsuc p) = suc p

pub record RowInRange (row : Row) : Type 0 where
  pub start : row.K < circle
  pub amount : row.D ≤ circle
  pub divisor : 0 < row.q
  pub parts : row.q < 2000
  pub back : backwards row.p ≤ circle * row.q
  pub motion : forwards row.p row.q < 100000000

abbrev pub row_of : ℕ → ℕ → ℤ → ℕ → Row
row_of K D p q = record { K = K; D = D; p = p; q = q }

-- q times the exact longitude as a difference of naturals, for a motion u − v
pub exact-less : (K D : ℕ) (p : ℤ) (q C A u v : ℕ) → Less p u v → Less (exact_times_q (row_of K D p q) C A) ((K + 0) * q + A * u) ((0 + C * D) * q + A * v)
exact-less K D p q C A u v h =
    less-add ((pos K -ℤ pos (C * D)) *ℤ pos q) (pos A *ℤ p) ((K + 0) * q) ((0 + C * D) * q) (A * u) (A * v)
    (less-times (pos K -ℤ pos (C * D)) (K + 0) (0 + C * D) q (less-minus (pos K) (pos (C * D)) K 0 (C * D) 0 (less-pos K) (less-pos (C * D))))
    (less_by p A u v h)

-- the rule in naturals, for a row with the motion w forwards
pub record InNaturals (row : Row) (C A w : ℕ) : Type 0 where
  pub seconds : mean_longitude row C A ≡ (row.K + C * (circle - row.D) + A * w / row.q) % circle
  pub left : remainder_of row C A ≡ A * w % row.q

-- a motion u − v is w, or t circles less
moved : (K D : ℕ) (p : ℤ) (q C A u v w t : ℕ) → 0 < q → D ≤ circle → Less p u v → u + t * circle * q ≡ v + w → InNaturals (row_of K D p q) C A w
unfolding mean_longitude remainder_of
moved K D p q C A u v w t hq hd hp hw =
    record {
      seconds =
          floor-reduced (exact_times_q (row_of K D p q) C A) a b N q circle (C + A * t) hq (omega arith) (exact-less K D p q C A u v hp) forward
          ∙ ap (λ (x : ℕ). x % circle) (add-mul-div_right (A * w) (K + C * E) hq ∙ omega arith);
      left =
          less-reduced (exact_times_q (row_of K D p q) C A) a b N q ((C + A * t) * circle) hq (exact-less K D p q C A u v hp) forward
          ∙ add-mul-mod_self_right (A * w) (K + C * E) q;
    }
  where
    E : ℕ
    E = circle - D

    a : ℕ
    a = (K + 0) * q + A * u

    b : ℕ
    b = (0 + C * D) * q + A * v

    N : ℕ
    N = A * w + (K + C * E) * q

    together : D + E ≡ circle
    together = omega arith

    forward : a + (C + A * t) * circle * q ≡ b + N
    forward = omega (arith, ap (λ (x : ℕ). C * x * q) together, ap (λ (x : ℕ). A * x) hw)

by_sign : (K D : ℕ) (p : ℤ) (q C A : ℕ) → 0 < q → D ≤ circle → backwards p ≤ circle * q → InNaturals (row_of K D p q) C A (forwards p q)
by_sign K D (pos p) q C A hq hd hp = moved K D (pos p) q C A p 0 p 0 hq hd (less-pos p) (omega arith)
by_sign K D (negsuc p) q C A hq hd hp = moved K D (negsuc p) q C A 0 (suc p) (circle * q - suc p) 1 hq hd (omega arith) (omega arith)

pub in-naturals : (row : Row) (C A : ℕ) → RowInRange row → InNaturals row C A (forwards row.p row.q)
in-naturals row C A f = by_sign row.K row.D row.p row.q C A f.divisor f.amount f.back

pub mean-small : (row : Row) (C A : ℕ) → mean_longitude row C A < circle
unfolding mean_longitude
mean-small row C A = reduced-small _ circle (omega arith)

pub remainder-below : (row : Row) (C A : ℕ) → 0 < row.q → remainder_of row C A < row.q
unfolding remainder_of
remainder-below row C A h = reduced-small _ row.q h

-- seconds and remainder together are the exact longitude, reduced by whole circles: both sides q times
pub exact-whole : (row : Row) (C A : ℕ) → 0 < row.q → mean_longitude row C A * row.q + remainder_of row C A ≡ reduced (exact_times_q row C A) (circle * row.q)
unfolding mean_longitude remainder_of
exact-whole row C A h = floor-left (exact_times_q row C A) row.q circle h (omega arith)

pub thirds-below-60 : (row : Row) (C A : ℕ) → 0 < row.q → thirds row C A < 60
unfolding thirds
thirds-below-60 row C A h = (div-lt_iff_lt-mul h).1 (omega (arith, remainder-below row C A h))

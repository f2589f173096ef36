-- Between what degrees lie: by the order of roundings against the ends, which compute; what is backwards is the
-- negation of what is forwards.
-- Assumes nothing.
use mathlib.Core.Path.{◌≡◌, refl, sym, ap, ◌∙◌, subst}
use mathlib.Core.Bool.{Bool, true, false, not, cond, ◌||◌, ◌&&◌}
use mathlib.Core.Logic.{inl, inr}
use Prim.Native.Nat.{ℕ, zero, suc, ◌+◌, ◌*◌, ◌/◌, ◌%◌, ◌^◌, ◌<◌, ◌≤◌}
use native.Mathlib.Nat.{mul_assoc, mul-pos, mul-lt-mul_of_pos_right, lt_of_lt_of_le, not-le_of_lt}
use native.Mathlib.Decide.{dec_lt}
use native.Mathlib.Omega.{arith}
use lib.IntN.{ℤ, pos, negsuc, neg_ℤ}
use lib.Dec.{T, ltb, eqb, eqb-suc-zero, eqb→eq, lt→ltb, ltb→lt, lit<, lit≤}
use lib.Pow.{pow_pos}
use lib.Ieee.{Float, nan, inf, fin, binary64, prec, low, emax, up, down, odd, units, round, neg, of_int, le, lt, eq}
use lib.Ieee.Fits.{up_pos, down_pos, eq→eqb, and_i, and_l, round_is}
use lib.Ieee.Exact.{HasValue, round_exact}
use lib.Ieee.Order.{round_mono}
use lib.Ieee.Positive.{num, den, positive, den_pos, le→cross, le_trans_positive, through, between}
use mir.Facts.{or_yes}
use Rattle.arms.specs.Degrees.{degrees_of}
use Rattle.arms.specs.Ranges.{is_proper, whole, Between, IsAngle, IsRate, IsTrueRate}

-- ---- floats above zero, and their negations

proper : (x : Float) → T (positive x) → T (is_proper x)
unfolding is_proper
proper nan p = absurd p
proper (inf s) p = absurd p
proper (fin true m e) p = absurd p
proper (fin false m e) p = tt

proper-back : (x : Float) → T (positive x) → T (is_proper (neg x))
unfolding is_proper neg
proper-back nan p = absurd p
proper-back (inf s) p = absurd p
proper-back (fin true m e) p = absurd p
proper-back (fin false zero e) p = absurd p
proper-back (fin false (suc m) e) p = subst (λ (t : Bool). T (not t)) (sym (eqb-suc-zero m)) tt

or_l : (a b : Bool) → T a → T (a || b)
or_l true b t = tt
or_l false b t = absurd t

or_r : (a b : Bool) → T b → T (a || b)
or_r true b t = tt
or_r false b t = t

cross→lt : (x z : Float) → T (positive x) → T (positive z) → num x * den z < num z * den x → T (lt x z)
unfolding lt
cross→lt nan z p q h = absurd p
cross→lt (inf s) z p q h = absurd p
cross→lt (fin true m e) z p q h = absurd p
cross→lt (fin false m e) nan p q h = absurd q
cross→lt (fin false m e) (inf t) p q h = absurd q
cross→lt (fin false m e) (fin true n d) p q h = absurd q
cross→lt (fin false m e) (fin false n d) p q h = lt→ltb (m * up e * down d) (n * up d * down e) h

-- x ≤ y < z, the second by numbers
lt_of_le : (x y z : Float) → T (positive x) → T (positive y) → T (positive z) → T (le x y) → num y * den z < num z * den y → T (lt x z)
lt_of_le x y z p q r h k = go (dec_lt (num x * den z) (num z * den x))
  where
    go : Dec (num x * den z < num z * den x) → T (lt x z)
    go (yes l) = cross→lt x z p r l
    go (no l) = absurd (not-le_of_lt k (through (num z) (num x) (num y) (den z) (den x) (den y) (den_pos x) (omega arith) (le→cross x y p q h)))

-- below zero is below what is above it
back-lt : (x z : Float) → T (positive x) → T (positive z) → T (lt (neg x) z)
unfolding neg lt
back-lt nan z p q = absurd p
back-lt (inf s) z p q = absurd p
back-lt (fin true m e) z p q = absurd p
back-lt (fin false m e) nan p q = absurd q
back-lt (fin false m e) (inf t) p q = absurd q
back-lt (fin false m e) (fin true n d) p q = absurd q
back-lt (fin false m e) (fin false n d) p q = lt→ltb 0 (m * up e * down d + n * up d * down e) (omega (arith, mul-pos (mul-pos (ltb→lt 0 m p) (up_pos e)) (down_pos d)))

back-le : (x z : Float) → T (positive x) → T (positive z) → T (le (neg x) z)
unfolding le
back-le x z p q = or_l (lt (neg x) z) (eq (neg x) z) (back-lt x z p q)

-- the order of negations is turned
turned : (x z : Float) → T (positive x) → T (positive z) → T (le x z) → T (le (neg z) (neg x))
unfolding neg le lt eq
turned nan z p q h = absurd p
turned (inf s) z p q h = absurd p
turned (fin true m e) z p q h = absurd p
turned (fin false m e) nan p q h = absurd q
turned (fin false m e) (inf t) p q h = absurd q
turned (fin false m e) (fin true n d) p q h = absurd q
turned (fin false m e) (fin false n d) p q h = swap (m * up e * down d) (n * up d * down e) h
  where
    swap : (a b : ℕ) → T (ltb a b || (eqb a b && true)) → T (ltb a b || (eqb b a && true))
    swap a b h =
        elim (or_yes (ltb a b) (eqb a b && true) h) [
          | inl u ↦ or_l (ltb a b) (eqb b a && true) u
          | inr u ↦ or_r (ltb a b) (eqb b a && true) (and_i (eqb b a) true (eq→eqb (sym (eqb→eq a b (and_l (eqb a b) true u)))) tt)
        ]

-- ---- rounding with the negative sign negates

odd-back : (d q k l : ℕ) → odd d true q k l ≡ neg (odd d false q k l)
unfolding odd neg
odd-back d zero k l = refl
odd-back d (suc q) k l = refl

inf-back : inf true ≡ neg (inf false)
unfolding neg
inf-back = refl

units-back : (q k : ℕ) → units binary64 true q k ≡ neg (units binary64 false q k)
unfolding units
units-back q k = go (ltb (q * 2 ^ k) (2 ^ (low binary64 + suc (emax binary64))))
  where
    go : (b : Bool) → cond b (odd (suc (prec binary64)) true q k (low binary64)) (inf true) ≡ neg (cond b (odd (suc (prec binary64)) false q k (low binary64)) (inf false))
    go true = odd-back (suc (prec binary64)) q k (low binary64)
    go false = inf-back

round-back : (a b : ℕ) → round binary64 true a b ≡ neg (round binary64 false a b)
round-back a b = round_is binary64 true a b ∙ units-back _ _ ∙ ap neg (sym (round_is binary64 false a b))

-- ---- degrees

-- n seconds forwards
abbrev deg : ℕ → Float
deg n = round binary64 false n 3600

mono : (n m : ℕ) → n ≤ m → T (le (deg n) (deg m))
mono n m h = round_mono binary64 n 3600 m 3600 (lit< tt) (lit< tt) (omega arith)

-- the ends, computed
no_second : deg 0 ≡ fin false 0 (pos 0)
unfolding round
no_second = refl

one-second : deg 1 ≡ fin false 5124095576030431 (negsuc 63)
unfolding round
one-second = refl

whole-circle : deg 1296000 ≡ fin false 45 (pos 3)
unfolding round
whole-circle = refl

a-second-less : deg 1295999 ≡ fin false 3166591044635707 (negsuc 42)
unfolding round
a-second-less = refl

half-circle : deg 648000 ≡ fin false 45 (pos 2)
unfolding round
half-circle = refl

a-second-less-than-half : deg 647999 ≡ fin false 6333177202553069 (negsuc 44)
unfolding round
a-second-less-than-half = refl

one-degree : deg 3600 ≡ fin false 1 (pos 0)
unfolding round
one-degree = refl

two-degrees : deg 7200 ≡ fin false 1 (pos 1)
unfolding round
two-degrees = refl

-- the mean Moon's longest way, and what the true one's is not above
longest : deg 47444 ≡ fin false 3709527443072323 (negsuc 47)
unfolding round
longest = refl

longest-true : deg 54022 ≡ fin false 1055961193879379 (negsuc 45)
unfolding round
longest-true = refl

above_zero : (n : ℕ) → 0 < n → n ≤ 1296000 → T (positive (deg n))
above_zero n h k =
    between (deg 1) (deg n) (deg 1296000) (rw one-second tt) (rw whole-circle tt) (mono 1 n h) (mono n 1296000 k)

zero-proper : T (is_proper (deg 0))
unfolding is_proper
zero-proper = subst (λ (x : Float). T (is_proper x)) (sym no_second) tt

zero-below : (z : Float) → T (positive z) → T (lt (fin false 0 (pos 0)) z)
unfolding lt
zero-below nan q = absurd q
zero-below (inf t) q = absurd q
zero-below (fin true n d) q = absurd q
zero-below (fin false n d) q = lt→ltb (0 * 2 ^ 0 * down d) (n * up d * 1) (omega (arith, mul-pos (ltb→lt 0 n q) (up_pos d)))

zero-above : (z : Float) → T (positive z) → T (le (neg z) (fin false 0 (pos 0)))
unfolding neg le lt
zero-above nan q = absurd q
zero-above (inf t) q = absurd q
zero-above (fin true n d) q = absurd q
zero-above (fin false n d) q = or_l (ltb 0 (n * up d * 1 + 0 * 2 ^ 0 * down d)) _ (lt→ltb 0 (n * up d * 1 + 0 * 2 ^ 0 * down d) (omega (arith, mul-pos (ltb→lt 0 n q) (up_pos d))))

whole-360 : whole (pos 360) ≡ fin false 45 (pos 3)
unfolding of_int round
whole-360 = refl

whole-180 : whole (pos 180) ≡ fin false 45 (pos 2)
unfolding of_int round
whole-180 = refl

whole-14 : whole (pos 14) ≡ fin false 7 (pos 1)
unfolding of_int round
whole-14 = refl

whole-16 : whole (pos 16) ≡ fin false 1 (pos 4)
unfolding of_int round
whole-16 = refl

whole-1-back : whole (neg_ℤ (pos 1)) ≡ neg (fin false 1 (pos 0))
unfolding of_int round neg
whole-1-back = refl

whole-2-back : whole (neg_ℤ (pos 2)) ≡ neg (fin false 1 (pos 1))
unfolding of_int round neg
whole-2-back = refl

whole-180-back : whole (neg_ℤ (pos 180)) ≡ neg (fin false 45 (pos 2))
unfolding of_int round neg
whole-180-back = refl

-- at least 0
least : (n : ℕ) → T (le (whole (pos 0)) (deg n))
unfolding of_int
least n = round_mono binary64 0 1 n 3600 (lit< tt) (lit< tt) (omega arith)

-- up to m seconds, whose degrees are below z
below : (n m : ℕ) (y z : Float) → deg m ≡ y → T (positive y) → T (positive z) → num y * den z < num z * den y → 0 < n → n ≤ m → m ≤ 1296000 → T (lt (deg n) z)
below n m y z e q r k h l u = lt_of_le (deg n) y z (above_zero n h (omega arith)) q r (subst (λ (x : Float). T (le (deg n) x)) e (mono n m l)) k

-- ---- AN ANGLE is at least 0 and below 360
pub angle-range : (n : ℕ) → n < 1296000 → IsAngle (degrees_of (pos n))
unfolding degrees_of
angle-range zero h = record { proper = zero-proper; least = least 0; most = rw (no_second, whole-360) (zero-below (fin false 45 (pos 3)) tt) }
angle-range (suc n) h =
    record {
      proper = proper (deg (suc n)) (above_zero (suc n) (omega arith) (omega arith));
      least = least (suc n);
      most = rw whole-360 (below (suc n) 1295999 (fin false 3166591044635707 (negsuc 42)) (fin false 45 (pos 3)) a-second-less tt tt (lit< tt) (omega arith) (omega arith) (lit≤ tt));
    }

-- a whole number of seconds from back backwards to forth forwards
abbrev pub Within : ℕ → ℕ → ℤ → Type 0
Within back forth (pos n) = n ≤ forth
Within back forth (negsuc n) = n < back

-- such a number's degrees lie between −low and high where the ends' do
module _ (back forth low high : ℕ) (lo hi y : Float)
    (lo-is : whole (neg_ℤ (pos low)) ≡ neg lo) (hi-is : whole (pos high) ≡ hi) (y-is : deg forth ≡ y)
    (p : T (positive lo)) (q : T (positive hi)) (r : T (positive y))
    (back_end : T (le (deg back) lo)) (forth-end : num y * den hi < num hi * den y)
    (u : back ≤ 1296000) (v : forth ≤ 1296000) where
  ends : (z : ℤ) → Within back forth z → Between (neg_ℤ (pos low)) (pos high) (degrees_of z)
  unfolding degrees_of
  ends (pos zero) h = record { proper = zero-proper; least = rw (no_second, lo-is) (zero-above lo p); most = rw (no_second, hi-is) (zero-below hi q) }
  ends (pos (suc n)) h =
      let o = above_zero (suc n) (omega arith) (omega arith) in
      record {
        proper = proper (deg (suc n)) o;
        least = rw lo-is (back-le lo (deg (suc n)) p o);
        most = rw hi-is (below (suc n) forth y hi y-is r q forth-end (omega arith) h v);
      }
  ends (negsuc n) h =
      let o = above_zero (suc n) (omega arith) (omega arith) in
      rw (round-back (suc n) 3600)
      (record {
        proper = proper-back (deg (suc n)) o;
        least = rw lo-is (turned (deg (suc n)) lo o p (le_trans_positive (deg (suc n)) (deg back) lo o (above_zero back (omega arith) u) p (mono (suc n) back h) back_end));
        most = rw hi-is (back-lt (deg (suc n)) hi o q);
      })

-- ---- A SHORT WAY of any two longitudes is at least −180 degrees and below 180
pub way-range : (z : ℤ) → Within 648000 647999 z → Between (neg_ℤ (pos 180)) (pos 180) (degrees_of z)
way-range =
    ends 648000 647999 180 180 (fin false 45 (pos 2)) (fin false 45 (pos 2)) (fin false 6333177202553069 (negsuc 44)) whole-180-back whole-180 a-second-less-than-half tt tt tt
    (subst (λ (x : Float). T (le (deg 648000) x)) half-circle (mono 648000 648000 (lit≤ tt))) (lit< tt) (lit≤ tt) (lit≤ tt)

-- ---- A MEAN RATE, from 191 seconds back to 47444 forwards, is at least −1 and below 14
pub rate-range : (z : ℤ) → Within 191 47444 z → IsRate (degrees_of z)
rate-range =
    ends 191 47444 1 14 (fin false 1 (pos 0)) (fin false 7 (pos 1)) (fin false 3709527443072323 (negsuc 47)) whole-1-back whole-14 longest tt tt tt
    (subst (λ (x : Float). T (le (deg 191) x)) one-degree (mono 191 3600 (lit≤ tt))) (lit< tt) (lit≤ tt) (lit≤ tt)

-- ---- A TRUE RATE, from 4030 seconds back to 54022 forwards, is at least −2 and below 16
pub true-rate-range : (z : ℤ) → Within 4030 54022 z → IsTrueRate (degrees_of z)
true-rate-range =
    ends 4030 54022 2 16 (fin false 1 (pos 1)) (fin false 1 (pos 4)) (fin false 1055961193879379 (negsuc 45)) whole-2-back whole-16 longest-true tt tt tt
    (subst (λ (x : Float). T (le (deg 4030) x)) two-degrees (mono 4030 7200 (lit≤ tt))) (lit< tt) (lit≤ tt) (lit≤ tt)

-- ---- AN ANGLE IS EXACT at a multiple of 225 seconds: a whole number of sixteenths of a degree
pub exact : (n : ℕ) → n < 1296000 → n % 225 ≡ 0 → HasValue (degrees_of (pos n)) false n 3600
unfolding degrees_of
exact n h e =
    round_exact binary64 false n 3600 (n / 225) 1070 (lit< tt) (lt_of_lt_of_le (small n h) (lit≤ tt)) (lt_of_lt_of_le (mul-lt-mul_of_pos_right (small n h) (pow_pos 1070)) (lit≤ tt)) (sixteenths n e)
  where
    small : (n : ℕ) → n < 1296000 → n / 225 < 5760
    small n h = omega arith

    multiple : (n : ℕ) → n % 225 ≡ 0 → n ≡ n / 225 * 225
    multiple n e = omega arith

    sixteenths : (n : ℕ) → n % 225 ≡ 0 → n * 2 ^ 1074 ≡ n / 225 * 2 ^ 1070 * 3600
    sixteenths n e = ap (λ (z : ℕ). z * 2 ^ 1074) (multiple n e) ∙ mul_assoc (n / 225) 225 (2 ^ 1074) ∙ sym (mul_assoc (n / 225) (2 ^ 1070) 3600)

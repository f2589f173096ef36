-- How far each true body goes in a day, of all days: its mean way, and what its corrections go, each by its steepness
-- and how far its anomaly goes. So the true Sun and Moon never go back, and all go at most 4,030 seconds back and
-- 54,022 forwards.
-- Assumes nothing.
use mathlib.Core.Bool.{true, false}
use mathlib.Core.Path.{◌≡◌, refl}
use Prim.Native.Nat.{ℕ, zero, suc, ◌+◌, ◌*◌, ◌/◌, ◌%◌, ◌<◌, ◌≤◌}
use native.Mathlib.Omega.{arith}
use lib.IntN.{ℤ, pos, negsuc}
use lib.ListN.{get_or, length}
use Rattle.days.specs.Days.{last_day, pair_at}
use Rattle.longitudes.specs.Longitudes.{circle, difference_of}
use Rattle.longitudes.proofs.Table.{longitude-small}
use Rattle.longitudes.proofs.Subtraction.{difference-small}
use Rattle.panchanga.specs.TrueLongitudes.{bhuja_product, true_longitude, true_moon}
use Rattle.panchanga.specs.OnDays.{true_sun_at, true_moon_at}
use Rattle.planets.specs.Tables.{PlanetRow, row_of, sighra_table, manda_table, planet_apogees, straight_line, largest}
use Rattle.planets.specs.Steps.{within_half, sighra_size, manda_size, true_planet}
use Rattle.planets.specs.OnDays.{is_inner}
use Rattle.planets.specs.Parts.{SignedBy}
use Rattle.planets.proofs.Steps.{Stepped, steps}
use Rattle.planets.proofs.Answers.{outer-planet, inner-planet}
use Rattle.arms.specs.Degrees.{short_way}
use Rattle.arms.specs.Orders.{seconds_on, true_seconds_on}
use Rattle.arms.proofs.Ranges.{Within}
use Rattle.arms.proofs.Goes.{Ends, Goes, Upto, ends, about, still, stays, plus, less, sum_goes, difference-goes, forwards-goes, goes-way}
use Rattle.arms.proofs.Motion.{mean_ends, mean_ends_of, day-goes, day-way}
use Rattle.arms.proofs.Correction.{sent, sent-signed, half-most, Sized, correction-goes}
use Rattle.arms.proofs.Steep.{steepness, exact_line, sighra-even, manda-even, folded, bhuja-folded, line_small, sighra-sized, half-sized, manda-sized, Q-even, equation_at, equation-folded, equation-sized}
use Rattle.arms.proofs.TrueSeconds.{sun-is, moon-is, mean-is, planet-is}

-- ---- a longitude with its equation, whose numbers are scale and T, by its apogee; E is at least the largest equation,
-- n how far the anomaly goes and M how far the equation
record Equated (scale T E n M : ℕ) (mean apogee : Ends) : Type 0 where
  pub deep : 0 < T
  pub most : scale * 104976000000 < (E + 1) * T
  pub wide : (E + 1 + scale) * (648000 * n) ≤ M * T
  pub few : E ≤ circle
  pub upto : Upto n n (less apogee mean)

module _ (scale T E n M : ℕ) (d a : Ends) (q : Equated scale T E n M d a) where
  abbrev divisor : ℕ
  divisor = T + 104976000000

  sized : Sized (λ (y : ℕ). bhuja_product y) (equation_at scale divisor) (648000 * n) M
  sized = equation-sized scale T E (648000 * n) M q.deep q.most q.wide q.few

  -- the equation at the anomaly x, as seconds forwards
  unfoldable equates : ℕ → ℕ
  equates x = sent x (equation_at scale divisor (within_half x))

  equated : (apogee mean : ℕ) → true_longitude scale divisor apogee mean ≡ (mean + equates (difference_of apogee mean)) % circle
  unfolding true_longitude equates
  equated apogee mean =
      let x : ℕ = difference_of apogee mean in
      let h : x < circle = difference-small apogee mean in
      rw (equation-folded scale divisor x h) ((sent-signed x (equation_at scale divisor (within_half x)) (sized.small (within_half x) (half-most x h))).added mean)

  equates-goes : (x z : ℕ) → x < circle → z < circle → Goes (less a d) x z → Goes (about M) (equates x) (equates z)
  unfolding equates
  equates-goes x z h k g = correction-goes (λ (y : ℕ). bhuja_product y) 648000 Q-even (equation_at scale divisor) (648000 * n) M sized n x z (less a d) h k g q.upto (omega arith)

  equated-goes : (apogee apogee' mean mean' : ℕ) → mean < circle → mean' < circle → Goes a apogee apogee' → Goes d mean mean' → Goes (plus d (about M)) (true_longitude scale divisor apogee mean) (true_longitude scale divisor apogee' mean')
  equated-goes apogee apogee' mean mean' h k f g =
      rw (equated apogee mean, equated apogee' mean')
      (sum_goes d (about M) mean mean' _ _ g
      (equates-goes _ _ (difference-small apogee mean) (difference-small apogee' mean') (difference-goes a d apogee apogee' mean mean' f g (omega arith) (omega arith))))

-- ---- a planet by its row: the three anomalies go at most n₁, n₂ and n₃ seconds, and the corrections m₁, m₂ and m₃
record Reached (row : PlanetRow) (d f : Ends) (n₁ m₁ n₂ m₂ n₃ m₃ : ℕ) : Type 0 where
  pub sighra-long : length row.sighra ≡ 13
  pub sighra-start : get_or row.sighra 0 0 ≡ 0
  pub sighra-end : get_or row.sighra 12 0 ≡ 0
  pub sighra-most : largest row.sighra ≤ 461
  pub manda-long : length row.manda ≡ 7
  pub manda-start : get_or row.manda 0 0 ≡ 0
  pub manda-most : largest row.manda ≤ 461
  pub first : Upto n₁ n₁ f
  pub half : steepness row.sighra * n₁ < 300 * m₁
  pub middle : Upto n₂ n₂ (less still (plus d (about m₁)))
  pub manda : steepness row.manda * n₂ < 150 * m₂
  pub second : Upto n₃ n₃ (less f (about m₂))
  pub whole : steepness row.sighra * n₃ < 150 * m₃

module _ (row : PlanetRow) (d f : Ends) (n₁ m₁ n₂ m₂ n₃ m₃ : ℕ) (r : Reached row d f n₁ m₁ n₂ m₂ n₃ m₃) where
  -- the corrections as seconds forwards, each at its anomaly
  unfoldable half_sent : ℕ → ℕ
  half_sent x = sent x (straight_line row.sighra (within_half x) / 2)

  unfoldable manda_sent : ℕ → ℕ
  manda_sent x = sent x (straight_line row.manda (folded (within_half x)))

  unfoldable whole_sent : ℕ → ℕ
  whole_sent x = sent x (straight_line row.sighra (within_half x))

  half-goes : (x z : ℕ) → x < circle → z < circle → Goes f x z → Goes (about m₁) (half_sent x) (half_sent z)
  unfolding half_sent
  half-goes x z h k g =
      correction-goes (exact_line row.sighra) (steepness row.sighra) (sighra-even row.sighra r.sighra-long r.sighra-start r.sighra-end) (λ (y : ℕ). straight_line row.sighra y / 2) (steepness row.sighra * n₁) m₁ (half-sized row.sighra (steepness row.sighra * n₁) m₁ r.sighra-most r.half) n₁ x z f h k g r.first (omega arith)

  manda-goes : (x z : ℕ) → x < circle → z < circle → Goes (less still (plus d (about m₁))) x z → Goes (about m₂) (manda_sent x) (manda_sent z)
  unfolding manda_sent
  manda-goes x z h k g =
      correction-goes (λ (y : ℕ). exact_line row.manda (folded y)) (steepness row.manda) (manda-even row.manda r.manda-long r.manda-start) (λ (y : ℕ). straight_line row.manda (folded y)) (steepness row.manda * n₂) m₂ (manda-sized row.manda (steepness row.manda * n₂) m₂ r.manda-most r.manda) n₂ x z (less still (plus d (about m₁))) h k g r.middle (omega arith)

  whole-goes : (x z : ℕ) → x < circle → z < circle → Goes (less f (about m₂)) x z → Goes (about m₃) (whole_sent x) (whole_sent z)
  unfolding whole_sent
  whole-goes x z h k g =
      correction-goes (exact_line row.sighra) (steepness row.sighra) (sighra-even row.sighra r.sighra-long r.sighra-start r.sighra-end) (straight_line row.sighra) (steepness row.sighra * n₃) m₃ (sighra-sized row.sighra (steepness row.sighra * n₃) m₃ r.sighra-most r.whole) n₃ x z (less f (about m₂)) h k g r.second (omega arith)

  -- the steps by them
  unfoldable middle_of : ℕ → ℕ → ℕ
  middle_of mean first = difference_of row.apogee ((mean + half_sent first) % circle)

  unfoldable second_of : ℕ → ℕ → ℕ
  second_of mean first = difference_of first (manda_sent (middle_of mean first))

  middle-small : (mean first : ℕ) → middle_of mean first < circle
  unfolding middle_of
  middle-small mean first = difference-small _ _

  second-small : (mean first : ℕ) → second_of mean first < circle
  unfolding second_of
  second-small mean first = difference-small _ _

  manda-signed : (x : ℕ) → x < circle → SignedBy x (manda_size row x) (manda_sent x)
  unfolding manda_sent manda_size
  manda-signed x h = rw (bhuja-folded x h) (sent-signed x _ (line_small row.manda r.manda-most _))

  stepped : (mean first : ℕ) → first < circle → Stepped row mean first (half_sent first) (middle_of mean first) (manda_sent (middle_of mean first)) (second_of mean first) (whole_sent (second_of mean first))
  unfolding half_sent whole_sent middle_of second_of sighra_size
  stepped mean first h =
      record {
        half-signed = sent-signed first _ (omega (arith, line_small row.sighra r.sighra-most (within_half first)));
        anomaly-is = refl;
        manda-signed = manda-signed _ (middle-small mean first);
        second_is = refl;
        whole-signed = sent-signed _ _ (line_small row.sighra r.sighra-most _);
      }

  middle-goes : (mean mean' first first' : ℕ) → first < circle → first' < circle → Goes d mean mean' → Goes f first first' → Goes (less still (plus d (about m₁))) (middle_of mean first) (middle_of mean' first')
  unfolding middle_of
  middle-goes mean mean' first first' h k g e =
      difference-goes still (plus d (about m₁)) row.apogee row.apogee _ _ (stays row.apogee)
      (sum_goes d (about m₁) mean mean' (half_sent first) (half_sent first') g (half-goes first first' h k e)) (omega arith) (omega arith)

  second-goes : (mean mean' first first' : ℕ) → Goes f first first' → Goes (about m₂) (manda_sent (middle_of mean first)) (manda_sent (middle_of mean' first')) → Goes (less f (about m₂)) (second_of mean first) (second_of mean' first')
  unfolding second_of
  second-goes mean mean' first first' e m =
      difference-goes f (about m₂) first first' _ _ e m (manda-signed _ (middle-small mean first)).small (manda-signed _ (middle-small mean' first')).small

  planet-goes : (mean mean' first first' : ℕ) → first < circle → first' < circle → Goes d mean mean' → Goes f first first' → Goes (plus (plus d (about m₂)) (about m₃)) (true_planet row mean first) (true_planet row mean' first')
  planet-goes mean mean' first first' h k g e =
      let m = manda-goes _ _ (middle-small mean first) (middle-small mean' first') (middle-goes mean mean' first first' h k g e) in
      let w = whole-goes _ _ (second-small mean first) (second-small mean' first') (second-goes mean mean' first first' e m) in
      rw (← steps (stepped mean first h), ← steps (stepped mean' first' k))
      (sum_goes (plus d (about m₂)) (about m₃) _ _ _ _ (sum_goes d (about m₂) mean mean' _ _ g m) w)

-- ---- from a day to the next
module _ (n : ℕ) (h : n < last_day) where
  small : (m b : ℕ) → seconds_on m b < circle
  small m b = longitude-small b (pair_at m)

  -- THE SUN, whose apogee is fixed: 3,327 to 3,763 seconds forwards
  pub sun-goes : Goes (ends 0 3327 436) (true_seconds_on n 0) (true_seconds_on (n + 1) 0)
  unfolding true_sun_at mean_ends
  sun-goes =
      rw (sun-is n, sun-is (n + 1))
      (forwards-goes (plus (mean_ends_of 0) (about 214)) _ _ (omega arith)
      (equated-goes 32400 433550880000 7845 3549 214 (mean_ends_of 0) still (omega arith) 280800 280800 (seconds_on n 0) (seconds_on (n + 1) 0) (small n 0) (small (n + 1) 0) (stays 280800) (day-goes n 0 h (omega arith))))

  pub sun-way : Within 0 3763 (short_way (true_seconds_on n 0) (true_seconds_on (n + 1) 0))
  sun-way = goes-way 0 3763 (ends 0 3327 436) _ _ sun-goes (omega arith) (omega arith) (omega arith)

  -- THE MOON: 40,856 to 54,022 seconds forwards
  pub moon-goes : Goes (ends 0 40856 13166) (true_seconds_on n 1) (true_seconds_on (n + 1) 1)
  unfolding true_moon_at true_moon mean_ends
  moon-goes =
      rw (moon-is n, moon-is (n + 1))
      (forwards-goes (plus (mean_ends_of 1) (about 6578)) _ _ (omega arith)
      (equated-goes 72000 417571200000 18100 47044 6578 (mean_ends_of 1) (mean_ends_of 2) (omega arith) (seconds_on n 2) (seconds_on (n + 1) 2) (seconds_on n 1) (seconds_on (n + 1) 1) (small n 1) (small (n + 1) 1) (day-goes n 2 h (omega arith)) (day-goes n 1 h (omega arith))))

  pub moon-way : Within 0 54022 (short_way (true_seconds_on n 1) (true_seconds_on (n + 1) 1))
  moon-way = goes-way 0 54022 (ends 0 40856 13166) _ _ moon-goes (omega arith) (omega arith) (omega arith)

  -- the Moon's apogee and node
  mean-way : (b : ℕ) → 2 ≤ b → b < 4 → Within 191 47444 (short_way (true_seconds_on n b) (true_seconds_on (n + 1) b))
  mean-way b k l = rw (mean-is n b k l, mean-is (n + 1) b k l) (day-way n b h (omega arith))

  -- a planet with a mean place of its own, and one with an anomaly of its own
  module _ (p back forth n₁ m₁ n₂ m₂ n₃ m₃ : ℕ) (b : 4 + p < 9) (k : back ≤ 648000) (l : forth < 648000) where
    outer-way : is_inner p ≡ false → Reached (row_of p) (mean_ends_of (4 + p)) (less (mean_ends_of 0) (mean_ends_of (4 + p))) n₁ m₁ n₂ m₂ n₃ m₃ → Upto back forth (plus (plus (mean_ends_of (4 + p)) (about m₂)) (about m₃)) → Within back forth (short_way (true_seconds_on n (4 + p)) (true_seconds_on (n + 1) (4 + p)))
    outer-way i r u =
        let g = day-goes n (4 + p) h b in
        rw (planet-is n p, planet-is (n + 1) p, ← outer-planet p _ _ (pair_at n) refl refl i, ← outer-planet p _ _ (pair_at (n + 1)) refl refl i)
        (goes-way back forth _ _ _
        (planet-goes (row_of p) (mean_ends_of (4 + p)) (less (mean_ends_of 0) (mean_ends_of (4 + p))) n₁ m₁ n₂ m₂ n₃ m₃ r _ _ _ _ (difference-small _ _) (difference-small _ _) g
        (difference-goes (mean_ends_of 0) (mean_ends_of (4 + p)) (seconds_on n 0) (seconds_on (n + 1) 0) _ _ (day-goes n 0 h (omega arith)) g (omega (arith, small n (4 + p))) (omega (arith, small (n + 1) (4 + p)))))
        u k l)

    inner-way : is_inner p ≡ true → Reached (row_of p) (mean_ends_of 0) (mean_ends_of (4 + p)) n₁ m₁ n₂ m₂ n₃ m₃ → Upto back forth (plus (plus (mean_ends_of 0) (about m₂)) (about m₃)) → Within back forth (short_way (true_seconds_on n (4 + p)) (true_seconds_on (n + 1) (4 + p)))
    inner-way i r u =
        rw (planet-is n p, planet-is (n + 1) p, ← inner-planet p _ _ (pair_at n) refl refl i, ← inner-planet p _ _ (pair_at (n + 1)) refl refl i)
        (goes-way back forth _ _ _
        (planet-goes (row_of p) (mean_ends_of 0) (mean_ends_of (4 + p)) n₁ m₁ n₂ m₂ n₃ m₃ r _ _ _ _ (small n (4 + p)) (small (n + 1) (4 + p)) (day-goes n 0 h (omega arith)) (day-goes n (4 + p) h b))
        u k l)

  pub mars-way : Within 3094 6693 (short_way (true_seconds_on n 4) (true_seconds_on (n + 1) 4))
  unfolding row_of sighra_table manda_table planet_apogees mean_ends
  mars-way = outer-way 0 3094 6693 1837 1525 3412 660 2497 4146 (omega arith) (omega arith) (omega arith) refl (omega arith) (omega arith)

  pub mercury-way : Within 4030 11120 (short_way (true_seconds_on n 5) (true_seconds_on (n + 1) 5))
  unfolding row_of sighra_table manda_table planet_apogees mean_ends
  mercury-way = inner-way 1 4030 11120 11277 3346 6895 552 11829 7019 (omega arith) (omega arith) (omega arith) refl (omega arith) (omega arith)

  pub jupiter-way : Within 608 1170 (short_way (true_seconds_on n 6) (true_seconds_on (n + 1) 6))
  unfolding row_of sighra_table manda_table planet_apogees mean_ends
  jupiter-way = outer-way 2 608 1170 3287 395 695 65 3352 805 (omega arith) (omega arith) (omega arith) refl (omega arith) (omega arith)

  pub venus-way : Within 2043 9133 (short_way (true_seconds_on n 7) (true_seconds_on (n + 1) 7))
  unfolding row_of sighra_table manda_table planet_apogees mean_ends
  venus-way = inner-way 3 2043 9133 2220 2413 5962 239 2459 5345 (omega arith) (omega arith) (omega arith) refl (omega arith) (omega arith)

  pub saturn-way : Within 346 602 (short_way (true_seconds_on n 8) (true_seconds_on (n + 1) 8))
  unfolding row_of sighra_table manda_table planet_apogees mean_ends
  saturn-way = outer-way 4 346 602 3429 206 342 48 3477 418 (omega arith) (omega arith) (omega arith) refl (omega arith) (omega arith)

-- between wider ends
wider : (back forth n b : ℕ) → back ≤ 4030 → forth ≤ 54022 → Within back forth (short_way (true_seconds_on n b) (true_seconds_on (n + 1) b)) → Within 4030 54022 (short_way (true_seconds_on n b) (true_seconds_on (n + 1) b))
wider back forth n b h k w = go (short_way (true_seconds_on n b) (true_seconds_on (n + 1) b)) w
  where
    go : (z : ℤ) → Within back forth z → Within 4030 54022 z
    go (pos m) l = omega arith
    go (negsuc m) l = omega arith

-- ---- OF ANY BODY, from any day but the last
pub true-way : (n b : ℕ) → n < last_day → b ≤ 8 → Within 4030 54022 (short_way (true_seconds_on n b) (true_seconds_on (n + 1) b))
true-way n zero h k = wider 0 3763 n 0 (omega arith) (omega arith) (sun-way n h)
true-way n (suc zero) h k = wider 0 54022 n 1 (omega arith) (omega arith) (moon-way n h)
true-way n (suc (suc zero)) h k = wider 191 47444 n 2 (omega arith) (omega arith) (mean-way n h 2 (omega arith) (omega arith))
true-way n (suc (suc (suc zero))) h k = wider 191 47444 n 3 (omega arith) (omega arith) (mean-way n h 3 (omega arith) (omega arith))
true-way n (suc (suc (suc (suc zero)))) h k = wider 3094 6693 n 4 (omega arith) (omega arith) (mars-way n h)
true-way n (suc (suc (suc (suc (suc zero))))) h k = wider 4030 11120 n 5 (omega arith) (omega arith) (mercury-way n h)
true-way n (suc (suc (suc (suc (suc (suc zero)))))) h k = wider 608 1170 n 6 (omega arith) (omega arith) (jupiter-way n h)
true-way n (suc (suc (suc (suc (suc (suc (suc zero))))))) h k = wider 2043 9133 n 7 (omega arith) (omega arith) (venus-way n h)
true-way n (suc (suc (suc (suc (suc (suc (suc (suc zero)))))))) h k = wider 346 602 n 8 (omega arith) (omega arith) (saturn-way n h)
true-way n (suc (suc (suc (suc (suc (suc (suc (suc (suc b))))))))) h k = absurd (omega arith)

-- How far each mean body goes in a day, of all days: within a cycle the whole seconds of its motion or one more, where
-- a cycle turns what its row leaves; the three are computed for each row. So all go at most 191 seconds back and 47,444
-- forwards.
-- Assumes nothing.
use mathlib.Core.Path.{◌≡◌, ap, ◌∙◌}
use mathlib.Core.List.{List, [], ◌∷◌}
use mathlib.Core.Logic.{◌⊎◌, inl, inr}
use Prim.Native.Nat.{ℕ, zero, suc, ◌+◌, ◌*◌, ◌-◌, ◌/◌, ◌%◌, ◌<◌, ◌≤◌}
use native.Mathlib.Nat.{add-mul-div_right, div-lt_iff_lt-mul, div-add-mod', mod-lt, zero-mul, zero-div}
use native.Mathlib.Decide.{dec_lt}
use native.Mathlib.Omega.{arith}
use lib.ListN.{get_or, length}
use Rattle.days.specs.Days.{last_day, pair_at}
use Rattle.longitudes.specs.Longitudes.{circle, Row, no_row, table, mean_longitude, longitude_at, difference_of}
use Rattle.longitudes.proofs.Mean.{RowInRange, forwards, in-naturals}
use Rattle.longitudes.proofs.Table.{row-in-range}
use Rattle.longitudes.proofs.Subtraction.{difference-by}
use Rattle.arms.specs.Degrees.{short_way}
use Rattle.arms.specs.Orders.{seconds_on}
use Rattle.arms.proofs.Ranges.{Within}
use Rattle.arms.proofs.Goes.{Ends, Goes, Upto, ends, still, goes-way}

-- the ends of a day's way, for each row of the table
unfoldable pub mean_ends : List Ends
mean_ends =
    ends 0 3541 8
    ∷ ends 0 47434 10
    ∷ ends 0 400 259
    ∷ ends 191 0 82
    ∷ ends 0 1712 175
    ∷ ends 0 11184 93
    ∷ ends 0 262 38
    ∷ ends 0 1511 709
    ∷ ends 0 120 16
    ∷ []

abbrev pub mean_ends_of : ℕ → Ends
mean_ends_of b = get_or mean_ends b still

-- a row's motion a day, whole seconds forwards; and how far it has gone on a cycle's last day
abbrev daily : Row → ℕ
daily row = forwards row.p row.q / row.q

abbrev gone : Row → ℕ
gone row = 4015 * forwards row.p row.q / row.q

-- the way forwards where a cycle turns, with circles put on
abbrev turning : Row → ℕ
turning row = circle - row.D + (gone row / circle + 1) * circle - gone row

-- a way of N seconds forwards is between the ends, whole circles apart
abbrev Between : Ends → ℕ → Type 0
Between e N = (N + e.lag + circle - e.lead) % circle ≤ e.spread

-- the three are, and the ends are those of all
record Ways (e : Ends) (row : Row) : Type 0 where
  pub day : Between e (daily row)
  pub longer : Between e (daily row + 1)
  pub turn : Between e (turning row)
  pub lead : e.lead ≤ circle
  pub upto : Upto 191 47444 e

abbrev AllWays : List Ends → List Row → Type 0
AllWays [] rows = Unit {0}
AllWays (e ∷ es) [] = ⊥
AllWays (e ∷ es) (row ∷ rows) = Ways e row × AllWays es rows

computed : AllWays mean_ends table
unfolding mean_ends table
computed = (omega arith, (omega arith, (omega arith, (omega arith, omega arith))))

ways-at : (es : List Ends) (rows : List Row) → AllWays es rows → (b : ℕ) → b < length es → Ways (get_or es b still) (get_or rows b no_row)
ways-at [] rows t b h = absurd (omega arith)
ways-at (e ∷ es) [] t b h = absurd t
ways-at (e ∷ es) (row ∷ rows) t zero h = t.0
ways-at (e ∷ es) (row ∷ rows) t (suc b) h = ways-at es rows t.1 b (omega arith)

table-ways : (b : ℕ) → b < 9 → Ways (mean_ends_of b) (get_or table b no_row)
unfolding mean_ends
table-ways b h = ways-at mean_ends table computed b h

-- a quotient of a sum is that of the parts, or one more
parts : (a w q : ℕ) → 0 < q → ((a + w) / q ≡ a / q + w / q) ⊎ ((a + w) / q ≡ a / q + w / q + 1)
parts a w q h = go (dec_lt ((a % q + w % q) / q) 1)
  where
    sum : (a + w) / q ≡ (a % q + w % q) / q + (a / q + w / q)
    sum = ap (λ (x : ℕ). x / q) (omega (arith, div-add-mod' a q, div-add-mod' w q)) ∙ add-mul-div_right (a % q + w % q) (a / q + w / q) h

    below : (a % q + w % q) / q < 2
    below = (div-lt_iff_lt-mul h).1 (omega (arith, mod-lt a h, mod-lt w h))

    go : Dec ((a % q + w % q) / q < 1) → ((a + w) / q ≡ a / q + w / q) ⊎ ((a + w) / q ≡ a / q + w / q + 1)
    go (yes l) = inl (omega (arith, sum))
    go (no l) = inr (omega (arith, sum, below))

-- with m circles put on, one place is N past another
pub past : (x y N m : ℕ) → x + m * circle ≡ y + N → difference_of (x % circle) (y % circle) ≡ N % circle
past x y N m e = difference-by (x % circle) (y % circle) N (m + x / circle - y / circle) (omega arith)

goes-past : (e : Ends) (x y N m : ℕ) → x + m * circle ≡ y + N → e.lead ≤ circle → Between e N → Goes e (y % circle) (x % circle)
goes-past e x y N m h l k =
    record {
      more = (N + e.lag + circle - e.lead) % circle;
      few = k;
      on = x / circle + m + 1;
      off = y / circle + (N + e.lag + circle - e.lead) / circle;
      is = omega arith;
    }

one_more : (c e : ℕ) → (c + 1) * e ≡ c * e + e
one_more c e = omega arith

-- ---- from a day to the next, of one row
module _ (e : Ends) (row : Row) (f : RowInRange row) (t : Ways e row) (C : ℕ) where
  abbrev w : ℕ
  w = forwards row.p row.q

  within : (A : ℕ) → Goes e (mean_longitude row C A) (mean_longitude row C (A + 1))
  within A =
      rw ((in-naturals row C (A + 1) f).seconds, (in-naturals row C A f).seconds)
      (elim (parts (A * w) w row.q f.divisor) [
        | inl p ↦ goes-past e _ _ (daily row) 0 (omega (arith, more, p)) t.lead t.day
        | inr p ↦ goes-past e _ _ (daily row + 1) 0 (omega (arith, more, p)) t.lead t.longer
      ])
    where
      more : (A + 1) * w / row.q ≡ (A * w + w) / row.q
      more = ap (λ (x : ℕ). x / row.q) (omega arith)

  turns : Goes e (mean_longitude row C 4015) (mean_longitude row (C + 1) 0)
  turns =
      rw ((in-naturals row (C + 1) 0 f).seconds, (in-naturals row C 4015 f).seconds)
      (goes-past e _ _ (turning row) (gone row / circle + 1) (omega (arith, none, one_more C (circle - row.D))) t.lead t.turn)
    where
      none : 0 * w / row.q ≡ 0
      none = ap (λ (x : ℕ). x / row.q) (zero-mul w) ∙ zero-div row.q

-- ---- of any body, from any day but the last
pub day-goes : (n b : ℕ) → n < last_day → b < 9 → Goes (mean_ends_of b) (seconds_on n b) (seconds_on (n + 1) b)
unfolding longitude_at
day-goes n b h k = go (dec_lt (n % 4016) 4015)
  where
    go : Dec (n % 4016 < 4015) → Goes (mean_ends_of b) (longitude_at b (pair_at n)) (longitude_at b (pair_at (n + 1)))
    go (yes l) =
        let c : (n + 1) / 4016 ≡ n / 4016 = omega arith in
        let a : (n + 1) % 4016 ≡ n % 4016 + 1 = omega arith in
        rw (c, a) (within (mean_ends_of b) (get_or table b no_row) (row-in-range b k) (table-ways b k) (n / 4016) (n % 4016))
    go (no l) =
        let c : (n + 1) / 4016 ≡ n / 4016 + 1 = omega arith in
        let a : (n + 1) % 4016 ≡ 0 = omega arith in
        let e : n % 4016 ≡ 4015 = omega arith in
        rw (c, a, e) (turns (mean_ends_of b) (get_or table b no_row) (row-in-range b k) (table-ways b k) (n / 4016))

pub day-way : (n b : ℕ) → n < last_day → b ≤ 8 → Within 191 47444 (short_way (seconds_on n b) (seconds_on (n + 1) b))
day-way n b h k = goes-way 191 47444 (mean_ends_of b) _ _ (day-goes n b h (omega arith)) (table-ways b (omega arith)).upto (omega arith) (omega arith)

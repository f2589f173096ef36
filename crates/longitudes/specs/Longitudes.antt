-- The mean longitudes, paper 01's mean places: K − C × D + A × p/q, the greatest whole number not above it, reduced by
-- whole circles; and what was left over, paper 02's part of a second.
-- Assumes nothing.
use Rattle.std.specs.Prelude.{List, [], ◌∷◌, map, ℕ, ◌*◌, ◌/◌, ℤ, pos, neg_ℤ, ◌+ℤ◌, ◌-ℤ◌, ◌*ℤ◌, get_or}
use Rattle.days.specs.declared.Day.{Day}
use Rattle.integers.specs.Integers.{floor_over, reduced}

-- seconds of arc in a circle
abbrev pub circle : ℕ
circle = 1296000

-- a less b, reduced by whole circles
unfoldable pub difference_of : ℕ → ℕ → ℕ
difference_of a b = reduced (pos a -ℤ pos b) circle

-- a row of the table: K the longitude at the epoch, D the cycle's amount, p / q the motion a day, p negative for a body
-- that goes backwards
pub record Row : Type 0 where
  pub K : ℕ
  pub D : ℕ
  pub p : ℤ
  pub q : ℕ

unfoldable pub table : List Row
table =
    -- 0 Sun
    record { K = 1258860; D = 6551; p = pos 124186; q = 35 }
    -- 1 Moon
    ∷ record { K = 1256760; D = 13571; p = pos 5644749; q = 119 }
    -- 2 Moon's apogee
    ∷ record { K = 603180; D = 981900; p = pos 2806; q = 7 }
    -- 3 Moon's node
    ∷ record { K = 99480; D = 766200; p = neg_ℤ (pos 10876); q = 57 }
    -- 4 Mars
    ∷ record { K = 1105680; D = 199920; p = pos 2616600; q = 1387 }
    -- 5 Mercury's anomaly
    ∷ record { K = 970380; D = 444420; p = pos 1487490; q = 133 }
    -- 6 Jupiter
    ∷ record { K = 764160; D = 94680; p = pos 2094; q = 7 }
    -- 7 Venus' anomaly
    ∷ record { K = 828540; D = 158520; p = pos 401760; q = 181 }
    -- 8 Saturn
    ∷ record { K = 1027260; D = 812520; p = pos 1565; q = 13 }
    ∷ []

-- q times the exact longitude K − C × D + A × p/q
abbrev pub exact_times_q : Row → ℕ → ℕ → ℤ
exact_times_q row C A = (pos row.K -ℤ pos C *ℤ pos row.D) *ℤ pos row.q +ℤ pos A *ℤ row.p

unfoldable pub mean_longitude : Row → ℕ → ℕ → ℕ
mean_longitude row C A = reduced (floor_over (exact_times_q row C A) row.q) circle

-- paper 02's left-over: what q times the exact longitude has above whole seconds, which are q each
unfoldable pub remainder_of : Row → ℕ → ℕ → ℕ
remainder_of row C A = reduced (exact_times_q row C A) row.q

-- thirds, sixtieths of a second: remainder × 60 / q, rounded down
unfoldable pub thirds : Row → ℕ → ℕ → ℕ
thirds row C A = remainder_of row C A * 60 / row.q

abbrev pub no_row : Row
no_row = record { K = 0; D = 0; p = pos 0; q = 0 }

-- of the body with the number b, which is from 0 to 8
unfoldable pub longitude_at : ℕ → Day → ℕ
longitude_at b d = mean_longitude (get_or table b no_row) d.cycle d.within

unfoldable pub remainder_at : ℕ → Day → ℕ
remainder_at b d = remainder_of (get_or table b no_row) d.cycle d.within

-- the remainder's divisor, the table's q
unfoldable pub divisor_at : ℕ → ℕ
divisor_at b = (get_or table b no_row).q

unfoldable pub thirds_at : ℕ → Day → ℕ
thirds_at b d = thirds (get_or table b no_row) d.cycle d.within

-- of the nine in the table's order
unfoldable pub longitudes_at : Day → List ℕ
longitudes_at d = map (λ (row : Row). mean_longitude row d.cycle d.within) table

unfoldable pub nine_thirds_at : Day → List ℕ
nine_thirds_at d = map (λ (row : Row). thirds row d.cycle d.within) table

-- The table: each row keeps to its ranges, shown by computing over the table once; and the nine longitudes of a day are
-- its rows'.
-- Assumes nothing.
use mathlib.Core.Path.{◌≡◌, refl}
use mathlib.Core.List.{List, [], ◌∷◌, map}
use Prim.Native.Nat.{ℕ, zero, suc, ◌*◌, ◌/◌, ◌<◌}
use native.Mathlib.Omega.{arith}
use lib.ListN.{get_or, length}
use Rattle.days.specs.declared.Day.{Day}
use Rattle.longitudes.specs.Longitudes.{circle, Row, no_row, table, mean_longitude, thirds, longitude_at, remainder_at, divisor_at, thirds_at, longitudes_at, nine_thirds_at}
use Rattle.longitudes.proofs.Mean.{RowInRange, mean-small, remainder-below, thirds-below-60}

abbrev AllInRange : List Row → Type 0
AllInRange [] = Unit {0}
AllInRange (row ∷ rows) = RowInRange row × AllInRange rows

all-in-range : AllInRange table
unfolding table
all-in-range = (omega arith, omega arith)

in-range-at : (rows : List Row) → AllInRange rows → (b : ℕ) → b < length rows → RowInRange (get_or rows b no_row)
in-range-at [] f b h = absurd (omega arith)
in-range-at (row ∷ rows) f zero h = f.0
in-range-at (row ∷ rows) f (suc b) h = in-range-at rows f.1 b (omega arith)

pub row-in-range : (b : ℕ) → b < 9 → RowInRange (get_or table b no_row)
unfolding table
row-in-range b h = in-range-at table all-in-range b h

pub at_map : {A B : Type 0} (f : A → B) (l : List A) (n : ℕ) (e : B) (d : A) → n < length l → get_or (map f l) n e ≡ f (get_or l n d)
at_map f [] n e d h = absurd (omega arith)
at_map f (x ∷ l) zero e d h = refl
at_map f (x ∷ l) (suc n) e d h = at_map f l n e d (omega arith)

pub longitude-small : (b : ℕ) (d : Day) → longitude_at b d < circle
unfolding longitude_at
longitude-small b d = mean-small _ _ _

-- a body's remainder is below a divisor so small that 60 times it fits
pub record Remainder (b : ℕ) (d : Day) : Type 0 where
  pub below : remainder_at b d < divisor_at b
  pub small : divisor_at b < 2000

pub remainder-at : (b : ℕ) (d : Day) → b < 9 → Remainder b d
unfolding remainder_at divisor_at
remainder-at b d h = record { below = remainder-below _ _ _ (row-in-range b h).divisor; small = (row-in-range b h).parts }

pub thirds-small : (b : ℕ) (d : Day) → b < 9 → thirds_at b d < 60
unfolding thirds_at
thirds-small b d h = thirds-below-60 _ _ _ (row-in-range b h).divisor

pub thirds-are : (b : ℕ) (d : Day) → thirds_at b d ≡ remainder_at b d * 60 / divisor_at b
unfolding thirds_at thirds remainder_at divisor_at
thirds-are b d = refl

pub nine-long : (d : Day) → length (longitudes_at d) ≡ 9
unfolding longitudes_at table
nine-long d = refl

pub thirds-long : (d : Day) → length (nine_thirds_at d) ≡ 9
unfolding nine_thirds_at table
thirds-long d = refl

-- the nine are each body's
pub nine-at : (b : ℕ) (d : Day) → b < 9 → get_or (longitudes_at d) b 0 ≡ longitude_at b d
unfolding longitudes_at longitude_at table
nine-at b d h = at_map (λ (row : Row). mean_longitude row d.cycle d.within) table b 0 no_row h

pub thirds-nine-at : (b : ℕ) (d : Day) → b < 9 → get_or (nine_thirds_at d) b 0 ≡ thirds_at b d
unfolding nine_thirds_at thirds_at table
thirds-nine-at b d h = at_map (λ (row : Row). thirds row d.cycle d.within) table b 0 no_row h

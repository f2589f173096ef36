-- The bits of the weekdays, each computed; and the set of one weekday has that weekday alone.
-- Assumes nothing.
use mathlib.Core.Path.{◌≡◌, refl, ap}
use mathlib.Core.Bool.{false, ◌&&◌}
use Prim.Native.Nat.{ℕ, zero, suc, ◌*◌, ◌%◌, ◌^◌, ◌≤◌, ◌<◌, min}
use native.Mathlib.Omega.{arith}
use native.Mathlib.Decide.{dec_le}
use lib.Dec.{leb, eqb}
use borrow.Author.Tests.{lt-leb, ne_eqb}
use Rattle.days.specs.Weekdays.{bit_of, in_set, every_weekday}

-- what holds of each of the seven holds of a number below 7
pub each-weekday : (P : ℕ → Type 0) → P 0 → P 1 → P 2 → P 3 → P 4 → P 5 → P 6 → (w : ℕ) → w < 7 → P w
each-weekday P a b c d e f g zero h = a
each-weekday P a b c d e f g (suc zero) h = b
each-weekday P a b c d e f g (suc (suc zero)) h = c
each-weekday P a b c d e f g (suc (suc (suc zero))) h = d
each-weekday P a b c d e f g (suc (suc (suc (suc zero)))) h = e
each-weekday P a b c d e f g (suc (suc (suc (suc (suc zero))))) h = f
each-weekday P a b c d e f g (suc (suc (suc (suc (suc (suc zero)))))) h = g
each-weekday P a b c d e f g (suc (suc (suc (suc (suc (suc (suc w))))))) h = absurd (omega arith)

pub bit_shifted : (w : ℕ) → w < 7 → (1 * 2 ^ w) % 2 ^ 32 ≡ bit_of w
bit_shifted = each-weekday (λ (w : ℕ). (1 * 2 ^ w) % 2 ^ 32 ≡ bit_of w) refl refl refl refl refl refl refl

pub no-weekday-bit : (w : ℕ) → 7 ≤ w → 128 ≡ bit_of w
no-weekday-bit w h = let seven : 7 ≡ min w 7 = omega arith in ap (λ (n : ℕ). 2 ^ n) seven

of-weekday : (w : ℕ) → w < 7 → (v : ℕ) → v < 7 → in_set (bit_of w) v ≡ eqb v w
unfolding in_set
of-weekday =
    each-weekday (λ (w : ℕ). (v : ℕ) → v < 7 → in_set (bit_of w) v ≡ eqb v w)
    (each-weekday (λ (v : ℕ). in_set (bit_of 0) v ≡ eqb v 0) refl refl refl refl refl refl refl)
    (each-weekday (λ (v : ℕ). in_set (bit_of 1) v ≡ eqb v 1) refl refl refl refl refl refl refl)
    (each-weekday (λ (v : ℕ). in_set (bit_of 2) v ≡ eqb v 2) refl refl refl refl refl refl refl)
    (each-weekday (λ (v : ℕ). in_set (bit_of 3) v ≡ eqb v 3) refl refl refl refl refl refl refl)
    (each-weekday (λ (v : ℕ). in_set (bit_of 4) v ≡ eqb v 4) refl refl refl refl refl refl refl)
    (each-weekday (λ (v : ℕ). in_set (bit_of 5) v ≡ eqb v 5) refl refl refl refl refl refl refl)
    (each-weekday (λ (v : ℕ). in_set (bit_of 6) v ≡ eqb v 6) refl refl refl refl refl refl refl)

-- the set of one weekday: v is in it if v is that weekday. A number that is no weekday makes a set without any
pub only-in-set : (w v : ℕ) → v < 7 → in_set (bit_of w) v ≡ eqb v w
only-in-set w v h = go (dec_le 7 w)
  where
    go : Dec (7 ≤ w) → in_set (bit_of w) v ≡ eqb v w
    go (yes l) = rw (← no-weekday-bit w l, ne_eqb v w (omega arith)) (each-weekday (λ (v : ℕ). in_set 128 v ≡ false) (unfold in_set in refl) (unfold in_set in refl) (unfold in_set in refl) (unfold in_set in refl) (unfold in_set in refl) (unfold in_set in refl) (unfold in_set in refl) v h)
    go (no l) = of-weekday w (omega arith) v h

pub only-in-range : (w : ℕ) → (leb 1 (bit_of w) && leb (bit_of w) every_weekday) ≡ leb w 6
only-in-range w = go (dec_le 7 w)
  where
    go : Dec (7 ≤ w) → (leb 1 (bit_of w) && leb (bit_of w) every_weekday) ≡ leb w 6
    go (yes l) = rw (← no-weekday-bit w l, lt-leb w 6 (omega arith))
    go (no l) = each-weekday (λ (w : ℕ). (leb 1 (bit_of w) && leb (bit_of w) every_weekday) ≡ leb w 6) refl refl refl refl refl refl refl w (omega arith)

pub bit-most : (w : ℕ) → bit_of w ≤ 128
bit-most w = go (dec_le 7 w)
  where
    go : Dec (7 ≤ w) → bit_of w ≤ 128
    go (yes l) = omega (arith, no-weekday-bit w l)
    go (no l) = each-weekday (λ (w : ℕ). bit_of w ≤ 128) (omega arith) (omega arith) (omega arith) (omega arith) (omega arith) (omega arith) (omega arith) w (omega arith)

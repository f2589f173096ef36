-- The seven bodies in their order, and what is handed back of each: by cases.
-- Assumes nothing.
use mathlib.Core.Path.{◌≡◌, refl}
use mathlib.Core.Bool.{true, false}
use mathlib.Core.List.{[], ◌∷◌}
use Prim.Native.Nat.{ℕ, zero, suc, ◌+◌, ◌-◌, ◌<◌}
use native.Mathlib.Omega.{arith}
use lib.Dec.{lit<}
use borrow.Author.Tests.{ne_eqb}
use Rattle.std.specs.Prelude.{Result, Ok, Err}
use Rattle.std.specs.Result.{IsOk}
use lib.ListN.{get_or}
use Rattle.days.specs.declared.Day.{Day}
use Rattle.days.specs.declared.refusal.Refusal.{Refusal}
use Rattle.days.specs.declared.refusal.Refusal.TheVariants.{OutOfRange, BadEdition}
use Rattle.days.specs.Days.{in_range, answer_on}
use Rattle.panchanga.specs.TrueLongitudes.{is_edition}
use Rattle.panchanga.specs.OnDays.{in_edition, true_sun_at, true_moon_at}
use Rattle.panchanga.proofs.Answers.{given-in}
use Rattle.planets.specs.OnDays.{true_planet_at}
use Rattle.query.specs.declared.TrueBody.{TrueBody}
use Rattle.query.specs.declared.TrueBody.TheVariants.{Sun, Moon, Mars, Mercury, Jupiter, Venus, Saturn}
use Rattle.query.specs.Conditions.{true_longitude_at}
use Rattle.query.specs.TrueBodies.{true_number, true_longitude_of}

-- the bodies that the code names, by their numbers
pub in_order : (k : ℕ) (other : TrueBody) → k < 7 → true_number (get_or (Sun ∷ Moon ∷ Mars ∷ Mercury ∷ Jupiter ∷ Venus ∷ Saturn ∷ []) k other) ≡ k
in_order zero other l = refl
in_order (suc zero) other l = refl
in_order (suc (suc zero)) other l = refl
in_order (suc (suc (suc zero))) other l = refl
in_order (suc (suc (suc (suc zero)))) other l = refl
in_order (suc (suc (suc (suc (suc zero))))) other l = refl
in_order (suc (suc (suc (suc (suc (suc zero)))))) other l = refl
in_order (suc (suc (suc (suc (suc (suc (suc n))))))) other l = absurd (omega arith)

module _ (edition : ℕ) (b : TrueBody) (d : Day) where
  pub no-edition : is_edition edition ≡ false → Err BadEdition ≡ true_longitude_of edition b d
  unfolding true_longitude_of in_edition
  no-edition e = rw e

  pub no-day : is_edition edition ≡ true → in_range d ≡ false → Err OutOfRange ≡ true_longitude_of edition b d
  unfolding true_longitude_of in_edition answer_on
  no-day e r = rw (e, r)

  pub on-day : is_edition edition ≡ true → in_range d ≡ true → Ok (true_longitude_at edition (true_number b) d) ≡ true_longitude_of edition b d
  unfolding true_longitude_of in_edition answer_on
  on-day e r = rw (e, r)

  -- the body's own longitude
  pub sun-told : b ≡ Sun → true_sun_at d ≡ true_longitude_at edition (true_number b) d
  unfolding true_longitude_at
  sun-told f = rw f

  pub moon-told : b ≡ Moon → true_moon_at edition d ≡ true_longitude_at edition (true_number b) d
  unfolding true_longitude_at
  moon-told f = rw f

  pub planet-told : (p : ℕ) → true_number b ≡ p + 2 → true_planet_at p d ≡ true_longitude_at edition (true_number b) d
  unfolding true_longitude_at
  planet-told p f =
      let own : p + 2 - 2 ≡ p = omega arith in
      rw (f, ne_eqb (p + 2) 0 (λ z. omega arith), ne_eqb (p + 2) 1 (λ z. omega arith), own)

pub given-longitude : (edition : ℕ) (b : TrueBody) (d : Day) {a : ℕ} → Ok a ≡ true_longitude_of edition b d → a ≡ true_longitude_at edition (true_number b) d
unfolding true_longitude_of
given-longitude edition b d h = given-in (λ (e : ℕ) (d : Day). true_longitude_at e (true_number b) d) edition d h

-- an answer that is given
pub is-given : {A : Type 0} {r : Result A Refusal} {a : A} → r ≡ Ok a → IsOk r
is-given e = rw e

pub number-low : (b : TrueBody) → true_number b < 7
number-low Sun = lit< tt
number-low Moon = lit< tt
number-low Mars = lit< tt
number-low Mercury = lit< tt
number-low Jupiter = lit< tt
number-low Venus = lit< tt
number-low Saturn = lit< tt

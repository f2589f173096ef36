-- The laws of what is handed back for an edition and a day: given for an edition and a day in range, and else refused;
-- by the two tests in their order.
-- Assumes nothing.
use mathlib.Core.Bool.{Bool, true, false, cond, false≢true, ◌||◌}
use mathlib.Core.Path.{◌≡◌, refl, sym, ap, ◌∙◌}
use Prim.Native.Nat.{ℕ, ◌%◌}
use native.Mathlib.Omega.{arith}
use lib.Dec.{eqb}
use borrow.Author.Tests.{eqb-true}
use Rattle.std.specs.Prelude.{Ok, Err}
use Rattle.std.specs.Result.{is_ok}
use Rattle.days.specs.declared.Day.{Day}
use Rattle.days.specs.declared.refusal.Refusal.TheVariants.{OutOfRange, BadEdition}
use Rattle.days.specs.Days.{in_range, answer_on}
use Rattle.days.proofs.Laws.{given, refused, told}
use Rattle.longitudes.specs.Longitudes.{circle, longitude_at}
use Rattle.longitudes.proofs.Table.{longitude-small}
use Rattle.panchanga.specs.declared.Edition.TheVariants.{First, Second}
use Rattle.panchanga.specs.TrueLongitudes.{first_edition, second_edition, is_edition}
use Rattle.panchanga.specs.OnDays.{true_sun_at, true_moon_at, tithi_at, nakshatra_at, yoga_at, karana_at, lights_at, lights_of, panchanga_at, panchanga_of, panchanga_by, tithi_by, in_edition}
use Rattle.panchanga.specs.Parts.{edition_number, the_edition}

-- both tests
pub record Accepted (e : ℕ) (d : Day) : Type 0 where
  pub edition : is_edition e ≡ true
  pub range : in_range d ≡ true

module _ {A : Type 0} (f : ℕ → Day → A) (e : ℕ) (d : Day) where
  pub answered : Accepted e d → in_edition f e d ≡ Ok (f e d)
  unfolding in_edition
  answered a = rw a.edition (given (f e) d a.range)

  by-edition : is_edition e ≡ true → in_edition f e d ≡ answer_on (f e) d
  unfolding in_edition
  by-edition t = rw t

  by-no-edition : is_edition e ≡ false → in_edition f e d ≡ Err BadEdition
  unfolding in_edition
  by-no-edition t = rw t

  pub not-answered : (Accepted e d → ⊥) → in_edition f e d ≡ Err (cond (is_edition e) OutOfRange BadEdition)
  not-answered r = go (is_edition e) (in_range d) refl refl
    where
      go : (t u : Bool) → is_edition e ≡ t → in_range d ≡ u → in_edition f e d ≡ Err (cond t OutOfRange BadEdition)
      go true true et eu = absurd (r (record { edition = et; range = eu }))
      go true false et eu = by-edition et ∙ refused (f e) d eu
      go false u et eu = by-no-edition et

  -- what is not refused is of an edition and a day in range
  pub accepted-for : {a : A} → Ok a ≡ in_edition f e d → Accepted e d × (a ≡ f e d)
  accepted-for {a} h = go (is_edition e) refl
    where
      go : (t : Bool) → is_edition e ≡ t → Accepted e d × (a ≡ f e d)
      go true t = let r = told (f e) d (h ∙ by-edition t) in (record { edition = t; range = r.range }, r.value)
      go false t = absurd (false≢true (sym (ap is_ok (h ∙ by-no-edition t))))

module _ (e : ℕ) (d : Day) where
  -- both lights, and the elements together
  pub lights-refused : (Accepted e d → ⊥) → lights_of e d ≡ Err (cond (is_edition e) OutOfRange BadEdition)
  lights-refused = not-answered lights_at e d

  pub elements-refused : (Accepted e d → ⊥) → panchanga_of e d ≡ Err (cond (is_edition e) OutOfRange BadEdition)
  elements-refused = not-answered panchanga_at e d

  -- by the day's mean Sun, Moon and apogee
  whole : (b : ℕ) → longitude_at b d % circle ≡ longitude_at b d
  whole b = omega (arith, longitude-small b d)

  pub elements-by-means : Accepted e d → panchanga_by e (longitude_at 0 d) (longitude_at 1 d) (longitude_at 2 d) ≡ panchanga_of e d
  unfolding panchanga_by true_sun_at true_moon_at tithi_at nakshatra_at yoga_at karana_at
  elements-by-means a = rw (a.edition, whole 0, whole 1, whole 2) (sym (answered panchanga_at e d a))

  pub tithi-by-means : is_edition e ≡ true → tithi_by e (longitude_at 0 d) (longitude_at 1 d) (longitude_at 2 d) ≡ Ok (tithi_at e d)
  unfolding tithi_by true_sun_at true_moon_at tithi_at
  tithi-by-means t = rw (t, whole 0, whole 1, whole 2)

-- the first edition's answers are those of a day alone
pub first-edition : {A : Type 0} (f : ℕ → Day → A) (d : Day) → in_edition f first_edition d ≡ answer_on (f first_edition) d
unfolding in_edition is_edition
first-edition f d = refl

pub given-in : {A : Type 0} (f : ℕ → Day → A) (e : ℕ) (d : Day) {a : A} → Ok a ≡ in_edition f e d → a ≡ f e d
given-in f e d h = (accepted-for f e d h).1

-- the edition has the number that was asked for
pub edition_is : (e : ℕ) → is_edition e ≡ true → edition_number (the_edition e) ≡ e
unfolding is_edition
edition_is e t = go (eqb e first_edition) (eqb e second_edition) refl refl t
  where
    go : (u v : Bool) → eqb e first_edition ≡ u → eqb e second_edition ≡ v → (u || v) ≡ true → edition_number (cond v Second First) ≡ e
    go true true hu hv k = sym (eqb-true e second_edition hv)
    go true false hu hv k = sym (eqb-true e first_edition hu)
    go false true hu hv k = sym (eqb-true e second_edition hv)
    go false false hu hv k = absurd (false≢true k)

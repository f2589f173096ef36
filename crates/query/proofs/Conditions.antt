-- A test of each of the bodies, by its outcomes; and a day's conditions from the outcomes of their tests, case by case.
-- Assumes nothing.
use mathlib.Core.Path.{◌≡◌, refl, sym, ◌∙◌}
use mathlib.Core.Bool.{Bool, true, false, cond, not, ◌&&◌, and-true, and-false, or-false, true≢false, false≢true}
use mathlib.Core.List.{List, [], ◌∷◌}
use Prim.Native.Nat.{ℕ, zero, suc, ◌≤◌, ◌<◌}
use native.Mathlib.Omega.{arith}
use lib.Dec.{lit<}
use lib.ListN.{length, drop}
use borrow.Author.Tests.{not-true, not-false}
use Rattle.std.specs.Prelude.{Ok}
use Rattle.std.specs.List.{list_all}
use Rattle.days.specs.declared.Day.{Day}
use Rattle.days.specs.Days.{last_day, in_range, pair_at, weekday_on}
use Rattle.days.proofs.Laws.{pair-in-range}
use Rattle.panchanga.specs.declared.Lights.{Lights}
use Rattle.panchanga.specs.TrueLongitudes.{is_edition}
use Rattle.panchanga.specs.OnDays.{true_sun_at, true_moon_at, tithi_at, nakshatra_at, yoga_at, karana_at, lights_at, lights_of}
use Rattle.panchanga.proofs.Answers.{given-in}
use Rattle.query.specs.declared.Asked.{Asked}
use Rattle.query.specs.declared.BodyArcs.{BodyArcs}
use Rattle.query.specs.declared.Query.{Query}
use Rattle.query.specs.Conditions.{each_other, each_body, each_place, meets, weekday_met, if_given, given_arcs, in_arc, in_some, arcs_at, body_arcs_in_range, arcs_in_range, true_arcs_in_range, body_met, arcs_met, place_met, true_arcs_met, elements_met, query_elements_met}
use Rattle.query.specs.Parts.{other_arcs_met, others_met}
use Rattle.query.specs.Query.{conditions_met}

pub each-true : (p : ℕ → Bool) → ((k : ℕ) → k < 9 → p k ≡ true) → each_body p ≡ true
each-true p h =
    rw (h 0 (lit< tt), h 1 (lit< tt), h 2 (lit< tt), h 3 (lit< tt), h 4 (lit< tt), h 5 (lit< tt), h 6 (lit< tt), h 7 (lit< tt), h 8 (lit< tt))

-- a false outcome decides
module _ (p : ℕ → Bool) where
  pub other-false : (k : ℕ) → 0 < k → k < 9 → p k ≡ false → each_other p ≡ false
  other-false zero l u e = absurd (omega arith)
  other-false (suc zero) l u e = simp e
  other-false (suc (suc zero)) l u e = simp (e, and-false)
  other-false (suc (suc (suc zero))) l u e = simp (e, and-false)
  other-false (suc (suc (suc (suc zero)))) l u e = simp (e, and-false)
  other-false (suc (suc (suc (suc (suc zero))))) l u e = simp (e, and-false)
  other-false (suc (suc (suc (suc (suc (suc zero)))))) l u e = simp (e, and-false)
  other-false (suc (suc (suc (suc (suc (suc (suc zero))))))) l u e = simp (e, and-false)
  other-false (suc (suc (suc (suc (suc (suc (suc (suc zero)))))))) l u e = simp (e, and-false)
  other-false (suc (suc (suc (suc (suc (suc (suc (suc (suc n))))))))) l u e = absurd (omega arith)

  pub each-false : (k : ℕ) → k < 9 → p k ≡ false → each_body p ≡ false
  each-false zero u e = rw e
  each-false (suc k) u e = rw (other-false (suc k) (omega arith) u e) (and-false (p 0))

-- and of the seven true longitudes
module _ (p : ℕ → Bool) where
  pub places-true : ((k : ℕ) → k < 7 → p k ≡ true) → each_place p ≡ true
  places-true h =
      rw (h 0 (lit< tt), h 1 (lit< tt), h 2 (lit< tt), h 3 (lit< tt), h 4 (lit< tt), h 5 (lit< tt), h 6 (lit< tt))

  pub place-false : (k : ℕ) → k < 7 → p k ≡ false → each_place p ≡ false
  place-false zero u e = simp e
  place-false (suc zero) u e = simp (e, and-false)
  place-false (suc (suc zero)) u e = simp (e, and-false)
  place-false (suc (suc (suc zero))) u e = simp (e, and-false)
  place-false (suc (suc (suc (suc zero)))) u e = simp (e, and-false)
  place-false (suc (suc (suc (suc (suc zero))))) u e = simp (e, and-false)
  place-false (suc (suc (suc (suc (suc (suc zero)))))) u e = simp (e, and-false)
  place-false (suc (suc (suc (suc (suc (suc (suc n))))))) u e = absurd (omega arith)

-- a test of each element of a list, by their places
each_from : ℕ → (ℕ → Bool) → Bool
each_from zero p = true
each_from (suc n) p = p 0 && each_from n (λ (k : ℕ). p (suc k))

module _ (p : BodyArcs → Bool) where
  all-from : (arcs : List BodyArcs) → list_all p arcs ≡ each_from (length arcs) (λ (k : ℕ). p (arcs_at arcs k))
  unfolding each_from
  all-from [] = refl
  all-from (a ∷ arcs) = rw (all-from arcs)

  pub all-nine : (arcs : List BodyArcs) → length arcs ≡ 9 → list_all p arcs ≡ each_body (λ (k : ℕ). p (arcs_at arcs k))
  unfolding each_from
  all-nine arcs e = rw (all-from arcs, e, and-true)

  pub all-others : (arcs : List BodyArcs) → length arcs ≡ 9 → list_all p (drop 1 arcs) ≡ each_other (λ (k : ℕ). p (arcs_at arcs k))
  unfolding each_from
  all-others [] e = absurd (omega arith)
  all-others (a ∷ arcs) e =
      let eight : length arcs ≡ 8 = omega arith in
      rw (all-from arcs, eight, and-true)

  pub all-seven : (arcs : List BodyArcs) → length arcs ≡ 7 → list_all p arcs ≡ each_place (λ (k : ℕ). p (arcs_at arcs k))
  unfolding each_from
  all-seven arcs e = rw (all-from arcs, e, and-true)

pub arcs-true : (arcs : List BodyArcs) → ((k : ℕ) → k < 9 → body_arcs_in_range (arcs_at arcs k) ≡ true) → arcs_in_range arcs ≡ true
unfolding arcs_in_range
arcs-true arcs h = each-true (λ (body : ℕ). body_arcs_in_range (arcs_at arcs body)) h

pub arcs-false : (arcs : List BodyArcs) (k : ℕ) → k < 9 → body_arcs_in_range (arcs_at arcs k) ≡ false → arcs_in_range arcs ≡ false
unfolding arcs_in_range
arcs-false arcs k h e = each-false (λ (body : ℕ). body_arcs_in_range (arcs_at arcs body)) k h e

pub true-arcs-true : (arcs : List BodyArcs) → ((k : ℕ) → k < 7 → body_arcs_in_range (arcs_at arcs k) ≡ true) → true_arcs_in_range arcs ≡ true
unfolding true_arcs_in_range
true-arcs-true arcs h = places-true (λ (place : ℕ). body_arcs_in_range (arcs_at arcs place)) h

pub true-arcs-false : (arcs : List BodyArcs) (k : ℕ) → k < 7 → body_arcs_in_range (arcs_at arcs k) ≡ false → true_arcs_in_range arcs ≡ false
unfolding true_arcs_in_range
true-arcs-false arcs k h e = place-false (λ (place : ℕ). body_arcs_in_range (arcs_at arcs place)) k h e

module _ (edition : ℕ) (arcs : List BodyArcs) (d : Day) where
  pub places-met : ((k : ℕ) → k < 7 → place_met edition arcs d k ≡ true) → true_arcs_met edition arcs d ≡ true
  unfolding true_arcs_met
  places-met h = places-true (place_met edition arcs d) h

  pub place-not-met : (k : ℕ) → k < 7 → place_met edition arcs d k ≡ false → true_arcs_met edition arcs d ≡ false
  unfolding true_arcs_met
  place-not-met k h e = place-false (place_met edition arcs d) k h e

-- of one or two arcs, where the first is given and has a longitude, and where not
module _ (a : BodyArcs) (x : ℕ) where
  pub first-has : (a.first.given && in_arc a.first x) ≡ true → true ≡ in_some (given_arcs a) x
  unfolding given_arcs in_some
  first-has = go a.first.given (in_arc a.first x) refl
    where
      go : (g t : Bool) → in_arc a.first x ≡ t → (g && t) ≡ true → true ≡ in_some (cond g (a.first ∷ if_given a.second []) (if_given a.second [])) x
      go true true e h = rw e
      go true false e h = absurd (false≢true h)
      go false t e h = absurd (false≢true h)

  pub second-has : (a.first.given && in_arc a.first x) ≡ false → (a.second.given && in_arc a.second x) ≡ in_some (given_arcs a) x
  unfolding given_arcs in_some
  second-has = go a.first.given (in_arc a.first x) a.second.given (in_arc a.second x) refl refl
    where
      go :
          (g t h u : Bool) →
          in_arc a.first x ≡ t →
          in_arc a.second x ≡ u →
          (g && t) ≡ false →
          (h && u) ≡ in_some (cond g (a.first ∷ cond h (a.second ∷ []) []) (cond h (a.second ∷ []) [])) x
      go true true h u e f k = absurd (true≢false k)
      go true false true u e f k = rw (e, f) (sym (or-false u))
      go true false false u e f k = rw e
      go false t true u e f k = rw f (sym (or-false u))
      go false t false u e f k = refl

module _ (arcs : List BodyArcs) (d : Day) where
  -- an arc that is not met decides
  pub arc-not-met : (body : ℕ) (found : Bool) → 0 < body → body < 9 → found ≡ body_met arcs d body → not found ≡ true → false ≡ other_arcs_met arcs d
  unfolding other_arcs_met
  arc-not-met body found l u e n = sym (other-false (body_met arcs d) body l u (sym e ∙ not-true found n))

  -- else the last arc does
  pub last-arc-met :
      (found : Bool) →
      body_met arcs d 1 ≡ true →
      body_met arcs d 2 ≡ true →
      body_met arcs d 3 ≡ true →
      body_met arcs d 4 ≡ true →
      body_met arcs d 5 ≡ true →
      body_met arcs d 6 ≡ true →
      body_met arcs d 7 ≡ true →
      found ≡ body_met arcs d 8 →
      found ≡ other_arcs_met arcs d
  unfolding other_arcs_met
  last-arc-met found a b c e f g h k = rw (a, b, c, e, f, g, h, k)

-- what is handed back of the lights of a day in range
pub record LightsOn (edition : ℕ) (d : Day) (found : Lights) : Type 0 where
  pub sun : found.sun ≡ true_sun_at d
  pub moon : found.moon ≡ true_moon_at edition d

pub lights-on : (edition : ℕ) (d : Day) {found : Lights} → Ok found ≡ lights_of edition d → LightsOn edition d found
lights-on edition d e = let given = given-in lights_at edition d e in record { sun = rw given; moon = rw given }

-- the elements that are asked for, of a day in range in an edition
module _ (edition : ℕ) (tithi nakshatra yoga karana : Asked) (d : Day) where
  pub only-nakshatra :
      (found : Bool) →
      tithi.given ≡ false →
      yoga.given ≡ false →
      karana.given ≡ false →
      found ≡ meets nakshatra (nakshatra_at edition d) →
      found ≡ elements_met edition tithi nakshatra yoga karana d
  unfolding elements_met meets
  only-nakshatra found t y k e = e ∙ rw (t, y, k) (sym (and-true (meets nakshatra (nakshatra_at edition d))))

  -- in turn: the first that is not met decides, else the last
  pub tithi-not-met : meets tithi (tithi_at edition d) ≡ false → false ≡ elements_met edition tithi nakshatra yoga karana d
  unfolding elements_met
  tithi-not-met e = rw e

  module _ (t : meets tithi (tithi_at edition d) ≡ true) where
    pub nakshatra-not-met : meets nakshatra (nakshatra_at edition d) ≡ false → false ≡ elements_met edition tithi nakshatra yoga karana d
    unfolding elements_met
    nakshatra-not-met f = rw (t, f)

    module _ (n : meets nakshatra (nakshatra_at edition d) ≡ true) where
      pub yoga-not-met : meets yoga (yoga_at edition d) ≡ false → false ≡ elements_met edition tithi nakshatra yoga karana d
      unfolding elements_met
      yoga-not-met f = rw (t, n, f)

      pub karana-decides : (found : Bool) → meets yoga (yoga_at edition d) ≡ true → found ≡ meets karana (karana_at edition d) → found ≡ elements_met edition tithi nakshatra yoga karana d
      unfolding elements_met
      karana-decides found y g = g ∙ rw (t, n, y)

  pub elements-tested : {found : Bool} → (in_range d ≡ true) × (is_edition edition ≡ true) → found ≡ elements_met edition tithi nakshatra yoga karana d → found ≡ (is_edition edition && (in_range d && elements_met edition tithi nakshatra yoga karana d))
  elements-tested r e = e ∙ rw (r.0, r.1)

-- what the test of the elements, with those of the edition and the pair, says of the conditions together
module _ (q : Query) (d : Day) (found : Bool) (e : found ≡ (is_edition q.edition && (in_range d && query_elements_met q d))) where
  pub elements-not-met : in_range d ≡ true → other_arcs_met q.arcs d ≡ true → not found ≡ true → false ≡ others_met q d
  unfolding others_met
  elements-not-met r a n =
      let f : (is_edition q.edition && (in_range d && query_elements_met q d)) ≡ false = sym e ∙ not-true found n in
      go (is_edition q.edition) (query_elements_met q d) refl (rw r at f)
    where
      go : (t m : Bool) → query_elements_met q d ≡ m → (t && m) ≡ false → false ≡ (t && (in_range d && (other_arcs_met q.arcs d && (query_elements_met q d && true_arcs_met q.edition q.true_arcs d))))
      go false m f k = refl
      go true m f k = rw (r, a, f, k)

  pub elements-are-met : not found ≡ false → (is_edition q.edition ≡ true) × (query_elements_met q d ≡ true)
  elements-are-met n = go (is_edition q.edition) (in_range d) (query_elements_met q d) refl refl (sym e ∙ not-false found n)
    where
      go : (t r m : Bool) → is_edition q.edition ≡ t → query_elements_met q d ≡ m → (t && (r && m)) ≡ true → (is_edition q.edition ≡ true) × (query_elements_met q d ≡ true)
      go true true m f g k = (f, g ∙ k)
      go true false m f g k = absurd (false≢true k)
      go false r m f g k = absurd (false≢true k)

-- the conditions of day n, in the order in which they are tested
module _ (q : Query) (n : ℕ) where
  pub sun-not-met : body_met q.arcs (pair_at n) 0 ≡ false → conditions_met q n ≡ false
  unfolding conditions_met arcs_met
  sun-not-met e = rw e

  pub weekday-not-met : weekday_met q.weekdays (weekday_on n) ≡ false → conditions_met q n ≡ false
  unfolding conditions_met
  weekday-not-met e = rw e (and-false (arcs_met q.arcs (pair_at n)))

  pub others-decide : is_edition q.edition ≡ true → n ≤ last_day → body_met q.arcs (pair_at n) 0 ≡ true → weekday_met q.weekdays (weekday_on n) ≡ true → conditions_met q n ≡ others_met q (pair_at n)
  unfolding conditions_met arcs_met others_met other_arcs_met
  others-decide edition h e w = rw (e, w, edition, pair-in-range n h)

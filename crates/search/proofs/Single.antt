-- Old queries are listed alike: a set of one weekday or number and one arc of a body mean what a weekday, a number and
-- an arc meant in paper 01, so a query of these is refused as it was, and has the matching days, the visited days and
-- the limit that it had. Each condition by its cases, the lists by induction. Assumes nothing.
use Prim.Native.Nat.{ℕ, zero, suc, ◌+◌, ◌%◌, ◌^◌, ◌≤◌, min}
use mathlib.Core.Path.{◌≡◌, refl, ap, ◌∙◌}
use mathlib.Core.Bool.{Bool, true, false, cond, ◌&&◌, ◌||◌, or-false, and-true, and_assoc}
use mathlib.Core.List.{List, [], ◌∷◌, map}
use native.Mathlib.Omega.{arith}
use lib.Dec.{leb, ltb, eqb}
use lib.ListN.{length, get_or, replicate, get_or-map}
use Rattle.days.specs.Days.{weekday_on, pair_at}
use Rattle.days.proofs.Weekdays.{only-in-set, only-in-range}
use Rattle.entries.specs.Runs.{filtered}
use Rattle.integers.specs.RoundedUp.{rounded_up}
use Rattle.longitudes.specs.Longitudes.{circle, longitude_at, difference_of}
use Rattle.longitudes.proofs.Subtraction.{difference-small}
use Rattle.panchanga.specs.OnDays.{tithi_at, nakshatra_at, yoga_at}
use Rattle.panchanga.proofs.Bounds.{tithi-small, nakshatra-small, yoga-small}
use Rattle.query.specs.declared.Arc.{Arc}
use Rattle.query.specs.declared.BodyArcs.{BodyArcs}
use Rattle.query.specs.Conditions.{not_asked, no_arc, no_arcs, only_arc, number_bit, each_body, meets, weekday_met, given_arcs, in_arc, in_some, in_arcs, nearest_start, body_met, arcs_met, elements_met, query_elements_met, true_arcs_met, numbers_in_range, asked_in_range, weekdays_in_range, arc_in_range, body_arcs_in_range, arcs_in_range, true_arcs_in_range, elements_in_range, conditions_in_range}
use Rattle.query.proofs.Numbers.{one_has, one-tithi, one-nakshatra}
use Rattle.query.specs.Query.{conditions_met, refusal_of}
use Rattle.search.specs.Look.{sun_on, sun_in_arcs, sun_advance, next_day}
use Rattle.search.specs.Days.{span_length, span, matching_days, visited_from, visited_days, visit_limit}
use Rattle.search.proofs.PaperQuery.{One, is_one, one_in_range, Single, weekday_of, number_of, query_of, in_single_arc, single_arc, sun_in_single, single_elements, single_met, single_next, single_visits, single_limit, single_in_range, single_refusal}

-- THE LAW of one weekday, and of its range
pub single-weekday : (a : One) (n : ℕ) → weekday_met (weekday_of a) (weekday_on n) ≡ is_one a (weekday_on n)
unfolding weekday_met is_one
single-weekday a n = ap (λ (t : Bool). cond a.given t true) (only-in-set a.value (weekday_on n) (omega arith))

pub single-weekday-range : (a : One) → weekdays_in_range (weekday_of a) ≡ one_in_range a 6
unfolding weekdays_in_range one_in_range
single-weekday-range a = ap (λ (t : Bool). cond a.given t true) (only-in-range a.value)

-- THE LAW of one number of an element, and of its range
pub single-number : (a : One) (n : ℕ) → n ≤ 30 → meets (number_of a) n ≡ is_one a n
unfolding meets is_one
single-number a n h = go a.given
  where
    go : (g : Bool) → meets (cond g (record { given = true; set = number_bit a.value }) not_asked) n ≡ cond g (eqb n a.value) true
    go true = one_has a.value n h
    go false = refl

in-range-alike : (a : One) (largest : ℕ) → (leb 1 (number_bit a.value) && (ltb (number_bit a.value) (2 ^ (largest + 1)) && eqb (number_bit a.value % 1) 0)) ≡ leb a.value largest → asked_in_range (number_of a) 0 largest ≡ one_in_range a largest
unfolding numbers_in_range one_in_range
in-range-alike a largest e = go a.given
  where
    go : (g : Bool) → numbers_in_range (cond g (record { given = true; set = number_bit a.value }) not_asked) 1 (2 ^ (largest + 1)) ≡ cond g (leb a.value largest) true
    go true = e
    go false = refl

pub single-tithi-range : (a : One) → asked_in_range (number_of a) 0 29 ≡ one_in_range a 29
single-tithi-range a = in-range-alike a 29 (one-tithi a.value)

pub single-nakshatra-range : (a : One) → asked_in_range (number_of a) 0 26 ≡ one_in_range a 26
single-nakshatra-range a = in-range-alike a 26 (one-nakshatra a.value)

-- THE LAW of one arc, and of its range
pub single-arc : (a : Arc) (x : ℕ) → in_arcs (only_arc a) x ≡ in_single_arc a x
unfolding in_arcs in_single_arc given_arcs in_some in_arc
single-arc a x = go a.given
  where
    go : (g : Bool) → cond (g || false) (in_some (cond g (a ∷ []) []) x) true ≡ cond g (in_arc a x) true
    go true = or-false (in_arc a x)
    go false = refl

pub single-arc-range : (a : Arc) → body_arcs_in_range (only_arc a) ≡ arc_in_range a
unfolding body_arcs_in_range arc_in_range
single-arc-range a = and-true (arc_in_range a)

-- from outside the one arc, its start is the nearest
step : (a : Arc) (n : ℕ) → cond (in_single_arc a (sun_on n)) (n + 1) (n + rounded_up (nearest_start (given_arcs (only_arc a)) (sun_on n)) sun_advance) ≡ cond (in_single_arc a (sun_on n)) (n + 1) (n + rounded_up (difference_of a.start (sun_on n)) sun_advance)
unfolding in_single_arc nearest_start given_arcs
step a n = go a.given
  where
    near : min (difference_of a.start (sun_on n)) circle ≡ difference_of a.start (sun_on n)
    near = omega (arith, difference-small a.start (sun_on n))

    go :
        (g : Bool) →
        cond (cond g (ltb (difference_of (sun_on n) a.start) a.width) true) (n + 1) (n + rounded_up (nearest_start (cond g (a ∷ []) []) (sun_on n)) sun_advance)
        ≡ cond (cond g (ltb (difference_of (sun_on n) a.start) a.width) true) (n + 1) (n + rounded_up (difference_of a.start (sun_on n)) sun_advance)
    go true = rw near
    go false = refl

one-given : (a : Arc) → a.given ≡ true → length (given_arcs (only_arc a)) ≡ 1
unfolding given_arcs
one-given a e = rw e

pub filtered-alike : (p q : ℕ → Bool) → ((n : ℕ) → p n ≡ q n) → (xs : List ℕ) → filtered p xs ≡ filtered q xs
unfolding filtered
filtered-alike p q h [] = refl
filtered-alike p q h (x ∷ xs) = rw (h x, filtered-alike p q h xs)

module _ (s : Single) where
  arc-at : (body : ℕ) → get_or (map only_arc s.arcs) body no_arcs ≡ only_arc (single_arc s body)
  arc-at body = get_or-map only_arc s.arcs body no_arc

  body-met : (body n : ℕ) → body_met (map only_arc s.arcs) (pair_at n) body ≡ in_single_arc (single_arc s body) (longitude_at body (pair_at n))
  body-met body n = ap (λ (a : BodyArcs). in_arcs a (longitude_at body (pair_at n))) (arc-at body) ∙ single-arc (single_arc s body) (longitude_at body (pair_at n))

  range_at : (body : ℕ) → body_arcs_in_range (get_or (map only_arc s.arcs) body no_arcs) ≡ arc_in_range (single_arc s body)
  range_at body = ap body_arcs_in_range (arc-at body) ∙ single-arc-range (single_arc s body)

  in-range : conditions_in_range (query_of s) ≡ single_in_range s
  unfolding conditions_in_range elements_in_range numbers_in_range arcs_in_range true_arcs_in_range body_arcs_in_range arc_in_range single_in_range
  in-range =
      rw (single-weekday-range s.weekday, single-tithi-range s.tithi, single-nakshatra-range s.nakshatra, single-nakshatra-range s.yoga, range_at 0, range_at 1, range_at 2, range_at 3, range_at 4, range_at 5, range_at 6, range_at 7, range_at 8)
      (regrouped (one_in_range s.weekday 6) (one_in_range s.tithi 29) (one_in_range s.nakshatra 26) (one_in_range s.yoga 26) (each_body (λ (body : ℕ). arc_in_range (single_arc s body))))
    where
      regrouped : (w t k y a : Bool) → (w && ((t && (k && (y && true))) && (a && true))) ≡ (w && (t && (k && (y && a))))
      regrouped w t k y a = rw (and-true y, and-true a, and_assoc t (k && y) a, and_assoc k y a)

  -- OLD QUERIES ARE REFUSED ALIKE, as paper 01 refuses them
  pub single-refusal : refusal_of (query_of s) ≡ single_refusal s
  unfolding refusal_of single_refusal
  single-refusal = rw in-range

  -- the elements, and with them the true longitudes, of which none is asked for
  elements-met : (n : ℕ) → (query_elements_met (query_of s) (pair_at n) && true_arcs_met s.edition (replicate 7 no_arcs) (pair_at n)) ≡ single_elements s n
  unfolding elements_met meets true_arcs_met in_arcs single_elements
  elements-met n =
      rw (single-number s.tithi (tithi_at s.edition (pair_at n)) (omega (arith, tithi-small s.edition (pair_at n))), single-number s.nakshatra (nakshatra_at s.edition (pair_at n)) (omega (arith, nakshatra-small s.edition (pair_at n))), single-number s.yoga (yoga_at s.edition (pair_at n)) (omega (arith, yoga-small s.edition (pair_at n))))
      (none_more (is_one s.tithi (tithi_at s.edition (pair_at n))) (is_one s.nakshatra (nakshatra_at s.edition (pair_at n))) (is_one s.yoga (yoga_at s.edition (pair_at n))))
    where
      none_more : (t k y : Bool) → ((t && (k && (y && true))) && true) ≡ (t && (k && y))
      none_more t k y = rw (and-true (t && (k && (y && true))), and-true y)

  -- a day meets the conditions as it did
  pub single-met : (n : ℕ) → conditions_met (query_of s) n ≡ single_met s n
  unfolding conditions_met arcs_met single_met
  single-met n =
      rw (body-met 0 n, body-met 1 n, body-met 2 n, body-met 3 n, body-met 4 n, body-met 5 n, body-met 6 n, body-met 7 n, body-met 8 n, single-weekday s.weekday n, elements-met n)

  sun-in : (n : ℕ) → sun_in_arcs (query_of s) n ≡ sun_in_single s n
  unfolding sun_in_arcs
  sun-in n = body-met 0 n

  -- the scan goes on as it did
  pub single-next : (n : ℕ) → next_day (query_of s) n ≡ single_next s n
  unfolding next_day single_next
  single-next n = rw (sun-in n, arc-at 0) (step (single_arc s 0) n)

  visits-from : (n d : ℕ) → visited_from (query_of s) n d ≡ single_visits s n d
  unfolding visited_from single_visits
  visits-from zero d = refl
  visits-from (suc n) d = go (leb d s.last) (visits-from n (single_next s d))
    where
      go : (b : Bool) → visited_from (query_of s) n (single_next s d) ≡ single_visits s n (single_next s d) → ◌≡◌ {A = List ℕ} (elim b [ true ↦ d ∷ visited_from (query_of s) n (next_day (query_of s) d) | false ↦ [] ]) (elim b [ true ↦ d ∷ single_visits s n (single_next s d) | false ↦ [] ])
      go true ih = ap (λ (l : List ℕ). d ∷ l) (ap (visited_from (query_of s) n) (single-next d) ∙ ih)
      go false ih = refl

  -- OLD QUERIES ARE LISTED ALIKE: the list, and both numbers
  pub single-list : matching_days (query_of s) ≡ filtered (single_met s) (span (query_of s))
  unfolding matching_days
  single-list = filtered-alike (conditions_met (query_of s)) (single_met s) single-met (span (query_of s))

  pub single-visits : visited_days (query_of s) ≡ single_visits s (span_length (query_of s)) s.first
  unfolding visited_days
  single-visits = visits-from (span_length (query_of s)) s.first

  -- and the limit, where the Sun's arc is given
  pub single-limit : (single_arc s 0).given ≡ true → visit_limit (query_of s) ≡ single_limit s
  unfolding visit_limit single_limit
  single-limit g =
      rw (filtered-alike (sun_in_arcs (query_of s)) (sun_in_single s) sun-in (span (query_of s)), ap given_arcs (arc-at 0), one-given (single_arc s 0) g)
      (omega arith)

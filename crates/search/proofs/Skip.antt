-- The scan passes over no day with the Sun in one of its arcs, so filtering the visited days filters the span; by
-- induction on the days left.
-- Assumes nothing.
use Prim.Native.Nat.{ℕ, zero, suc, ◌+◌, ◌-◌, ◌≤◌, ◌<◌}
use mathlib.Core.Path.{◌≡◌, refl, ap, sym, ◌∙◌}
use mathlib.Core.Bool.{Bool, true, false}
use mathlib.Core.List.{List, [], ◌∷◌}
use native.Mathlib.Omega.{arith}
use native.Mathlib.Decide.{dec_le}
use lib.Dec.{leb}
use borrow.Author.Tests.{leb-true, leb-false, le-leb, lt-leb}
use Rattle.days.specs.Days.{days_from}
use Rattle.entries.specs.Runs.{filtered}
use Rattle.query.specs.declared.Query.{Query}
use Rattle.query.specs.Conditions.{given_arcs, body_arcs_in_range}
use Rattle.query.specs.Query.{sun_arcs, conditions_met}
use Rattle.query.proofs.Conditions.{sun-not-met}
use Rattle.search.specs.Look.{sun_in_arcs, next_day}
use Rattle.search.specs.Days.{span_length, span, matching_days, visited_from, visited_days}
use Rattle.search.proofs.Arc.{given-in-circle, outside-each, each-outside, stays-outside, outside-given, given-decides, next-in, next-out, next-after}
use Rattle.entries.proofs.Filter.{filtered-at, filtered-cons, filtered-front}

-- the visits from day d on
abbrev pub rest : Query → ℕ → List ℕ
rest q d = visited_from q (q.last + 1 - d) d

module _ (q : Query) (r : body_arcs_in_range (sun_arcs q) ≡ true) where
  -- a day between a visited day and the next is outside the arcs
  pub skipped : (d j : ℕ) → 0 < j → d + j < next_day q d → sun_in_arcs q (d + j) ≡ false
  skipped d j h l = go (sun_in_arcs q d) refl
    where
      go : (b : Bool) → sun_in_arcs q d ≡ b → sun_in_arcs q (d + j) ≡ false
      go true e = absurd (omega (arith, next-in q d e))
      go false e =
          let f = outside-given q d e in
          let given = given_arcs (sun_arcs q) in
          given-decides q (d + j) false f.0
          (each-outside given (d + j) (stays-outside given (given-in-circle (sun_arcs q) r) d j (outside-each given d f.1) (omega (arith, next-out q d e))))

  -- the scan, a day at a time
  pub visit-end : (n d : ℕ) → q.last < d → visited_from q n d ≡ []
  unfolding visited_from
  visit-end zero d h = refl
  visit-end (suc n) d h = rw (lt-leb d q.last h, visited_from)

  pub visit-more : (n d : ℕ) → d ≤ q.last → visited_from q (suc n) d ≡ d ∷ visited_from q n (next_day q d)
  unfolding visited_from
  visit-more n d h = rw (le-leb d q.last h, visited_from)

  -- a larger bound than the days left makes no difference
  pub bound : (n m d : ℕ) → q.last + 1 - d ≤ n → q.last + 1 - d ≤ m → visited_from q n d ≡ visited_from q m d
  bound zero m d h k = visit-end zero d (omega arith) ∙ sym (visit-end m d (omega arith))
  bound (suc n) zero d h k = visit-end (suc n) d (omega arith) ∙ sym (visit-end zero d (omega arith))
  bound (suc n) (suc m) d h k =
      go (dec_le d q.last) (bound n m (next_day q d) (omega (arith, next-after q r d)) (omega (arith, next-after q r d)))
    where
      go : Dec (d ≤ q.last) → visited_from q n (next_day q d) ≡ visited_from q m (next_day q d) → visited_from q (suc n) d ≡ visited_from q (suc m) d
      go (yes l) ih = visit-more n d l ∙ ap (λ (l : List ℕ). d ∷ l) ih ∙ sym (visit-more m d l)
      go (no f) ih = visit-end (suc n) d (omega arith) ∙ sym (visit-end (suc m) d (omega arith))

  pub rest_end : (d : ℕ) → q.last < d → rest q d ≡ []
  rest_end d h = visit-end (q.last + 1 - d) d h

  pub rest_more : (d : ℕ) → d ≤ q.last → rest q d ≡ d ∷ rest q (next_day q d)
  rest_more d h =
      bound (q.last + 1 - d) (suc (q.last - d)) d (omega arith) (omega arith)
      ∙ visit-more (q.last - d) d h
      ∙ ap (λ (l : List ℕ). d ∷ l) (bound (q.last - d) (q.last + 1 - next_day q d) (next_day q d) (omega (arith, next-after q r d)) (omega arith))

  module _ (p : ℕ → Bool) (inside : (d : ℕ) → sun_in_arcs q d ≡ false → p d ≡ false) where
    -- what is left of the span after d, and of the span from the next day on
    after : (d : ℕ) → filtered p (days_from (suc d) (q.last - d)) ≡ filtered p (days_from (next_day q d) (q.last + 1 - next_day q d))
    after d =
        let m : d < next_day q d = next-after q r d in
        filtered-front p (next_day q d - suc d) (suc d) (q.last - d)
        (λ i l. ap p (omega arith) ∙ inside (d + (i + 1)) (skipped d (i + 1) (omega arith) (omega arith)))
        ∙ filtered-at p _ _ (next_day q d) (q.last + 1 - next_day q d) (omega arith) (omega arith)

    filtered-visits : (n d : ℕ) → q.last + 1 - d ≤ n → filtered p (visited_from q n d) ≡ filtered p (days_from d (q.last + 1 - d))
    unfolding visited_from days_from
    filtered-visits zero d h = filtered-at p d 0 d (q.last + 1 - d) refl (omega arith)
    filtered-visits (suc n) d h =
        go (leb d q.last) refl
        (filtered-visits n (next_day q d) (omega (arith, next-after q r d)))
      where
        go :
            (b : Bool) →
            leb d q.last ≡ b →
            filtered p (visited_from q n (next_day q d)) ≡ filtered p (days_from (next_day q d) (q.last + 1 - next_day q d)) →
            filtered p (elim b [ true ↦ d ∷ visited_from q n (next_day q d) | false ↦ [] ]) ≡ filtered p (days_from d (q.last + 1 - d))
        go true e ih =
            filtered-cons p d (visited_from q n (next_day q d)) (days_from (suc d) (q.last - d)) (ih ∙ sym (after d))
            ∙ filtered-at p d (suc (q.last - d)) d (q.last + 1 - d) refl (omega (arith, leb-true d q.last e))
        go false e ih = filtered-at p d 0 d (q.last + 1 - d) refl (omega (arith, leb-false d q.last e))

    pub filtered-visited : filtered p (visited_days q) ≡ filtered p (span q)
    unfolding visited_days
    filtered-visited = filtered-visits (span_length q) q.first (omega arith)

-- a day outside the Sun's arcs does not meet the conditions
pub outside-unmatched : (q : Query) (n : ℕ) → sun_in_arcs q n ≡ false → conditions_met q n ≡ false
unfolding sun_in_arcs
outside-unmatched q n e = sun-not-met q n e

pub matching-visited : (q : Query) → body_arcs_in_range (sun_arcs q) ≡ true → filtered (conditions_met q) (visited_days q) ≡ matching_days q
unfolding matching_days
matching-visited q r = filtered-visited q r (conditions_met q) (outside-unmatched q)

-- What the look says of a day, by the outcomes of its tests: refused, the Sun outside its arcs, inside one, a day
-- outside the span.
-- Assumes nothing.
use mathlib.Core.Path.{◌≡◌, refl, ap, sym}
use mathlib.Core.Bool.{Bool, true, false, ◌&&◌, false≢true}
use Prim.Native.Nat.{ℕ, ◌+◌, ◌-◌, ◌/◌, ◌≤◌, ◌<◌}
use native.Mathlib.Omega.{arith}
use lib.Dec.{leb}
use Rattle.std.specs.Prelude.{Some, Ok, Err}
use borrow.Author.Tests.{leb-true, le-leb, lt-leb}
use Rattle.days.specs.declared.Day.{Day}
use Rattle.days.specs.declared.refusal.Refusal.{Refusal}
use Rattle.days.specs.declared.refusal.Refusal.TheVariants.{OutOfRange, BadEdition}
use Rattle.days.specs.Days.{last_day, pair_at, weekday_on}
use Rattle.panchanga.specs.TrueLongitudes.{is_edition}
use Rattle.query.specs.declared.Query.{Query}
use Rattle.query.specs.Query.{sun_arcs, conditions_met, in_span, matches, refusal_of, check_of}
use Rattle.query.specs.Conditions.{weekday_met}
use Rattle.query.specs.Parts.{others_met}
use Rattle.query.proofs.Accepted.{accepted-by}
use Rattle.query.proofs.Conditions.{weekday-not-met, others-decide}
use Rattle.search.specs.declared.Examined.{Examined}
use Rattle.search.specs.Look.{sun_advance, sun_on, sun_in_arcs, next_day, looked, examined_of}
use Rattle.search.specs.Parts.{Approached}
use Rattle.search.proofs.Arc.{given-decides, next-in, next-out}
use Rattle.search.proofs.Skip.{outside-unmatched}

abbrev said : Bool → ℕ → Examined
said matches next = record { matches = matches; next = next }

module _ (q : Query) (n : ℕ) where
  in-span-low : in_span q n ≡ true → n ≤ q.last
  in-span-low s = leb-true n q.last (second (leb q.first n) s)
    where
      second : (a : Bool) {b : Bool} → (a && b) ≡ true → b ≡ true
      second true s = s
      second false s = absurd (false≢true s)

  -- a day of the span of a query that is not refused is one, and is not refused
  module _ (e : refusal_of q ≡ 0) where
    pub span-low : in_span q n ≡ true → n ≤ last_day
    span-low s = omega (arith, in-span-low s, (accepted-by q e).last)

  pub looked-at : in_span q n ≡ true → looked q n ≡ said (conditions_met q n) (next_day q n)
  unfolding matches
  looked-at s = rw s

  -- a day that is not of the span does not match
  pub outside-span : in_span q n ≡ false → said false (next_day q n) ≡ looked q n
  unfolding matches
  outside-span s = rw s

  -- inside an arc, or without one: what the weekday and the others say, and the next day
  pub within-arcs :
      {d : Day} →
      refusal_of q ≡ 0 →
      in_span q n ≡ true →
      d ≡ pair_at n →
      sun_in_arcs q n ≡ true →
      said (weekday_met q.weekdays (weekday_on n) && others_met q d) (n + 1) ≡ looked q n
  within-arcs e s p i = rw (looked-at s, next-in q n i, p) (ap (λ (b : Bool). said b (n + 1)) (go (weekday_met q.weekdays (weekday_on n)) refl))
    where
      go : (b : Bool) → weekday_met q.weekdays (weekday_on n) ≡ b → (b && others_met q (pair_at n)) ≡ conditions_met q n
      go true w = sym (others-decide q n (accepted-by q e).edition (span-low e s) (unfold sun_in_arcs in i) w)
      go false w = sym (weekday-not-met q n w)

  -- outside: no match, and the jump
  pub outside :
      (ahead : ℕ) →
      refusal_of q ≡ 0 →
      in_span q n ≡ true →
      Approached (sun_arcs q) (sun_on n) (Some ahead) →
      said false (n + (ahead + (sun_advance - 1)) / sun_advance) ≡ looked q n
  unfolding Approached
  outside ahead e s a =
      let f = given-decides q n false a.0 a.1 in
      rw (looked-at s, outside-unmatched q n f, next-out q n f, a.2)

  -- refused: for the edition, for the day, and for what else the query is refused for; else what the look sees
  pub refused-edition : is_edition q.edition ≡ false → Err BadEdition ≡ examined_of q n
  unfolding examined_of
  refused-edition t = rw t

  module _ (t : is_edition q.edition ≡ true) where
    pub refused-day : last_day < n → Err OutOfRange ≡ examined_of q n
    unfolding examined_of
    refused-day h = rw (t, lt-leb n last_day h)

    pub refused-query : {r : Refusal} → n ≤ last_day → Err r ≡ check_of q → Err r ≡ examined_of q n
    unfolding examined_of
    refused-query h e = rw (t, le-leb n last_day h, ← e)

    pub not-refused : {seen : Examined} → n ≤ last_day → Ok (tt {0}) ≡ check_of q → seen ≡ looked q n → Ok seen ≡ examined_of q n
    unfolding examined_of
    not-refused h e s = rw (t, le-leb n last_day h, ← e, s)

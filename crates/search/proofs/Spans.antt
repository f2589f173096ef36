-- The parts of a span: the matching days of parts that adjoin, put together, are those of the whole, by a filter over
-- lists that are joined; and no part of a query that is not refused is refused. Assumes nothing.
use Prim.Native.Nat.{ℕ, ◌+◌, ◌-◌, ◌≤◌}
use mathlib.Core.Path.{◌≡◌, refl, ap, ap₂, sym, ◌∙◌}
use mathlib.Core.Bool.{true}
use mathlib.Core.List.{List, [], ◌∷◌, ◌++◌}
use native.Mathlib.Omega.{arith}
use Rattle.days.specs.Days.{days_from}
use Rattle.entries.specs.Runs.{filtered}
use Rattle.entries.proofs.Lists.{days-join, filtered-join}
use Rattle.query.specs.declared.Query.{Query}
use Rattle.query.specs.Conditions.{elements_in_range, conditions_in_range, elements_met}
use Rattle.query.specs.Query.{conditions_met, refusal_of}
use Rattle.query.proofs.Accepted.{accepted-by, accepts}
use Rattle.search.specs.Days.{matching_days}
use Rattle.search.specs.Spans.{between}

module _ (q : Query) where
  -- which days match does not hang on the span
  matching-between : (a b : ℕ) → matching_days (between q a b) ≡ filtered (conditions_met q) (days_from a (b + 1 - a))
  matching-between a b = unfold matching_days conditions_met elements_met in refl

  -- two parts that adjoin
  pub adjoining : (a m b : ℕ) → a ≤ m + 1 → m ≤ b → matching_days (between q a b) ≡ matching_days (between q a m) ++ matching_days (between q (m + 1) b)
  adjoining a m b h k =
      let count : b + 1 - a ≡ m + 1 - a + (b + 1 - (m + 1)) = omega arith in
      let next : a + (m + 1 - a) ≡ m + 1 = omega arith in
      matching-between a b
      ∙ ap (λ (n : ℕ). filtered (conditions_met q) (days_from a n)) count
      ∙ ap (filtered (conditions_met q)) (days-join a (m + 1 - a) (b + 1 - (m + 1)))
      ∙ filtered-join (conditions_met q) (days_from a (m + 1 - a)) (days_from (a + (m + 1 - a)) (b + 1 - (m + 1)))
      ∙ ap₂ (λ (l : List ℕ) (d : ℕ). l ++ filtered (conditions_met q) (days_from d (b + 1 - (m + 1)))) (sym (matching-between a m)) next
      ∙ ap (λ (l : List ℕ). matching_days (between q a m) ++ l) (sym (matching-between (m + 1) b))

  -- a part without days
  pub no-days : (a : ℕ) → matching_days (between q (a + 1) a) ≡ []
  no-days a = let none : a + 1 - (a + 1) ≡ 0 = omega arith in matching-between (a + 1) a ∙ ap (λ (n : ℕ). filtered (conditions_met q) (days_from (a + 1) n)) none ∙ (unfold filtered days_from in refl)

  -- the lists of the parts that end with the days of `ends`, one after another, and of what is left of the span behind
  -- them
  pub lists_of_parts : ℕ → List ℕ → List ℕ
  lists_of_parts a [] = matching_days (between q a q.last)
  lists_of_parts a (e ∷ ends) = matching_days (between q a e) ++ lists_of_parts (e + 1) ends

  -- the ends ascend from day a on to the last day
  pub Ends : ℕ → List ℕ → Type 0
  Ends a [] = Unit {0}
  Ends a (e ∷ ends) = (a ≤ e + 1) × (e ≤ q.last) × Ends (e + 1) ends

  parts_from : (a : ℕ) (ends : List ℕ) → Ends a ends → lists_of_parts a ends ≡ matching_days (between q a q.last)
  unfolding lists_of_parts Ends
  parts_from a [] h = refl
  parts_from a (e ∷ ends) h = ap (λ (l : List ℕ). matching_days (between q a e) ++ l) (parts_from (e + 1) ends h.2) ∙ sym (adjoining a e q.last h.0 h.1)

  -- THE LAW of the parts: their lists put together are the whole span's
  pub parts-together : (ends : List ℕ) → Ends q.first ends → lists_of_parts q.first ends ≡ matching_days q
  parts-together ends h = parts_from q.first ends h

  pub part-accepted : (a b : ℕ) → refusal_of q ≡ 0 → a ≤ b → b ≤ q.last → refusal_of (between q a b) ≡ 0
  part-accepted a b e h k =
      let by = accepted-by q e in
      accepts (between q a b) by.edition h (omega (arith, by.last)) (same by.conditions)
    where
      same : conditions_in_range q ≡ true → conditions_in_range (between q a b) ≡ true
      same h = unfold conditions_in_range elements_in_range in h

-- The days found are days, and the output's length is a number that a program can count to: at most a line for each day
-- there is, and one for the heading. Assumes nothing.
use mathlib.Core.Path.{◌≡◌, ◌∙◌}
use mathlib.Core.Bool.{Bool, true, false, cond}
use mathlib.Core.List.{List, [], ◌∷◌}
use Prim.Native.Nat.{ℕ, zero, suc, ◌+◌, ◌*◌, ◌≤◌}
use native.Mathlib.Omega.{arith}
use lib.Dec.{leb}
use lib.ListN.{length, length-append}
use Rattle.days.specs.Days.{last_day, days_from}
use Rattle.entries.specs.Runs.{filtered}
use Rattle.panchanga.specs.TrueLongitudes.{is_edition}
use Rattle.names.specs.declared.Print.{Print}
use Rattle.query.specs.declared.Query.{Query}
use Rattle.query.specs.Query.{conditions_met, refusal_of}
use Rattle.query.specs.SunArcs.{with_sun_arcs}
use Rattle.query.proofs.SunArcs.{same-refusal}
use Rattle.query.proofs.Accepted.{accepted-by}
use Rattle.search.specs.Look.{next_day}
use Rattle.search.specs.Days.{span_length, matching_days, visited_from, visited_days}
use Rattle.entries.proofs.Filter.{filtered-short}
use Rattle.text.specs.Lines.{line_capacity}
use Rattle.catalogue.specs.Pieces.{day_lines}
use Rattle.entries.specs.Listed.{EachDay}
use Rattle.catalogue.proofs.DayLines.{line-fits, heading-fits}
use Rattle.find.specs.Output.{heading_of, output_of}

days-each : (p : ℕ → Bool) (a n : ℕ) → a + n ≤ last_day + 1 → EachDay (filtered p (days_from a n))
unfolding EachDay filtered days_from
days-each p a zero h = tt
days-each p a (suc n) h = go (p a) (days-each p (suc a) n (omega arith))
  where
    go : (b : Bool) → EachDay (filtered p (days_from (suc a) n)) → EachDay (cond b (a ∷ filtered p (days_from (suc a) n)) (filtered p (days_from (suc a) n)))
    go true each = (omega arith, each)
    go false each = each

pub each-day : (q : Query) → refusal_of q ≡ 0 → EachDay (matching_days q)
unfolding matching_days
each-day q e = let by = accepted-by q e in days-each (conditions_met q) q.first (span_length q) (omega (arith, by.first, by.last))

pub matching-short : (q : Query) → length (matching_days q) ≤ span_length q
unfolding matching_days
matching-short q = filtered-short (conditions_met q) q.first (span_length q)

visited-short : (q : Query) (n d : ℕ) → length (visited_from q n d) ≤ n
unfolding visited_from
visited-short q zero d = omega arith
visited-short q (suc n) d = go (leb d q.last) (visited-short q n (next_day q d))
  where
    go : (b : Bool) → length (visited_from q n (next_day q d)) ≤ n → length {A = ℕ} (elim b [ true ↦ d ∷ visited_from q n (next_day q d) | false ↦ [] ]) ≤ suc n
    go true h = omega arith
    go false h = omega arith

visited-few : (q : Query) → refusal_of q ≡ 0 → length (visited_days q) ≤ last_day + 1
unfolding visited_days
visited-few q e = omega (arith, visited-short q (span_length q) q.first, (accepted-by q e).last)

lines-short : (form : Print) (ed : ℕ) → is_edition ed ≡ true → (ds : List ℕ) → EachDay ds → length (day_lines form ed ds) ≤ 160 * length ds
unfolding EachDay day_lines
lines-short form ed t [] each = omega arith
lines-short form ed t (d ∷ ds) each = simp length-append (omega (arith, line-fits form ed d t each.0, lines-short form ed t ds each.1))

module _ (form : Print) (q : Query) (e : refusal_of q ≡ 0) where
  pub heading-short : length (heading_of form q) ≤ line_capacity
  heading-short =
      let by = accepted-by q e in
      heading-fits form _ _ _ (omega (arith, matching-short q, by.last)) (omega (arith, visited-few (with_sun_arcs q) (same-refusal q ∙ e)))

  pub output-short : length (output_of form q) ≤ 64256160
  unfolding output_of
  output-short =
      let by = accepted-by q e in
      simp length-append (omega (arith, heading-short, lines-short form q.edition by.edition (matching_days q) (each-day q e), matching-short q, by.last))

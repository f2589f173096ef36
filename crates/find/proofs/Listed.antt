-- What a search leaves for a page's query that is not refused: the two numbers of the heading, and, where the list has
-- enough entries, the matching days and no more in its first entries, each a day whose line fits. By the clauses of the
-- search's promises, for the query that is searched with, which has the same matching days. Assumes nothing.
use mathlib.Core.Path.{◌≡◌, ap, ap₂, sym, ◌∙◌}
use mathlib.Core.Bool.{true}
use mathlib.Core.List.{List}
use Prim.Native.Nat.{ℕ, ◌*◌, ◌≤◌}
use native.Mathlib.Omega.{arith}
use borrow.Author.Tests.{eq-eqb, le-leb}
use lib.Dec.{eqb}
use lib.ListN.{length, take, drop}
use lib.Seq.{take_at}
use Rattle.names.specs.declared.Print.{Print}
use Rattle.query.specs.declared.Query.{Query}
use Rattle.query.specs.Query.{refusal_of}
use Rattle.query.specs.SunArcs.{with_sun_arcs}
use Rattle.query.proofs.Accepted.{accepted-by, accepts-check}
use Rattle.query.proofs.SunArcs.{same-refusal}
use Rattle.std.specs.Prelude.{Result, Ok}
use Rattle.std.specs.Result.{is_ok}
use Rattle.days.specs.declared.refusal.Refusal.{Refusal}
use Rattle.days.specs.Refusals.{part_or_zero}
use Rattle.search.specs.declared.Found.{Found}
use Rattle.search.specs.declared.SearchError.{SearchError}
use Rattle.search.specs.Days.{matching_days, visited_days}
use Rattle.search.proofs.SunArcs.{same-matching}
use Rattle.search.specs.Search.{result_of, list_after, first_listed, found_in, measured_of, in_room, in_room_of, searched_of, search_found, Measured, Searched}
use Rattle.entries.specs.Entries.{entries, capacity, with_entries}
use Rattle.entries.specs.Listed.{listed_from}
use Rattle.entries.proofs.Laws.{entries-length}
use Rattle.entries.proofs.Putting.{put_all}
use Rattle.entries.proofs.Listed.{listed-entries}
use Rattle.text.specs.Lines.{line_capacity}
use Rattle.catalogue.specs.Each.{EachFits}
use Rattle.catalogue.proofs.Together.{each_fits}
use Rattle.find.specs.Output.{front, front_days}
use Rattle.find.proofs.Bounds.{each-day}

-- a list with the matching days in its first n entries
pub record Filled (q : Query) (list : List ℕ) (n : ℕ) (after : List ℕ) : Type 0 where
  pub count : n ≡ length (matching_days q)
  pub written : after ≡ with_entries (matching_days q) list

module _ (q : Query) (e : refusal_of q ≡ 0) where
  good : eqb (refusal_of (with_sun_arcs q)) 0 ≡ true
  good = eq-eqb (refusal_of (with_sun_arcs q)) 0 (same-refusal q ∙ e)

  same : matching_days (with_sun_arcs q) ≡ matching_days q
  same = same-matching q e

  abbrev found : Found
  found = found_in (with_sun_arcs q)

  answered : measured_of (with_sun_arcs q) ≡ Ok found
  answered = rw (accepts-check (with_sun_arcs q) (same-refusal q ∙ e))

  -- a search of a list with enough entries is not refused
  searched : (list : List ℕ) → length (matching_days q) ≤ capacity list → searched_of (with_sun_arcs q) (capacity list) ≡ Ok found
  unfolding in_room_of in_room
  searched list fits = rw (answered, same, le-leb (length (matching_days q)) (capacity list) fits)

  pub search-there :
      (list : List ℕ) (answer : Result Found SearchError) (after : List ℕ) →
      Searched (with_sun_arcs q) list answer after →
      length (matching_days q) ≤ capacity list →
      is_ok answer ≡ true
  search-there list answer after s fits = rw (s.answer ∙ searched list fits)

  -- by such a search
  pub by-search :
      (list : List ℕ) (answer : Result Found SearchError) (told : Found) (after : List ℕ) →
      Searched (with_sun_arcs q) list answer after →
      answer ≡ Ok told →
      length (matching_days q) ≤ capacity list →
      Filled q list told.length after
  unfolding result_of list_after search_found
  by-search list answer told after s is fits =
      let enough = le-leb (length (matching_days q)) (capacity list) fits in
      record {
        count = ap (λ (a : Result Found SearchError). (search_found a).length) (sym is ∙ s.answer ∙ searched list fits) ∙ ap length same;
        written = s.list ∙ rw (same, good, enough);
      }

  -- without a list too
  pub measure-there : (answer : Result Found Refusal) → Measured (with_sun_arcs q) answer → is_ok answer ≡ true
  measure-there answer m = rw (m.answer ∙ answered)

  module _ (answer : Result Found Refusal) (told : Found) (m : Measured (with_sun_arcs q) answer) (is : answer ≡ Ok told) where
    pub count : told.length ≡ length (matching_days q)
    count = ap (part_or_zero (λ (f : Found). f.length)) (sym is ∙ m.answer ∙ answered) ∙ ap length same

    pub visits : told.examined ≡ length (visited_days (with_sun_arcs q))
    visits = ap (part_or_zero (λ (f : Found). f.examined)) (sym is ∙ m.answer ∙ answered)

    -- by the first search, where they are no more than the list's entries
    pub by_first : (list after : List ℕ) → after ≡ first_listed (with_sun_arcs q) list → told.length ≤ capacity list → Filled q list told.length after
    unfolding first_listed
    by_first list after put fits =
        record { count = count; written = put ∙ rw (good, same) (put_all (matching_days q) list (omega (arith, count))) }

  module _ (list : List ℕ) (n : ℕ) (after : List ℕ) (f : Filled q list n after) where
    front-is : front after n ≡ entries (matching_days q)
    front-is =
        ap₂ (λ (k : ℕ) (l : List ℕ). take (4 * k) l) f.count f.written
        ∙ take_at (entries (matching_days q)) (drop (4 * length (matching_days q)) list) (4 * length (matching_days q)) (entries-length (matching_days q))

    pub there : length (front after n) ≡ 4 * n
    there = omega (arith, f.count, ap length front-is, entries-length (matching_days q))

    pub listed : front_days after n ≡ matching_days q
    listed = ap (λ (l : List ℕ). listed_from l 0) front-is ∙ listed-entries (matching_days q) (each-day q e)

    pub each : (form : Print) (room : ℕ) → line_capacity ≤ room → EachFits form q.edition room (front_days after n)
    each form room h = rw listed (each_fits form q.edition (accepted-by q e).edition room (matching_days q) h (each-day q e))

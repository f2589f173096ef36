-- The laws beside the search: the matching days and the visited days ascend strictly, so each stands once; a day is
-- listed if and only if it is in the span and meets the conditions; what is written to a list is read back; every
-- matching day is visited. By induction on the days.
-- Assumes nothing.
use Prim.Native.Nat.{ℕ, zero, suc, ◌≤◌, ◌<◌}
use mathlib.Core.Path.{◌≡◌, refl, sym, ap, ◌∙◌}
use mathlib.Core.Bool.{Bool, true, false, cond, ◌&&◌, false≢true}
use mathlib.Core.List.{List, [], ◌∷◌}
use native.Mathlib.Omega.{arith}
use native.Mathlib.Decide.{dec_le}
use lib.Dec.{leb}
use lib.ListN.{length, get_or}
use borrow.Author.Tests.{leb-true, le-leb}
use Rattle.days.specs.Days.{last_day}
use Rattle.std.specs.Prelude.{Result, Ok, Err}
use Rattle.days.specs.Refusals.{and_then}
use Rattle.days.specs.declared.refusal.Refusal.{Refusal}
use Rattle.days.specs.declared.refusal.Refusal.TheVariants.{OutOfRange, BadEdition}
use Rattle.entries.specs.Entries.{with_entries, capacity, entry_at}
use Rattle.query.specs.declared.Query.{Query}
use Rattle.query.specs.Conditions.{body_arcs_in_range}
use Rattle.query.specs.Query.{sun_arcs, conditions_met, matches, refusal_of, check_of}
use Rattle.panchanga.specs.TrueLongitudes.{is_edition}
use Rattle.query.proofs.Accepted.{accepted-by, checked, accepts-check}
use Rattle.search.specs.declared.Examined.{Examined}
use Rattle.search.specs.Look.{sun_in_arcs, next_day, looked, examined_of}
use Rattle.search.specs.Days.{span_length, span, matching_days, visited_from, visited_days}
use Rattle.search.proofs.Arc.{next-after}
use Rattle.search.proofs.Look.{not-refused}
use Rattle.entries.proofs.Laws.{entries-read}
use Rattle.entries.proofs.Lists.{Ascending, Has, weaken, days-ascend, listed, has-filtered, filtered-has, in-days, has-at}
use Rattle.search.proofs.Skip.{matching-visited, visit-end, visit-more, bound}

pub matching-ascend : (q : Query) → Ascending q.first (matching_days q)
unfolding matching_days
matching-ascend q = days-ascend (conditions_met q) q.first (span_length q)

-- a day is in the list if and only if it is in the span and meets all conditions given
pub record Listed (q : Query) (x : ℕ) : Type 0 where
  pub from_first : q.first ≤ x
  pub to_last : x ≤ q.last
  pub meets-all : conditions_met q x ≡ true

pub listed-only : (q : Query) (x : ℕ) → Has x (matching_days q) → Listed q x
unfolding matching_days
listed-only q x h =
    let l = listed (conditions_met q) x q.first (span_length q) h in
    record { from_first = l.0; to_last = omega (arith, l.0, l.1); meets-all = l.2 }

pub listed-all : (q : Query) (x : ℕ) → Listed q x → Has x (matching_days q)
unfolding matching_days
listed-all q x l = has-filtered (conditions_met q) x l.meets-all (span q) (in-days x q.first (span_length q) l.from_first (omega (arith, l.from_first, l.to_last)))

-- and these are the days of which the look says that they match
pub listed-matches : (q : Query) (x : ℕ) → Listed q x → matches q x ≡ true
unfolding matches
listed-matches q x l = rw (le-leb _ _ l.from_first, le-leb _ _ l.to_last) l.meets-all

pub matches-listed : (q : Query) (x : ℕ) → matches q x ≡ true → Listed q x
unfolding matches
matches-listed q x e = go (leb q.first x) (leb x q.last) refl refl e
  where
    go : (a b : Bool) → leb q.first x ≡ a → leb x q.last ≡ b → ((a && b) && conditions_met q x) ≡ true → Listed q x
    go true true f t m = record { from_first = leb-true _ _ f; to_last = leb-true _ _ t; meets-all = m }
    go true false f t m = absurd (false≢true m)
    go false b f t m = absurd (false≢true m)

-- the look goes forward, where the query is not refused: the day that it hands back is later than the day; and this is
-- what it answers of each day that there is, in the span or not
pub next-later : (q : Query) (n : ℕ) → refusal_of q ≡ 0 → (n < (looked q n).next) × (n ≤ last_day → Ok (looked q n) ≡ examined_of q n)
next-later q n e =
    let a = accepted-by q e in
    (next-after q a.sun n, λ (h : n ≤ last_day). not-refused q n a.edition h (sym (accepts-check q e)) refl)

pub looked-later : (q : Query) (n : ℕ) {seen : Examined} → Ok seen ≡ examined_of q n → n < seen.next
unfolding examined_of
looked-later q n {seen} r = go (is_edition q.edition) (leb n last_day) (check_of q) refl r
  where
    go :
        (t h : Bool) (c : Result (Unit {0}) Refusal) →
        check_of q ≡ c →
        Ok seen ≡ cond t (cond h (and_then c (λ (_ : Unit {0}). Ok (looked q n))) (Err OutOfRange)) (Err BadEdition) →
        n < seen.next
    go true true (Ok tt) e r =
        let is : seen ≡ looked q n = cc in
        rw is (next-later q n (checked q (sym e))).0
    go true true (Err x) e r = absurd cc
    go true false c e r = absurd cc
    go false h c e r = absurd cc

-- an entry of the list that was written is the matching day of that number
pub listed-read :
    (q : Query) (l : List ℕ) (k : ℕ) →
    refusal_of q ≡ 0 →
    length (matching_days q) ≤ capacity l →
    k < length (matching_days q) →
    entry_at (with_entries (matching_days q) l) k ≡ Ok (get_or (matching_days q) k 0)
listed-read q l k e room h =
    let n = listed-only q (get_or (matching_days q) k 0) (has-at k (matching_days q) h) in
    entries-read (matching_days q) l k room h (omega (arith, n.to_last, (accepted-by q e).last))

-- the scan ends before its bound: a larger one gives the same days
pub bound-not-reached : (q : Query) (n : ℕ) → refusal_of q ≡ 0 → span_length q ≤ n → visited_from q n q.first ≡ visited_days q
unfolding visited_days
bound-not-reached q n e h = bound q (accepted-by q e).sun n (span_length q) q.first h (omega arith)

module _ (q : Query) (r : body_arcs_in_range (sun_arcs q) ≡ true) where
  visits-from : (n d : ℕ) → Ascending d (visited_from q n d)
  visits-from zero d = unfold Ascending visited_from in tt
  visits-from (suc n) d = go (dec_le d q.last) (visits-from n (next_day q d))
    where
      go : Dec (d ≤ q.last) → Ascending (next_day q d) (visited_from q n (next_day q d)) → Ascending d (visited_from q (suc n) d)
      go (yes h) u = rw (visit-more q r n d h) (unfold Ascending in (omega arith, weaken (suc d) (next_day q d) (visited_from q n (next_day q d)) (next-after q r d) u))
      go (no h) u = rw (visit-end q r (suc n) d (omega arith)) (unfold Ascending in tt)

  -- the scan visits each day at most once
  pub visits-ascend : Ascending q.first (visited_days q)
  unfolding visited_days
  visits-ascend = visits-from (span_length q) q.first

  -- every matching day is visited
  pub matching-are-visited : (x : ℕ) → Has x (matching_days q) → Has x (visited_days q)
  matching-are-visited x h = filtered-has (conditions_met q) x (visited_days q) (rw (matching-visited q r) h)

-- the query in another edition
abbrev pub in_edition : ℕ → Query → Query
in_edition edition q =
    record {
      first = q.first;
      last = q.last;
      edition = edition;
      weekdays = q.weekdays;
      tithi = q.tithi;
      nakshatra = q.nakshatra;
      yoga = q.yoga;
      karana = q.karana;
      arcs = q.arcs;
      true_arcs = q.true_arcs;
    }

-- THE SCAN IS THE SAME IN BOTH EDITIONS: it goes by the mean Sun, which no edition changes
module _ (edition : ℕ) (q : Query) where
  same_next : (d : ℕ) → next_day (in_edition edition q) d ≡ next_day q d
  unfolding next_day sun_in_arcs
  same_next d = refl

  same_from : (n d : ℕ) → visited_from (in_edition edition q) n d ≡ visited_from q n d
  unfolding visited_from
  same_from zero d = refl
  same_from (suc n) d = go (leb d q.last) (same_from n (next_day q d))
    where
      go : (b : Bool) → visited_from (in_edition edition q) n (next_day q d) ≡ visited_from q n (next_day q d) → ◌≡◌ {A = List ℕ} (elim b [ true ↦ d ∷ visited_from (in_edition edition q) n (next_day (in_edition edition q) d) | false ↦ [] ]) (elim b [ true ↦ d ∷ visited_from q n (next_day q d) | false ↦ [] ])
      go true ih = ap (λ (l : List ℕ). d ∷ l) (ap (visited_from (in_edition edition q) n) (same_next d) ∙ ih)
      go false ih = refl

  pub same-visits : visited_days (in_edition edition q) ≡ visited_days q
  unfolding visited_days
  same-visits = same_from (span_length q) q.first

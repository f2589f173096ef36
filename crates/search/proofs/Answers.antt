-- What a search answers, case by case: refused, too many, all written.
-- Assumes nothing.
use Prim.Native.Nat.{ℕ, ◌-◌, ◌≤◌, ◌<◌}
use mathlib.Core.Path.{◌≡◌, refl, sym, ap, ◌∙◌}
use mathlib.Core.List.{List}
use native.Mathlib.Omega.{arith}
use lib.ListN.{length}
use borrow.Author.Tests.{le-leb, lt-leb, eq-eqb, ne_eqb}
use Rattle.std.specs.Prelude.{Result, Ok, Err}
use Rattle.days.specs.Refusals.{and_then, result_number}
use Rattle.days.specs.declared.refusal.Refusal.{Refusal}
use Rattle.query.specs.declared.Query.{Query}
use Rattle.query.specs.Query.{conditions_met, refusal_of, check_of}
use Rattle.search.specs.Days.{span_length, matching_days, visited_days, visit_limit}
use Rattle.entries.specs.Entries.{with_entries, capacity}
use Rattle.search.specs.declared.Found.{Found}
use Rattle.search.specs.declared.SearchError.TheVariants.{Refused, ListTooShort}
use Rattle.search.specs.Search.{result_of, list_after, found_in, measured_of, in_room, in_room_of, search_found, Measured, Searched}
use Rattle.query.proofs.Accepted.{accepted-by, accepts-check, refused-number, check-number}
use Rattle.entries.proofs.Filter.{filtered-short}
use Rattle.search.proofs.Limit.{visits-limited}

module _ (q : Query) where
  found-is : {n k : ℕ} → n ≡ length (matching_days q) → k ≡ length (visited_days q) → ◌≡◌ {A = Found} (record { length = n; examined = k }) (found_in q)
  found-is c v = rw (c, v)

  -- a query that is not refused is answered by what is found
  answered : refusal_of q ≡ 0 → measured_of q ≡ Ok (found_in q)
  answered e = rw (accepts-check q e)

  limited : {k : ℕ} → refusal_of q ≡ 0 → k ≡ length (visited_days q) → k ≤ visit_limit q
  limited e v = omega (arith, visits-limited q (accepted-by q e).sun)

  pub measured-refused : {r : Refusal} → Err r ≡ check_of q → Measured q (Err r)
  measured-refused e = record { answer = rw (← e); limit = omega arith }

  pub measured : {n k : ℕ} → refusal_of q ≡ 0 → n ≡ length (matching_days q) → k ≡ length (visited_days q) → Measured q (Ok (record { length = n; examined = k }))
  measured e c v = record { answer = ap Ok (found-is c v) ∙ sym (answered e); limit = limited e v }

  module _ (l : List ℕ) where
    -- an answer by its number: the list is written where it is 0
    kept-list : (m : List ℕ) → (result_of q (capacity l) ≡ 0 → ⊥) → m ≡ l → m ≡ list_after q l
    unfolding list_after
    kept-list m h e = rw (ne_eqb (result_of q (capacity l)) 0 h) e

    pub refused : {r : Refusal} → Err r ≡ check_of q → Searched q l (Err (Refused r)) l
    unfolding result_of in_room_of search_found
    refused {r} e =
        let n : refusal_of q ≡ 0 → ⊥ = refused-number q e in
        record { answer = rw (← e); limit = omega arith; list = kept-list l (λ z. n (rw (ne_eqb (refusal_of q) 0 n) at z)) refl }

    module _ {n k : ℕ} (e : refusal_of q ≡ 0) (c : n ≡ length (matching_days q)) (v : k ≡ length (visited_days q)) where
      pub too_many : capacity l < n → Searched q l (Err (ListTooShort (record { length = n; examined = k }))) l
      unfolding result_of list_after in_room_of in_room search_found
      too_many h =
          let f = eq-eqb (refusal_of q) 0 e in
          let t = lt-leb (length (matching_days q)) (capacity l) (omega arith) in
          record { answer = rw (answered e, t, c, v); limit = limited e v; list = rw (f, t) }

      pub all-written :
          (m : List ℕ) →
          n ≤ capacity l →
          m ≡ with_entries (matching_days q) l →
          Searched q l (Ok (record { length = n; examined = k })) m
      unfolding result_of list_after in_room_of in_room search_found
      all-written m h w =
          let f = eq-eqb (refusal_of q) 0 e in
          let t = le-leb (length (matching_days q)) (capacity l) (omega arith) in
          record { answer = rw (answered e, t, c, v); limit = limited e v; list = rw (f, t) w }

-- the numbers of an answer
module _ {q : Query} {found : Result Found Refusal} (m : Measured q found) where
  pub measured-number : result_number found ≡ refusal_of q
  unfolding result_number
  measured-number = rw m.answer (go (check_of q) (check-number q))
    where
      go : (c : Result (Unit {0}) Refusal) → result_number c ≡ refusal_of q → result_number (and_then c (λ (_ : Unit {0}). Ok (found_in q))) ≡ refusal_of q
      go (Ok tt) e = e
      go (Err r) e = e

matching-fits : (q : Query) → length (matching_days q) ≤ span_length q
unfolding matching_days
matching-fits q = filtered-short (conditions_met q) q.first (span_length q)

-- a list with more entries than the span's days less one has room for whatever matches
pub fits-span : (q : Query) (room : ℕ) → refusal_of q ≡ 0 → q.last - q.first < room → length (matching_days q) ≤ room
fits-span q room e w = omega (arith, matching-fits q, (accepted-by q e).first)

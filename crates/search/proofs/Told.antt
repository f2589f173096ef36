-- What is told of an answer in numbers is the result, and the numbers of a query that is not refused. By the query's
-- check, case by case. Assumes nothing.
use mathlib.Core.Bool.{Bool, true, false, cond}
use mathlib.Core.Path.{◌≡◌, refl, sym, ◌∙◌}
use Prim.Native.Nat.{ℕ}
use borrow.Author.Tests.{eq-eqb, ne_eqb}
use lib.Dec.{eqb, leb}
use lib.ListN.{length}
use Rattle.std.specs.Prelude.{Result, Ok, Err}
use Rattle.days.specs.declared.refusal.Refusal.{Refusal}
use Rattle.days.specs.Refusals.{accepted, list_too_short, result_number, part_or_zero, and_then}
use Rattle.query.specs.declared.Query.{Query}
use Rattle.query.specs.Query.{refusal_of, check_of}
use Rattle.query.proofs.Accepted.{check-number, refusal-positive}
use Rattle.search.specs.declared.Found.{Found}
use Rattle.search.specs.declared.SearchError.TheVariants.{ListTooShort}
use Rattle.search.specs.Days.{matching_days, visited_days}
use Rattle.search.specs.Search.{result_of, unless_refused, found_in, measured_of, in_room, in_room_of, searched_of, search_number, search_found}

module _ (q : Query) where
  pub searched-number : (room : ℕ) → search_number (searched_of q room) ≡ result_of q room
  unfolding search_number in_room_of in_room result_of result_number
  searched-number room = go (check_of q) (check-number q)
    where
      fits : (b : Bool) → search_number (cond b (Ok (found_in q)) (Err (ListTooShort (found_in q)))) ≡ cond b accepted list_too_short
      fits true = refl
      fits false = refl

      go :
          (c : Result (Unit {0}) Refusal) →
          result_number c ≡ refusal_of q →
          search_number (in_room_of room (and_then c (λ (_ : Unit {0}). Ok (found_in q))))
          ≡ cond (eqb (refusal_of q) accepted) (cond (leb (length (matching_days q)) room) accepted list_too_short) (refusal_of q)
      go (Ok tt) e = rw (eq-eqb (refusal_of q) 0 (sym e)) (fits (leb (length (matching_days q)) room))
      go (Err r) e = rw (ne_eqb (refusal_of q) 0 (λ z. refusal-positive r (e ∙ z))) e

  -- the two numbers that come with it
  pub searched-found :
      (room : ℕ) →
      search_found (searched_of q room)
      ≡ record { length = unless_refused q (length (matching_days q)); examined = unless_refused q (length (visited_days q)) }
  unfolding search_found in_room_of in_room result_number
  searched-found room = go (check_of q) (check-number q)
    where
      fits : (b : Bool) → search_found (cond b (Ok (found_in q)) (Err (ListTooShort (found_in q)))) ≡ found_in q
      fits true = refl
      fits false = refl

      go :
          (c : Result (Unit {0}) Refusal) →
          result_number c ≡ refusal_of q →
          search_found (in_room_of room (and_then c (λ (_ : Unit {0}). Ok (found_in q))))
          ≡ record {
            length = cond (eqb (refusal_of q) accepted) (length (matching_days q)) 0;
            examined = cond (eqb (refusal_of q) accepted) (length (visited_days q)) 0;
          }
      go (Ok tt) e = rw (eq-eqb (refusal_of q) 0 (sym e)) (fits (leb (length (matching_days q)) room))
      go (Err r) e = rw (ne_eqb (refusal_of q) 0 (λ z. refusal-positive r (e ∙ z)))

  pub measured-part : (part : Found → ℕ) → part_or_zero part (measured_of q) ≡ unless_refused q (part (found_in q))
  unfolding result_number
  measured-part part = go (check_of q) (check-number q)
    where
      go :
          (c : Result (Unit {0}) Refusal) →
          result_number c ≡ refusal_of q →
          part_or_zero part (and_then c (λ (_ : Unit {0}). Ok (found_in q))) ≡ cond (eqb (refusal_of q) accepted) (part (found_in q)) 0
      go (Ok tt) e = rw (eq-eqb (refusal_of q) 0 (sym e))
      go (Err r) e = rw (ne_eqb (refusal_of q) 0 (λ z. refusal-positive r (e ∙ z)))

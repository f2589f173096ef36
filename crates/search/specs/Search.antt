-- What a search hands back, and what it leaves in the list of entries.
-- Assumes nothing.
use Rattle.std.specs.Prelude.{◌≡◌, cond, List, ℕ, ◌≤◌, leb, eqb, length, Result, Ok, Err}
use Rattle.days.specs.Refusals.{accepted, list_too_short, refusal_number, part_or_zero, and_then}
use Rattle.days.specs.declared.refusal.Refusal.{Refusal}
use Rattle.entries.specs.Entries.{capacity, with_entries, with_entries_from}
use Rattle.query.specs.declared.Query.{Query}
use Rattle.query.specs.Query.{refusal_of, check_of}
use Rattle.search.specs.declared.Found.{Found}
use Rattle.search.specs.declared.SearchError.{SearchError}
use Rattle.search.specs.declared.SearchError.TheVariants.{Refused, ListTooShort}
use Rattle.search.specs.Days.{matching_days, visited_days, visit_limit}

-- the result for a list of so many entries: 7 where the query is not refused and the lent room does not suffice. It
-- suffices where the list has at least as many entries as there are matching days
unfoldable pub result_of : Query → ℕ → ℕ
result_of q room = cond (eqb (refusal_of q) accepted) (cond (leb (length (matching_days q)) room) accepted list_too_short) (refusal_of q)

-- a number that comes with 0 and with 7; the other refusals have 0
abbrev pub unless_refused : Query → ℕ → ℕ
unless_refused q n = cond (eqb (refusal_of q) accepted) n 0

-- the list after: with the matching days' entries, or by any refusal the whole list as it was
unfoldable pub list_after : Query → List ℕ → List ℕ
list_after q before = cond (eqb (result_of q (capacity before)) accepted) (with_entries (matching_days q) before) before

-- the list with the first of the matching days, as many as it has entries
unfoldable pub first_listed : Query → List ℕ → List ℕ
first_listed q before = cond (eqb (refusal_of q) accepted) (with_entries_from before 0 (matching_days q)) before

-- the true length and the number of days looked at, which are the same whatever list is lent
abbrev pub found_in : Query → Found
found_in q = record { length = length (matching_days q); examined = length (visited_days q) }

-- the answer without a list
abbrev pub measured_of : Query → Result Found Refusal
measured_of q = and_then (check_of q) (λ (_ : Unit {0}). Ok (found_in q))

-- the answer for a list of so many entries: where the query is not refused and the lent room does not suffice, that
-- with the same numbers
unfoldable pub in_room : ℕ → Found → Result Found SearchError
in_room room found = cond (leb found.length room) (Ok found) (Err (ListTooShort found))

unfoldable pub in_room_of : ℕ → Result Found Refusal → Result Found SearchError
in_room_of room (Ok found) = in_room room found
in_room_of room (Err refusal) = Err (Refused refusal)

abbrev pub searched_of : Query → ℕ → Result Found SearchError
searched_of q room = in_room_of room (measured_of q)

-- of an answer: its number, 0 or that of a refusal; and the two numbers, which are 0 where the query is refused
unfoldable pub search_number : Result Found SearchError → ℕ
search_number (Ok found) = accepted
search_number (Err (Refused refusal)) = refusal_number refusal
search_number (Err (ListTooShort found)) = list_too_short

unfoldable pub search_found : Result Found SearchError → Found
search_found (Ok found) = found
search_found (Err (Refused refusal)) = record { length = 0; examined = 0 }
search_found (Err (ListTooShort found)) = found

-- what is handed back without a list
pub record Measured (q : Query) (found : Result Found Refusal) : Type 0 where
  pub answer : found ≡ measured_of q
  pub limit : part_or_zero (λ (f : Found). f.examined) found ≤ visit_limit q

-- THE PROMISE of the search, with the list before and after
pub record Searched (q : Query) (before : List ℕ) (found : Result Found SearchError) (after : List ℕ) : Type 0 where
  pub answer : found ≡ searched_of q (capacity before)
  pub limit : (search_found found).examined ≤ visit_limit q
  pub list : after ≡ list_after q before

-- A list of days as bytes: four a day, low byte first. A tail under four bytes is no entry (paper 01: no place of the
-- lent list).
-- Assumes nothing.
use Rattle.std.specs.Prelude.{cond, List, [], ◌∷◌, ◌++◌, ℕ, ◌+◌, ◌*◌, ◌/◌, ◌%◌, leb, ltb, length, get_or, take, drop, Result, Ok, Err}
use Rattle.days.specs.declared.refusal.Refusal.{Refusal}
use Rattle.days.specs.declared.refusal.Refusal.TheVariants.{OutOfRange}

-- a day's entry
unfoldable pub entry : ℕ → List ℕ
entry d = d % 256 ∷ d / 256 % 256 ∷ d / 65536 % 256 ∷ d / 16777216 % 256 ∷ []

unfoldable pub entries : List ℕ → List ℕ
entries [] = []
entries (d ∷ ds) = entry d ++ entries ds

-- how many entries a list has: paper 01's places of the lent list
abbrev pub capacity : List ℕ → ℕ
capacity list = length list / 4

-- a list with a day's entry as its entry k; one that has no entry k stays as it was
unfoldable pub with_entry : List ℕ → ℕ → ℕ → List ℕ
with_entry list k day = cond (ltb k (capacity list)) (take (4 * k) list ++ (entry day ++ drop (4 * k + 4) list)) list

-- a list with the days' entries from entry k on; a day for which it has no entry is not put
unfoldable pub with_entries_from : List ℕ → ℕ → List ℕ → List ℕ
with_entries_from list k [] = list
with_entries_from list k (d ∷ ds) = with_entries_from (with_entry list k d) (k + 1) ds

-- a list with the days' entries at its front, and behind them what was there
abbrev pub with_entries : List ℕ → List ℕ → List ℕ
with_entries days list = entries days ++ drop (4 * length days) list

-- how many bytes are copied to the front of others: all, or none where there is no room for all
unfoldable pub copied_count : List ℕ → List ℕ → ℕ
copied_count bytes others = cond (leb (length bytes) (length others)) (length bytes) 0

-- the day of entry k's bytes
unfoldable pub entry_day : List ℕ → ℕ → ℕ
entry_day list k =
    get_or list (4 * k) 0 + 256 * get_or list (4 * k + 1) 0 + 65536 * get_or list (4 * k + 2) 0 + 16777216 * get_or list (4 * k + 3) 0

-- the day of entry k, or refusal 2 where the list has no such entry
unfoldable pub entry_at : List ℕ → ℕ → Result ℕ Refusal
entry_at list k = cond (ltb k (capacity list)) (Ok (entry_day list k)) (Err OutOfRange)

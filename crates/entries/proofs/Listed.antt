-- The days of a list's entries: one by one, as an entry that is read says, and as many as were written. Assumes
-- nothing.
use Prim.Native.Nat.{ℕ, zero, suc, ◌+◌, ◌-◌, ◌≤◌, ◌<◌}
use mathlib.Core.Path.{◌≡◌, refl, ap, ap₂, sym, ◌∙◌}
use mathlib.Core.List.{List, [], ◌∷◌, ◌++◌, append-nil}
use native.Mathlib.Decide.{dec_le}
use native.Mathlib.Numerals.{add-one}
use native.Mathlib.Omega.{arith}
use borrow.Author.Tests.{lt-ltb, le-ltb}
use lib.ListN.{length, get_or, drop, drop_of_length-le}
use lib.Seq.{drop-length, drop-cons}
use Rattle.std.specs.Prelude.{Ok, Err}
use Rattle.days.specs.declared.refusal.Refusal.{Refusal}
use Rattle.days.specs.Refusals.{number_or_zero}
use Rattle.days.specs.Days.{last_day}
use Rattle.entries.specs.Entries.{entries, capacity, with_entries, entry_day, entry_at}
use Rattle.entries.specs.Listed.{entry_days, listed_from, EachDay}
use Rattle.entries.proofs.Laws.{entries-length, entries-read}

pub no-days : (list : List ℕ) (k : ℕ) → entry_days list k 0 ≡ []
unfolding entry_days
no-days list k = refl

pub more-days : (list : List ℕ) (k n : ℕ) → entry_days list k (suc n) ≡ number_or_zero (entry_at list k) ∷ entry_days list (suc k) n
unfolding entry_days
more-days list k n = refl

pub days-length : (list : List ℕ) (k n : ℕ) → length (entry_days list k n) ≡ n
days-length list k zero = ap length (no-days list k)
days-length list k (suc n) = ap length (more-days list k n) ∙ ap suc (days-length list (suc k) n)

-- the entry due, or none
pub no-entry : (list : List ℕ) (k : ℕ) → capacity list ≤ k → listed_from list k ≡ []
unfolding entry_days
no-entry list k h = let none : capacity list - k ≡ 0 = omega arith in rw none

pub some-entry : (list : List ℕ) (k : ℕ) → k < capacity list → listed_from list k ≡ entry_day list k ∷ listed_from list (k + 1)
unfolding entry_days entry_at number_or_zero
some-entry list k h =
    let more : capacity list - k ≡ suc (capacity list - (k + 1)) = omega arith in
    rw (more, lt-ltb k (capacity list) h, add-one)

-- what an entry that is read says: it is there, and is its day
pub record Entry (list : List ℕ) (k : ℕ) (day : ℕ) : Type 0 where
  pub there : k < capacity list
  pub day-is : day ≡ entry_day list k

pub entry-read : (list : List ℕ) (k : ℕ) {day : ℕ} → Ok day ≡ entry_at list k → Entry list k day
unfolding entry_at
entry-read list k {day} e = go (dec_le (capacity list) k)
  where
    go : Dec (capacity list ≤ k) → Entry list k day
    go (no h) = let t = lt-ltb k (capacity list) (omega arith) in record { there = omega arith; day-is = (cc) }
    go (yes h) = let t = le-ltb k (capacity list) h in absurd (cc)

-- and that there is none
pub none-there : (list : List ℕ) (k : ℕ) {r : Refusal} → Err r ≡ entry_at list k → capacity list ≤ k
unfolding entry_at
none-there list k {r} e = go (dec_le (capacity list) k)
  where
    go : Dec (capacity list ≤ k) → capacity list ≤ k
    go (yes h) = h
    go (no h) = let t = lt-ltb k (capacity list) (omega arith) in absurd (cc)

-- of the days due
pub due-none : (list : List ℕ) (k : ℕ) {r : Refusal} → Err r ≡ entry_at list k → listed_from list k ≡ []
due-none list k e = no-entry list k (none-there list k e)

pub record Due (list : List ℕ) (k : ℕ) (due : ℕ) : Type 0 where
  pub there : k < capacity list
  pub listed : listed_from list k ≡ due ∷ listed_from list (k + 1)

pub due-some : (list : List ℕ) (k : ℕ) {due : ℕ} → Ok due ≡ entry_at list k → Due list k due
due-some list k e = let d = entry-read list k e in record { there = d.there; listed = rw d.day-is (some-entry list k d.there) }

-- a list of days' entries and nothing else has these days
each_at : (ds : List ℕ) (k : ℕ) → EachDay ds → k < length ds → get_or ds k 0 ≤ last_day
unfolding EachDay
each_at [] k all h = absurd (omega arith)
each_at (d ∷ ds) zero all h = all.0
each_at (d ∷ ds) (suc k) all h = each_at ds k all.1 (omega arith)

module _ (ds : List ℕ) (all : EachDay ds) where
  entry-is : (k : ℕ) → k < length ds → number_or_zero (entry_at (entries ds) k) ≡ get_or ds k 0
  unfolding number_or_zero
  entry-is k h =
      let whole : with_entries ds (entries ds) ≡ entries ds =
      ap (λ (l : List ℕ). entries ds ++ l) (ap (λ (n : ℕ). drop n (entries ds)) (sym (entries-length ds)) ∙ drop-length (entries ds)) ∙ append-nil (entries ds) in
      ap number_or_zero
      (ap (λ (l : List ℕ). entry_at l k) (sym whole)
      ∙ entries-read ds (entries ds) k (omega (arith, entries-length ds)) h (omega (arith, each_at ds k all h)))

  days-are : (n k : ℕ) → k + n ≡ length ds → entry_days (entries ds) k n ≡ drop k ds
  days-are zero k e = no-days (entries ds) k ∙ sym (drop_of_length-le ds {i = k} (omega arith))
  days-are (suc n) k e =
      more-days (entries ds) k n
      ∙ ap₂ (λ (d : ℕ) (l : List ℕ). d ∷ l) (entry-is k (omega arith)) (days-are n (suc k) (omega arith))
      ∙ sym (drop-cons ds k 0 (omega arith))

  pub listed-entries : listed_from (entries ds) 0 ≡ ds
  listed-entries = days-are (capacity (entries ds) - 0) 0 (omega (arith, entries-length ds))

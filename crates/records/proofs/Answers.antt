-- The answers case by case: another edition, a day out of range, and else the records; and the test over all records,
-- day by day.
-- Assumes nothing.
use mathlib.Core.Path.{◌≡◌, refl, ◌∙◌}
use mathlib.Core.Bool.{Bool, true, false, ◌&&◌}
use mathlib.Core.List.{List, map}
use Prim.Native.Nat.{ℕ, ◌≤◌, ◌<◌}
use native.Mathlib.Omega.{arith}
use lib.Dec.{leb}
use lib.ListN.{length, get_or}
use borrow.Author.Tests.{le-leb, lt-leb, leb-true}
use Rattle.std.specs.List.{list_all}
use Rattle.std.proofs.lemmas.List.Recursion.{same_from_clauses, and_at, and_fails_at}
use Rattle.std.specs.Prelude.{Ok, Err}
use Rattle.days.specs.declared.refusal.Refusal.TheVariants.{OutOfRange, BadEdition}
use Rattle.days.specs.Days.{last_day, pair_at, weekday_on}
use Rattle.days.proofs.Laws.{pair-in-range}
use Rattle.days.specs.declared.Day.{Day}
use Rattle.longitudes.specs.Longitudes.{longitudes_at}
use Rattle.longitudes.proofs.Table.{nine-at}
use Rattle.panchanga.specs.declared.Panchanga.{Panchanga}
use Rattle.panchanga.specs.TrueLongitudes.{is_edition}
use Rattle.panchanga.specs.OnDays.{panchanga_at, panchanga_by}
use Rattle.panchanga.proofs.Answers.{Accepted, answered, elements-by-means}
use Rattle.records.specs.declared.DayRecord.{DayRecord}
use Rattle.records.specs.Records.{record_on, record_of, all_days, fill_refusal, filled_after}

-- what a record becomes
abbrev pub filling : ℕ → DayRecord → DayRecord
filling e x = record_on e x.day

-- ---- a day's record by its mean longitudes and their elements
pub elements-found : (e n : ℕ) → is_edition e ≡ true → n ≤ last_day → {ls : List ℕ} → ls ≡ longitudes_at (pair_at n) → panchanga_by e (get_or ls 0 0) (get_or ls 1 0) (get_or ls 2 0) ≡ Ok (panchanga_at e (pair_at n))
elements-found e n b h nine =
    let d : Day = pair_at n in
    let accepted : Accepted e d = record { edition = b; range = pair-in-range n h } in
    rw (nine, nine-at 0 d (omega arith), nine-at 1 d (omega arith), nine-at 2 d (omega arith)) (elements-by-means e d accepted ∙ answered panchanga_at e d accepted)

pub record-found :
    (e n : ℕ) {ls : List ℕ} {p : Panchanga} →
    ls ≡ longitudes_at (pair_at n) →
    p ≡ panchanga_at e (pair_at n) →
    record { day = n; weekday = weekday_on n; longitudes = ls; sun = p.sun; moon = p.moon; tithi = p.tithi; nakshatra = p.nakshatra; yoga = p.yoga; karana = p.karana } ≡ record_on e n
unfolding record_on
record-found e n nine elements = rw (nine, elements)

-- ---- the single call
module _ (e n : ℕ) where
  pub record-bad-edition : is_edition e ≡ false → record_of e n ≡ Err BadEdition
  unfolding record_of
  record-bad-edition b = rw b

  pub record-out-of-range : is_edition e ≡ true → last_day < n → record_of e n ≡ Err OutOfRange
  unfolding record_of
  record-out-of-range b l = rw (b, lt-leb n last_day l)

  pub record-given : is_edition e ≡ true → n ≤ last_day → record_of e n ≡ Ok (record_on e n)
  unfolding record_of
  record-given b l = rw (b, le-leb n last_day l)

-- ---- records filled together
module _ (e : ℕ) (xs : List DayRecord) where
  pub fill-bad-edition : is_edition e ≡ false → (14 ≡ fill_refusal e xs) × (xs ≡ filled_after e xs)
  unfolding fill_refusal filled_after
  fill-bad-edition b = rw b (refl, refl)

  pub fill-out-of-range : is_edition e ≡ true → all_days xs ≡ false → (2 ≡ fill_refusal e xs) × (xs ≡ filled_after e xs)
  unfolding fill_refusal filled_after
  fill-out-of-range b out = rw (b, out) (refl, refl)

  pub fill-given : is_edition e ≡ true → all_days xs ≡ true → (0 ≡ fill_refusal e xs) × (map (filling e) xs ≡ filled_after e xs)
  unfolding fill_refusal filled_after
  fill-given b all = rw (b, all) (refl, refl)

-- the test over all records: one that is out of range, each where all are in range, and std's word for it
pub some_out : (xs : List DayRecord) (k : ℕ) (d : DayRecord) → k < length xs → last_day < (get_or xs k d).day → all_days xs ≡ false
unfolding all_days
some_out xs k d l h = and_fails_at all_days (λ (x : DayRecord). leb x.day last_day) refl (λ _ _. refl) xs k d l (lt-leb _ _ h)

pub in_all : (xs : List DayRecord) (k : ℕ) (d : DayRecord) → k < length xs → all_days xs ≡ true → (get_or xs k d).day ≤ last_day
unfolding all_days
in_all xs k d l a = leb-true _ _ (and_at all_days (λ (x : DayRecord). leb x.day last_day) refl (λ _ _. refl) xs k d l a)

pub all-is : (xs : List DayRecord) → all_days xs ≡ list_all (λ (x : DayRecord). leb x.day last_day) xs
unfolding all_days
all-is xs =
    same_from_clauses all_days (list_all (λ (x : DayRecord). leb x.day last_day)) (λ (x : DayRecord) (b : Bool). leb x.day last_day && b) refl (λ _ _. refl) (λ _ _. refl) xs

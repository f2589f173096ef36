-- What paper 02 asks of records filled together: each ends as the single call leaves it, whichever stand beside it; its
-- day stays; with a refusal none is touched; and a month is thirty records filled together.
-- Assumes nothing.
use mathlib.Core.Path.{◌≡◌, refl, sym, ap, ◌∙◌}
use mathlib.Core.Bool.{Bool, true, false, cond}
use mathlib.Core.List.{List, [], ◌∷◌, map}
use Prim.Native.Nat.{ℕ, zero, suc, ◌+◌, ◌≤◌, ◌<◌}
use native.Mathlib.Nat.{not-suc-le-zero, le_of_suc-le-suc}
use native.Mathlib.Omega.{arith}
use lib.Dec.{leb}
use lib.ListN.{length, get_or}
use borrow.Author.Tests.{leb-true, leb-false}
use Rattle.std.specs.Prelude.{Ok, Err}
use Rattle.days.specs.declared.refusal.Refusal.TheVariants.{OutOfRange, BadEdition}
use Rattle.days.specs.Refusals.{result_number}
use Rattle.days.specs.Days.{last_day, days_from}
use Rattle.panchanga.specs.TrueLongitudes.{is_edition}
use Rattle.records.specs.declared.DayRecord.{DayRecord}
use Rattle.records.specs.Records.{record_on, unfilled_on, no_record, record_of, all_days, fill_refusal, filled_after, month_of}
use Rattle.records.proofs.Answers.{filling, record-given, fill-bad-edition, fill-out-of-range, fill-given, some_out, in_all}
use Rattle.records.proofs.Thirty.{thirty-long, thirty-at, month-bad-edition, month-out-of-range, month-given, thirty-in}

filled_at : (e : ℕ) (xs : List DayRecord) (k : ℕ) → k < length xs → get_or (map (filling e) xs) k no_record ≡ record_on e (get_or xs k no_record).day
filled_at e [] k h = absurd (not-suc-le-zero h)
filled_at e (x ∷ xs) zero h = refl
filled_at e (x ∷ xs) (suc k) h = filled_at e xs k (le_of_suc-le-suc h)

-- a refusal of 0 is given for an edition and days in range alone
record Fine (e : ℕ) (xs : List DayRecord) : Type 0 where
  edition : is_edition e ≡ true
  days : all_days xs ≡ true

fine : (e : ℕ) (xs : List DayRecord) → fill_refusal e xs ≡ 0 → Fine e xs
fine e xs z = go (is_edition e) refl
  where
    within : is_edition e ≡ true → (t : Bool) → all_days xs ≡ t → Fine e xs
    within b true a = record { edition = b; days = a }
    within b false a = absurd (omega (arith, (fill-out-of-range e xs b a).0, z))

    go : (t : Bool) → is_edition e ≡ t → Fine e xs
    go true b = within b (all_days xs) refl
    go false b = absurd (omega (arith, (fill-bad-edition e xs b).0, z))

module _ (e : ℕ) (xs : List DayRecord) where
  -- each record ends as the single call leaves it
  pub as-single : fill_refusal e xs ≡ 0 → (k : ℕ) → k < length xs → record_of e (get_or xs k no_record).day ≡ Ok (get_or (filled_after e xs) k no_record)
  as-single z k h =
      let f = fine e xs z in
      record-given e _ f.edition (in_all xs k no_record h f.days)
      ∙ ap Ok (sym (filled_at e xs k h) ∙ ap (λ (ys : List DayRecord). get_or ys k no_record) (fill-given e xs f.edition f.days).1)

  -- with a refusal no record is touched
  pub untouched : (fill_refusal e xs ≡ 0 → ⊥) → filled_after e xs ≡ xs
  untouched z = go (is_edition e) refl
    where
      within : is_edition e ≡ true → (t : Bool) → all_days xs ≡ t → filled_after e xs ≡ xs
      within b true a = absurd (z (sym (fill-given e xs b a).0))
      within b false a = sym (fill-out-of-range e xs b a).1

      go : (t : Bool) → is_edition e ≡ t → filled_after e xs ≡ xs
      go true b = within b (all_days xs) refl
      go false b = sym (fill-bad-edition e xs b).1

module _ (e n : ℕ) where
  -- a month is refused as its thirty records would be
  pub month-refusal : result_number (month_of e n) ≡ fill_refusal e (map unfilled_on (days_from n 30))
  unfolding result_number
  month-refusal = go (is_edition e) refl
    where
      xs : List DayRecord
      xs = map unfilled_on (days_from n 30)

      within : is_edition e ≡ true → (t : Bool) → leb (n + 29) last_day ≡ t → result_number (month_of e n) ≡ fill_refusal e xs
      within b true h = let l = leb-true (n + 29) last_day h in ap result_number (month-given e n b l) ∙ (fill-given e xs b (thirty-in n l)).0
      within b false h =
          let l = leb-false (n + 29) last_day h in
          ap result_number (month-out-of-range e n b l) ∙ (fill-out-of-range e xs b (some_out xs 29 no_record (omega (arith, thirty-long unfilled_on n)) (rw (thirty-at unfilled_on n 29 no_record (omega arith)) l))).0

      go : (t : Bool) → is_edition e ≡ t → result_number (month_of e n) ≡ fill_refusal e xs
      go true b = within b (leb (n + 29) last_day) refl
      go false b = ap result_number (month-bad-edition e n b) ∙ (fill-bad-edition e xs b).0

  module _ {m : List DayRecord} (given : Ok m ≡ month_of e n) where
    pub month-long : length m ≡ 30
    unfolding month_of
    month-long = go (is_edition e) (leb (n + 29) last_day) given
      where
        go : (s t : Bool) → Ok m ≡ cond s (cond t (Ok (map (record_on e) (days_from n 30))) (Err OutOfRange)) (Err BadEdition) → length m ≡ 30
        go true true g = let i : m ≡ map (record_on e) (days_from n 30) = cc in ap length i ∙ thirty-long (record_on e) n
        go true false g = absurd cc
        go false t g = absurd cc

    all-fine : Fine e (map unfilled_on (days_from n 30))
    unfolding result_number
    all-fine = fine e _ (sym month-refusal ∙ ap result_number (sym given))

    -- its days are in range
    pub month-days : n + 29 ≤ last_day
    month-days =
        let last = thirty-at unfilled_on n 29 no_record (omega arith) in
        omega (arith, ap (λ (r : DayRecord). r.day) last, in_all _ 29 no_record (omega (arith, thirty-long unfilled_on n)) all-fine.days)

    -- record k of it is that of the day k days behind the first
    pub month-record : (k : ℕ) (d : DayRecord) → k < 30 → get_or m k d ≡ record_on e (n + k)
    month-record k d h =
        let i : m ≡ map (record_on e) (days_from n 30) = cc (month-given e n all-fine.edition month-days) in
        rw i (thirty-at (record_on e) n k d h)

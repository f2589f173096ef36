-- The last entry not after a day, in a list that holds the month starts of a run of days: those behind the day are
-- passed, by induction on them, and the next one is the latest of the others.
-- Assumes nothing.
use mathlib.Core.Bool.{Bool, true, false, cond}
use mathlib.Core.List.{List, [], ◌∷◌, ◌++◌}
use mathlib.Core.Path.{◌≡◌, refl, sym, ap, ◌∙◌}
use Prim.Native.Nat.{ℕ, zero, suc, ◌+◌, ◌-◌, ◌≤◌, ◌<◌}
use native.Mathlib.Decide.{dec_le}
use native.Mathlib.Omega.{arith}
use lib.Dec.{leb}
use lib.ListN.{length, get_or, length-append, get_or-append}
use lib.Seq.{get_or-append-add}
use borrow.Author.Tests.{leb-true}
use Rattle.days.specs.Days.{last_day, days_from}
use Rattle.entries.specs.Entries.{capacity, entry_day, with_entries}
use Rattle.entries.proofs.Laws.{with-entries-length, entries-read}
use Rattle.entries.proofs.Lists.{listed, has-at, days-join, filtered-join}
use Rattle.std.specs.Prelude.{Option, None, Ok, Err}
use Rattle.std.specs.Option.{IfSome}
use Rattle.days.specs.declared.refusal.Refusal.TheVariants.{OutOfRange, BadEdition}
use Rattle.lunar_months.specs.declared.MonthStart.{MonthStart}
use Rattle.lunar_months.specs.MonthStarts.{starts_month, month_starts, latest_or, start_on, latest_of, month_on}
use Rattle.lunar_months.specs.Rows.{last_entry}
use Rattle.panchanga.specs.TrueLongitudes.{is_edition}
use Rattle.lunar_months.proofs.Finding.{starts-few}
use Rattle.lunar_months.proofs.Latest.{from-epoch, entry_read, entry_here, entry-after, no-entry}

-- the month starts of two runs of days, one behind the other
pub starts-join : (e n a b : ℕ) → month_starts e n (a + b) ≡ month_starts e n a ++ month_starts e (n + a) b
unfolding month_starts
starts-join e n a b = rw (days-join n a b) (filtered-join (starts_month e) (days_from n a) (days_from (n + a) b))

-- each is one of the days
start-day : (e n m i : ℕ) → i < length (month_starts e n m) → (n ≤ get_or (month_starts e n m) i 0) × (get_or (month_starts e n m) i 0 < n + m)
unfolding month_starts
start-day e n m i h = let l = listed (starts_month e) _ n m (has-at i _ h) in (l.0, l.1)

-- the latest of a list stands at its end
latest-end : (x : ℕ) (xs : List ℕ) → latest_or x xs ≡ get_or (x ∷ xs) (length xs) 0
unfolding latest_or
latest-end x [] = refl
latest-end x (y ∷ ys) = latest-end y ys

latest-at : (xs : List ℕ) → 0 < length xs → latest_of xs ≡ start_on (get_or xs (length xs - 1) 0) (length xs)
unfolding latest_of
latest-at [] h = absurd (omega arith)
latest-at (x ∷ xs) h =
    let last : length xs ≡ length (x ∷ xs) - 1 = omega arith in
    ap (λ (d : ℕ). start_on d (length (x ∷ xs))) (latest-end x xs ∙ ap (λ (i : ℕ). get_or (x ∷ xs) i 0) last)

latest-empty : (xs : List ℕ) → length xs ≤ 0 → latest_of xs ≡ None
unfolding latest_of
latest-empty [] h = refl
latest-empty (x ∷ xs) h = absurd (omega arith)

-- of entries that are the days of two lists, where those of the first are not after a day and those of the second are,
-- the last that is not after it is the latest of the first
module _
    (made xs ys : List ℕ)
    (d : ℕ)
    (read : (i : ℕ) → i < length xs + length ys → entry_day made i ≡ get_or (xs ++ ys) i 0)
    (early : (i : ℕ) → i < length xs → get_or xs i 0 ≤ d)
    (late : (i : ℕ) → i < length ys → d < get_or ys i 0) where
  passed : (j : ℕ) → j ≤ length ys → last_entry made d (length xs + j) ≡ last_entry made d (length xs)
  passed zero k = ap (last_entry made d) (omega arith)
  passed (suc j) k =
      let at : length xs + suc j - 1 ≡ length xs + j = omega arith in
      let day : entry_day made (length xs + suc j - 1) ≡ get_or ys j 0 = ap (entry_day made) at ∙ read (length xs + j) (omega arith) ∙ get_or-append-add xs ys j 0 in
      entry-after made d (length xs + suc j) (omega arith) (omega (arith, day, late j (omega arith))) ∙ ap (last_entry made d) at ∙ passed j (omega arith)

  in-front : 0 < length xs → last_entry made d (length xs) ≡ latest_of xs
  in-front some =
      let i : length xs - 1 < length xs = omega arith in
      let day : entry_day made (length xs - 1) ≡ get_or xs (length xs - 1) 0 = read (length xs - 1) (omega arith) ∙ get_or-append xs ys 0 (length xs - 1) i in
      entry_here made d (length xs) some (omega (arith, day, early (length xs - 1) i)) ∙ ap (λ (s : ℕ). start_on s (length xs)) day ∙ sym (latest-at xs some)

  cut-there : last_entry made d (length xs + length ys) ≡ latest_of xs
  cut-there = passed (length ys) (omega arith) ∙ go (dec_le 1 (length xs))
    where
      go : Dec (1 ≤ length xs) → last_entry made d (length xs) ≡ latest_of xs
      go (yes k) = in-front k
      go (no k) = no-entry made d (length xs) (omega arith) ∙ sym (latest-empty xs (omega arith))

-- the entries of a row that covers c days
module _ (e c : ℕ) (list : List ℕ) (low : c ≤ last_day + 1) (fits : length (month_starts e 0 c) ≤ capacity list) where
  entry-made : (i : ℕ) → i < length (month_starts e 0 c) → entry_day (with_entries (month_starts e 0 c) list) i ≡ get_or (month_starts e 0 c) i 0
  entry-made i h =
      sym
      (entry_read (with_entries (month_starts e 0 c) list) i (omega (arith, with-entries-length (month_starts e 0 c) list fits))
      (sym (entries-read (month_starts e 0 c) list i fits h (omega (arith, (start-day e 0 c i h).1)))))

  pub on-made : (d : ℕ) → d < c → last_entry (with_entries (month_starts e 0 c) list) d (length (month_starts e 0 c)) ≡ latest_of (month_starts e 0 (d + 1))
  on-made d h =
      let m = c - (d + 1) in
      let all : c ≡ d + 1 + (c - (d + 1)) = omega arith in
      let from : 0 + (d + 1) ≡ d + 1 = omega arith in
      let cut : month_starts e 0 c ≡ month_starts e 0 (d + 1) ++ month_starts e (d + 1) m = ap (month_starts e 0) all ∙ starts-join e 0 (d + 1) m ∙ ap (λ (k : ℕ). month_starts e 0 (d + 1) ++ month_starts e k m) from in
      let parts : length (month_starts e 0 c) ≡ length (month_starts e 0 (d + 1)) + length (month_starts e (d + 1) m) = ap length cut ∙ length-append (month_starts e 0 (d + 1)) _ in
      ap (last_entry (with_entries (month_starts e 0 c) list) d) parts
      ∙ cut-there _ (month_starts e 0 (d + 1)) (month_starts e (d + 1) m) d
      (λ i k. entry-made i (omega (arith, parts)) ∙ ap (λ (l : List ℕ). get_or l i 0) cut)
      (λ i k. omega (arith, (start-day e 0 (d + 1) i k).1))
      (λ i k. omega (arith, (start-day e (d + 1) m i k).0))

-- what is told of a day's month: the day is one, the latest start is not after it, and there are no more starts than
-- days behind day 0
pub record Told (n : ℕ) (month : Option MonthStart) : Type 0 where
  pub day : n ≤ last_day
  pub start : IfSome month (λ s. s.day ≤ n)
  pub number : IfSome month (λ s. s.number ≤ n)

latest-low : (b : ℕ) (xs : List ℕ) → ((i : ℕ) → i < length xs → get_or xs i 0 ≤ b) → IfSome (latest_of xs) (λ s. s.day ≤ b)
unfolding latest_of
latest-low b [] h = tt
latest-low b (x ∷ xs) h = omega (arith, latest-end x xs, h (length xs) (omega arith))

latest-count : (b : ℕ) (xs : List ℕ) → length xs ≤ b → IfSome (latest_of xs) (λ s. s.number ≤ b)
unfolding latest_of
latest-count b [] h = tt
latest-count b (x ∷ xs) h = h

pub month-told : (e n : ℕ) {month : Option MonthStart} → Ok month ≡ month_on e n → Told n month
unfolding month_on
month-told e n {month} h = go (is_edition e) (leb n last_day) refl h
  where
    starts : List ℕ
    starts = month_starts e 0 (n + 1)

    few : length starts ≤ n
    few = omega (arith, ap length (from-epoch e n), starts-few e 1 n)

    told : n ≤ last_day → Told n (latest_of starts)
    told d =
        record {
          day = d;
          start = latest-low n starts (λ i l. omega (arith, (start-day e 0 (n + 1) i l).1));
          number = latest-count n starts few;
        }

    go : (t u : Bool) → leb n last_day ≡ u → Ok month ≡ cond t (cond u (Ok (latest_of starts)) (Err OutOfRange)) (Err BadEdition) → Told n month
    go true true eu k = let m : month ≡ latest_of starts = cc in rw m (told (leb-true _ _ eu))
    go true false eu k = absurd cc
    go false u eu k = absurd cc

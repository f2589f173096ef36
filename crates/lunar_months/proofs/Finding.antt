-- The loop that finds month starts: what is left to find, put behind what is found, gives what is meant; by the clauses
-- of the filter.
-- Assumes nothing.
use mathlib.Core.Bool.{true, false}
use mathlib.Core.List.{List, [], ◌∷◌}
use mathlib.Core.Path.{◌≡◌, refl, sym, ap, ap₂, ◌∙◌}
use Prim.Native.Nat.{ℕ, suc, ◌+◌, ◌-◌, ◌≤◌, ◌<◌}
use native.Mathlib.Omega.{arith}
use lib.ListN.{length}
use borrow.Author.Tests.{ne_eqb, lt-ltb, le-ltb}
use Rattle.days.specs.Days.{days_from}
use Rattle.entries.specs.Entries.{with_entry, with_entries_from}
use Rattle.entries.specs.Runs.{filtered}
use Rattle.entries.proofs.Laws.{with-entry-length}
use Rattle.entries.proofs.Filter.{filtered-in, filtered-out, filtered-nil, filtered-short}
use Rattle.lunar_months.specs.MonthStarts.{tithi_on, starts_month, month_starts, latest_or}
use Rattle.lunar_months.specs.Parts.{Counted}

-- what the two tithis say of a day
module _ (e day before tithi : ℕ) (some : 1 ≤ day) (kept : before ≡ tithi_on e (day - 1)) (found : tithi ≡ tithi_on e day) where
  starts : tithi < before → starts_month e day ≡ true
  unfolding starts_month
  starts h = let k : tithi_on e day < tithi_on e (day - 1) = omega arith in rw (ne_eqb day 0 (λ z. omega arith), lt-ltb _ _ k)

  goes_on : before ≤ tithi → starts_month e day ≡ false
  unfolding starts_month
  goes_on h = let k : tithi_on e (day - 1) ≤ tithi_on e day = omega arith in rw (ne_eqb day 0 (λ z. omega arith), le-ltb _ _ k)

-- the month starts from a day on, by its first day
module _ (e end day : ℕ) (h : day < end) where
  run : days_from day (end - day) ≡ day ∷ days_from (day + 1) (end - (day + 1))
  unfolding days_from
  run =
      let more : end - day ≡ suc (end - (day + 1)) = omega arith in
      let next : suc day ≡ day + 1 = omega arith in
      ap (days_from day) more ∙ ap (λ (d : ℕ). day ∷ days_from d (end - (day + 1))) next

  pub left_in : starts_month e day ≡ true → month_starts e day (end - day) ≡ day ∷ month_starts e (day + 1) (end - (day + 1))
  unfolding month_starts
  left_in t = rw run (filtered-in (starts_month e) day _ t)

  pub left_out : starts_month e day ≡ false → month_starts e day (end - day) ≡ month_starts e (day + 1) (end - (day + 1))
  unfolding month_starts
  left_out t = rw run (filtered-out (starts_month e) day _ t)

-- each day is one month start at most
pub starts-few : (e day n : ℕ) → length (month_starts e day n) ≤ n
unfolding month_starts
starts-few e day n = filtered-short (starts_month e) day n

-- the days before `day` are gone over, and `count` month starts found
pub record Finding (e covered n first : ℕ) (list₀ list : List ℕ) (before count latest day : ℕ) : Type 0 where
  pub from : covered ≤ day
  pub to : day ≤ covered + n
  pub few : covered + count ≤ day
  pub kept : before ≡ tithi_on e (day - 1)
  pub size : length list ≡ length list₀
  pub counted : count + length (month_starts e day (covered + n - day)) ≡ length (month_starts e covered n)
  pub last : latest_or latest (month_starts e day (covered + n - day)) ≡ latest_or 0 (month_starts e covered n)
  pub put : with_entries_from list (first + count) (month_starts e day (covered + n - day)) ≡ with_entries_from list₀ first (month_starts e covered n)

module _ (e covered n first : ℕ) (list₀ : List ℕ) where
  pub finding-start : (before : ℕ) → before ≡ tithi_on e (covered - 1) → Finding e covered n first list₀ list₀ before 0 0 covered
  finding-start before k =
      let all : covered + n - covered ≡ n = omega arith in
      record {
        from = omega arith;
        to = omega arith;
        few = omega arith;
        kept = k;
        size = refl;
        counted = omega (arith, ap (λ (m : ℕ). length (month_starts e covered m)) all);
        last = ap (λ (m : ℕ). latest_or 0 (month_starts e covered m)) all;
        put = ap₂ (λ (i m : ℕ). with_entries_from list₀ i (month_starts e covered m)) (omega arith) all;
      }

  module _ (list : List ℕ) (before count latest day tithi : ℕ) (f : Finding e covered n first list₀ list before count latest day) (some : 1 ≤ covered) (h : day < covered + n) (found : tithi ≡ tithi_on e day) where
    last-kept : tithi ≡ tithi_on e (day + 1 - 1)
    last-kept = let d : day + 1 - 1 ≡ day = omega arith in rw d found

    pub finding-one : (list' : List ℕ) → tithi < before → list' ≡ with_entry list (first + count) day → Finding e covered n first list₀ list' tithi (count + 1) day (day + 1)
    unfolding with_entries_from latest_or
    finding-one list' t w =
        let l = left_in e (covered + n) day h (starts e day before tithi (omega (arith, f.from)) f.kept found t) in
        let next : first + (count + 1) ≡ first + count + 1 = omega arith in
        record {
          from = omega (arith, f.from);
          to = omega arith;
          few = omega (arith, f.few);
          kept = last-kept;
          size = ap length w ∙ with-entry-length list (first + count) day ∙ f.size;
          counted = omega (arith, f.counted, ap length l);
          last = sym (ap (latest_or latest) l) ∙ f.last;
          put = rw (next, w) (sym (ap (with_entries_from list (first + count)) l) ∙ f.put);
        }

    pub finding-none : before ≤ tithi → Finding e covered n first list₀ list tithi count latest (day + 1)
    finding-none t =
        let l = left_out e (covered + n) day h (goes_on e day before tithi (omega (arith, f.from)) f.kept found t) in
        record {
          from = omega (arith, f.from);
          to = omega arith;
          few = omega (arith, f.few);
          kept = last-kept;
          size = f.size;
          counted = ap (λ (s : List ℕ). count + length s) (sym l) ∙ f.counted;
          last = ap (latest_or latest) (sym l) ∙ f.last;
          put = ap (with_entries_from list (first + count)) (sym l) ∙ f.put;
        }

  -- nothing is left
  module _ (list : List ℕ) (before count latest day : ℕ) (f : Finding e covered n first list₀ list before count latest day) (h : covered + n ≤ day) where
    none_left : month_starts e day (covered + n - day) ≡ []
    unfolding month_starts days_from
    none_left = let none : covered + n - day ≡ 0 = omega arith in ap (λ (m : ℕ). filtered (starts_month e) (days_from day m)) none ∙ filtered-nil (starts_month e)

    pub finding-counted : Counted (month_starts e covered n) (record { count = count; latest = latest })
    unfolding latest_or
    finding-counted =
        record {
          count = omega (arith, f.counted, ap length none_left);
          latest = ap (latest_or latest) (sym none_left) ∙ f.last;
        }

    pub finding-put : list ≡ with_entries_from list₀ first (month_starts e covered n)
    unfolding with_entries_from
    finding-put = ap (with_entries_from list (first + count)) (sym none_left) ∙ f.put

-- The latest of some month starts: of a list of days, and of a row's entries from the end on.
-- Assumes nothing.
use mathlib.Core.Bool.{Bool, true, false, cond}
use mathlib.Core.List.{List, [], ◌∷◌}
use mathlib.Core.Path.{◌≡◌, refl, sym, ap, ap₂, ◌∙◌}
use Prim.Native.Nat.{ℕ, zero, suc, ◌+◌, ◌-◌, ◌*◌, ◌≤◌, ◌<◌}
use native.Mathlib.Omega.{arith}
use lib.Dec.{leb}
use lib.ListN.{length, get_or}
use borrow.Author.Tests.{lt-ltb, le-leb, lt-leb}
use Rattle.std.specs.Prelude.{None, Ok}
use Rattle.days.specs.Days.{days_from}
use Rattle.entries.specs.Entries.{capacity, entry_day, entry_at}
use Rattle.entries.proofs.Filter.{filtered-out}
use Rattle.lunar_months.specs.declared.Added.{Added}
use Rattle.lunar_months.specs.MonthStarts.{starts_month, month_starts, latest_or, start_on, latest_of}
use Rattle.lunar_months.specs.Numbers.{month_numbers}
use Rattle.lunar_months.specs.Rows.{last_entry}
use Rattle.lunar_months.specs.Parts.{Counted}

-- day 0 is none
pub from-epoch : (e n : ℕ) → month_starts e 0 (n + 1) ≡ month_starts e 1 n
unfolding month_starts days_from starts_month
from-epoch e n =
    let more : n + 1 ≡ suc n = omega arith in
    ap (month_starts e 0) more ∙ filtered-out (starts_month e) 0 (days_from 1 n) refl

-- what is counted of a list of days tells its latest
module _ (ds : List ℕ) (added : Added) (c : Counted ds added) where
  pub latest-none : added.count ≡ 0 → latest_of ds ≡ None
  unfolding latest_of
  latest-none h = go ds (sym c.count ∙ h)
    where
      go : (xs : List ℕ) → length xs ≡ 0 → latest_of xs ≡ None
      go [] z = refl
      go (x ∷ xs) z = absurd (omega arith)

  pub latest-start : (added.count ≡ 0 → ⊥) → latest_of ds ≡ start_on added.latest added.count
  unfolding latest_of latest_or
  latest-start h = go ds (λ z. h (c.count ∙ z)) ∙ ap₂ start_on (sym c.latest) (sym c.count)
    where
      go : (xs : List ℕ) → (length xs ≡ 0 → ⊥) → latest_of xs ≡ start_on (latest_or 0 xs) (length xs)
      go [] z = absurd (z refl)
      go (x ∷ xs) z = refl

-- entry k of a list that has it
pub entry_read : (list : List ℕ) (k : ℕ) {n : ℕ} → k < capacity list → Ok n ≡ entry_at list k → n ≡ entry_day list k
unfolding entry_at
entry_read list k {n} h e = let f : Ok n ≡ Ok (entry_day list k) = e ∙ rw (lt-ltb _ _ h) in cc

-- of the first k entries the last is the one, or it is after the day
module _ (list : List ℕ) (day k : ℕ) (h : 0 < k) where
  pub entry_here : entry_day list (k - 1) ≤ day → last_entry list day k ≡ start_on (entry_day list (k - 1)) k
  unfolding last_entry
  entry_here l =
      let s : k ≡ suc (k - 1) = omega arith in
      ap (last_entry list day) s ∙ rw (le-leb _ _ l) (ap (start_on (entry_day list (k - 1))) (sym s))

  pub entry-after : day < entry_day list (k - 1) → last_entry list day k ≡ last_entry list day (k - 1)
  unfolding last_entry
  entry-after l =
      let s : k ≡ suc (k - 1) = omega arith in
      ap (last_entry list day) s ∙ rw (lt-leb _ _ l)

pub no-entry : (list : List ℕ) (day k : ℕ) → k ≤ 0 → last_entry list day k ≡ None
unfolding last_entry
no-entry list day k h = let z : k ≡ 0 = omega arith in ap (last_entry list day) z

-- an entry by its four bytes
pub entry-bytes :
    (list : List ℕ) (k : ℕ) →
    entry_day (get_or list (4 * k) 0 ∷ get_or list (4 * k + 1) 0 ∷ get_or list (4 * k + 2) 0 ∷ get_or list (4 * k + 3) 0 ∷ []) 0
    ≡ entry_day list k
unfolding entry_day
entry-bytes list k = refl

-- of the row's entries `number` are left, and those behind them are after the day
pub record Looking (list : List ℕ) (starts day number : ℕ) : Type 0 where
  pub most : number ≤ starts
  pub meant : last_entry list day number ≡ last_entry list day starts

module _ (list : List ℕ) (starts day : ℕ) where
  pub looking-start : Looking list starts day starts
  looking-start = record { most = omega arith; meant = refl }

  module _ (number : ℕ) (l : Looking list starts day number) where
    module _ (more : 0 < number) (start : ℕ) (e : start ≡ entry_day list (number - 1)) where
      pub looking-here : start ≤ day → start_on start number ≡ last_entry list day starts
      looking-here h = rw e (sym (entry_here list day number more (omega arith)) ∙ l.meant)

      pub looking-on : day < start → Looking list starts day (number - 1)
      looking-on h =
          record { most = omega (arith, l.most); meant = sym (entry-after list day number more (omega arith)) ∙ l.meant }

    pub looking-end : number ≤ 0 → None ≡ last_entry list day starts
    looking-end h = sym (no-entry list day number h) ∙ l.meant

module _ (list : List ℕ) (starts day number : ℕ) (l : Looking list starts day number) where
  -- the second of two at a turn
  module _ (more : 1 < number) (last : ℕ) (e : last ≡ entry_day list (number - 1)) (after : day < last) (before : ℕ) (f : before ≡ entry_day list (number - 2)) where
    one : Looking list starts day (number - 1)
    one = looking-on list starts day number l (omega arith) last e after

    same : number - 2 ≡ number - 1 - 1
    same = omega arith

    pub looking-before : before ≤ day → start_on before (number - 1) ≡ last_entry list day starts
    looking-before = looking-here list starts day (number - 1) one (omega arith) before (f ∙ ap (entry_day list) same)

    pub looking-two : day < before → Looking list starts day (number - 2)
    looking-two h = rw same (looking-on list starts day (number - 1) one (omega arith) before (f ∙ ap (entry_day list) same) h)

  -- the one that is left of an odd number
  module _ (few : number ≤ 1) (some : number ≡ 0 → ⊥) (first : ℕ) (e : first ≡ entry_day list 0) where
    left : number ≡ 1
    left = omega (arith, some)

    there : first ≡ entry_day list (number - 1)
    there = rw left e

    pub looking-first : first ≤ day → start_on first 1 ≡ last_entry list day starts
    looking-first h = ap (start_on first) (sym left) ∙ looking-here list starts day number l (omega (arith, left)) first there h

    pub looking-none : day < first → None ≡ last_entry list day starts
    looking-none h = looking-end list starts day (number - 1) (looking-on list starts day number l (omega (arith, left)) first there h) (omega (arith, left))

-- its place is one of them
pub last-most : (list : List ℕ) (day k : ℕ) → (month_numbers (Ok (last_entry list day k))).number ≤ k
unfolding last_entry month_numbers
last-most list day zero = omega arith
last-most list day (suc k) = go (leb (entry_day list k) day) (last-most list day k)
  where
    go :
        (t : Bool) →
        (month_numbers (Ok (last_entry list day k))).number ≤ k →
        (month_numbers (Ok (cond t (start_on (entry_day list k) (suc k)) (last_entry list day k)))).number ≤ suc k
    go true h = omega arith
    go false h = omega arith

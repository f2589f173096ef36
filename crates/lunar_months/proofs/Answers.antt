-- What is answered, case by case: an extension refused, too long for the list, or made; a question refused or answered.
-- Assumes nothing.
use mathlib.Core.Bool.{Bool, true, false, cond, ◌&&◌, false≢true}
use mathlib.Core.List.{List}
use mathlib.Core.Path.{◌≡◌, refl, sym, ap, ◌∙◌}
use Prim.Native.Nat.{ℕ, ◌+◌, ◌≤◌, ◌<◌}
use native.Mathlib.Decide.{dec_le}
use native.Mathlib.Omega.{arith}
use lib.Dec.{ltb, leb, eqb}
use lib.ListN.{length}
use borrow.Author.Tests.{eq-eqb, le-leb, lt-leb, leb-true, lt-ltb}
use Rattle.days.specs.Days.{last_day}
use Rattle.entries.specs.Entries.{capacity, with_entries_from}
use Rattle.panchanga.specs.TrueLongitudes.{is_edition}
use Rattle.lunar_months.specs.declared.Months.{Months}
use Rattle.std.specs.Prelude.{Option, Result, Ok, Err}
use Rattle.days.specs.declared.refusal.Refusal.{Refusal}
use Rattle.days.specs.declared.refusal.Refusal.TheVariants.{OutOfRange, BadEdition}
use Rattle.lunar_months.specs.declared.MonthStart.{MonthStart}
use Rattle.lunar_months.specs.declared.MonthRefusal.{MonthRefusal}
use Rattle.lunar_months.specs.declared.MonthRefusal.TheVariants.{Refused, TooShort}
use Rattle.lunar_months.specs.Numbers.{month_numbers}
use Rattle.lunar_months.specs.Rows.{the_row, is_covered, starts_behind, with_days, extended_by, list_after, last_entry, month_at}
use Rattle.lunar_months.specs.Parts.{behind, check_extension, before_extension, check_question, Reckonable}
use Rattle.lunar_months.proofs.Latest.{last-most}

-- what a covered number keeps to
pub covered-range : (covered : ℕ) → is_covered covered ≡ true → (1 ≤ covered) × (covered ≤ last_day + 1)
unfolding is_covered
covered-range covered t = go (leb 1 covered) (leb covered (last_day + 1)) refl refl t
  where
    go : (u v : Bool) → leb 1 covered ≡ u → leb covered (last_day + 1) ≡ v → (u && v) ≡ true → (1 ≤ covered) × (covered ≤ last_day + 1)
    go true true eu ev k = (leb-true _ _ eu, leb-true _ _ ev)
    go true false eu ev k = absurd (false≢true k)
    go false v eu ev k = absurd (false≢true k)

pub reckonable : (row : Months) (n : ℕ) → Ok tt ≡ check_extension row n → Reckonable row.edition row.covered n
unfolding check_extension
reckonable row n r = go (is_edition row.edition) (is_covered row.covered) (leb (row.covered + n) (last_day + 1)) refl refl refl r
  where
    go :
        (t u v : Bool) →
        is_edition row.edition ≡ t →
        is_covered row.covered ≡ u →
        leb (row.covered + n) (last_day + 1) ≡ v →
        Ok (tt {0}) ≡ cond t (cond (u && v) (Ok tt) (Err OutOfRange)) (Err BadEdition) →
        Reckonable row.edition row.covered n
    go true true true et eu ev k = record { edition = et; some = (covered-range _ eu).0; within = leb-true _ _ ev }
    go true true false et eu ev k = absurd cc
    go true false v et eu ev k = absurd cc
    go false u v et eu ev k = absurd cc

-- an extension, by what is known before its month starts are
pub record Extendable (row : Months) (n room : ℕ) : Type 0 where
  pub days : Reckonable row.edition row.covered n
  pub stored : row.starts ≤ room

module _ (row : Months) (n room : ℕ) where
  -- the meaning by its first tests
  extension-is : extended_by row n room ≡ behind (check_extension row n) (with_days row n room)
  unfolding extended_by check_extension
  extension-is = go (is_edition row.edition) (is_covered row.covered && leb (row.covered + n) (last_day + 1))
    where
      go :
          (t u : Bool) →
          cond t (cond u (with_days row n room) (Err (Refused OutOfRange))) (Err (Refused BadEdition))
          ≡ behind (cond t (cond u (Ok tt) (Err OutOfRange)) (Err BadEdition)) (with_days row n room)
      go true true = refl
      go true false = refl
      go false u = refl

  -- refused so far, it is refused
  pub refused-before : {x : MonthRefusal} → Err x ≡ before_extension row n room → Err x ≡ extended_by row n room
  unfolding before_extension with_days
  refused-before {x} h = go (check_extension row n) (leb row.starts room) refl refl h
    where
      go :
          (q : Result (Unit {0}) Refusal) (u : Bool) →
          check_extension row n ≡ q →
          leb row.starts room ≡ u →
          Err x ≡ behind q (cond u (Ok (tt {0})) (Err (TooShort row.starts))) →
          Err x ≡ extended_by row n room
      go (Ok _) true eq eu k = absurd cc
      go (Ok _) false eq eu k = let i : x ≡ TooShort row.starts = cc in rw (extension-is, eq, eu) (ap Err i)
      go (Err r) u eq eu k = let i : x ≡ Refused r = cc in rw (extension-is, eq) (ap Err i)

  pub accepted-before : Ok tt ≡ before_extension row n room → Extendable row n room
  unfolding before_extension
  accepted-before h = go (check_extension row n) (leb row.starts room) refl refl h
    where
      go :
          (q : Result (Unit {0}) Refusal) (u : Bool) →
          check_extension row n ≡ q →
          leb row.starts room ≡ u →
          Ok (tt {0}) ≡ behind q (cond u (Ok tt) (Err (TooShort row.starts))) →
          Extendable row n room
      go (Ok tt) true eq eu k = record { days = reckonable _ _ (sym eq); stored = leb-true _ _ eu }
      go (Ok tt) false eq eu k = absurd cc
      go (Err r) u eq eu k = absurd cc

  module _ (x : Extendable row n room) where
    all_tested : extended_by row n room ≡ with_days row n room
    unfolding extended_by is_covered
    all_tested =
        let d = x.days in
        rw (d.edition, le-leb 1 row.covered d.some, le-leb row.covered (last_day + 1) (omega (arith, d.within)), le-leb (row.covered + n) (last_day + 1) d.within)

    -- so many month starts, counted
    module _ (count : ℕ) (e : count ≡ length (starts_behind row n)) where
      pub extended_fits : row.starts + count ≤ room → Ok (the_row row.edition (row.starts + count) (row.covered + n)) ≡ extended_by row n room
      unfolding with_days
      extended_fits h = rw (all_tested, sym e, le-leb _ _ x.stored, le-leb _ _ h)

      pub extended-short : room < row.starts + count → Err (TooShort (row.starts + count)) ≡ extended_by row n room
      unfolding with_days
      extended-short h = rw (all_tested, sym e, le-leb _ _ x.stored, lt-leb _ _ h)

    -- where it is accepted its month starts fit
    pub fits-accepted : {r : Months} → Ok r ≡ extended_by row n room → row.starts + length (starts_behind row n) ≤ room
    fits-accepted {r} h = go (dec_le (row.starts + length (starts_behind row n)) room)
      where
        go : Dec (row.starts + length (starts_behind row n) ≤ room) → row.starts + length (starts_behind row n) ≤ room
        go (yes k) = k
        go (no k) = absurd (cc (extended-short _ refl (omega arith)))

  -- where an extension is accepted, it could be made
  pub extendable : {r : Months} → Ok r ≡ extended_by row n room → Extendable row n room
  unfolding with_days
  extendable {r} h = go (check_extension row n) (leb row.starts room) refl refl (h ∙ extension-is)
    where
      go : (q : Result (Unit {0}) Refusal) (u : Bool) → check_extension row n ≡ q → leb row.starts room ≡ u → Ok r ≡ behind q (with_days row n room) → Extendable row n room
      go (Ok tt) true eq eu k = record { days = reckonable _ _ (sym eq); stored = leb-true _ _ eu }
      go (Ok tt) false eq eu k = absurd (cc (rw eu at k))
      go (Err s) u eq eu k = absurd cc

  pub past_end : is_edition row.edition ≡ true → 1 ≤ row.covered → row.covered ≤ last_day + 1 → last_day + 1 < row.covered + n → extended_by row n room ≡ Err (Refused OutOfRange)
  unfolding extended_by is_covered
  past_end t s c h = rw (t, le-leb _ _ s, le-leb _ _ c, lt-leb _ _ h)

-- the list after an extension
module _ (row : Months) (n : ℕ) (list : List ℕ) where
  pub list-kept : {x : MonthRefusal} → Err x ≡ extended_by row n (capacity list) → list_after row n list ≡ list
  unfolding list_after
  list-kept h = rw (sym h)

  pub list-grown : {r : Months} → Ok r ≡ extended_by row n (capacity list) → list_after row n list ≡ with_entries_from list row.starts (starts_behind row n)
  unfolding list_after
  list-grown h = rw (sym h)

-- a question, by its first tests
module _ (row : Months) (list : List ℕ) (e day : ℕ) where
  abbrev told : Result (Option MonthStart) MonthRefusal
  told = cond (leb row.starts (capacity list)) (Ok (last_entry list day row.starts)) (Err (TooShort row.starts))

  question-is : month_at row list e day ≡ behind (check_question row e day) told
  unfolding month_at check_question
  question-is = go (is_edition e && eqb e row.edition) (is_covered row.covered && ltb day row.covered)
    where
      go : (t u : Bool) → cond t (cond u told (Err (Refused OutOfRange))) (Err (Refused BadEdition)) ≡ behind (cond t (cond u (Ok tt) (Err OutOfRange)) (Err BadEdition)) told
      go true true = refl
      go true false = refl
      go false u = refl

  pub question-refused : {r : Refusal} → Err r ≡ check_question row e day → month_at row list e day ≡ Err (Refused r)
  question-refused h = rw (question-is, sym h)

  module _ (q : Ok tt ≡ check_question row e day) where
    pub question-short : capacity list < row.starts → month_at row list e day ≡ Err (TooShort row.starts)
    question-short h = rw (question-is, sym q, lt-leb _ _ h)

    pub question-answered : row.starts ≤ capacity list → month_at row list e day ≡ Ok (last_entry list day row.starts)
    question-answered h = rw (question-is, sym q, le-leb _ _ h)

  -- the number told is at most the row's
  pub number-most : (month_numbers (month_at row list e day)).number ≤ row.starts
  unfolding month_numbers
  number-most = rw question-is (go (check_question row e day) (leb row.starts (capacity list)))
    where
      go :
          (q : Result (Unit {0}) Refusal) (u : Bool) →
          (month_numbers (behind q (cond u (Ok (last_entry list day row.starts)) (Err (TooShort row.starts))))).number ≤ row.starts
      go (Ok _) true = last-most list day row.starts
      go (Ok _) false = omega arith
      go (Err r) u = omega arith

-- a row that covers n + 1 days may be asked for each of them
pub may-ask : (e n d starts : ℕ) → is_edition e ≡ true → n ≤ last_day → d ≤ n → Ok tt ≡ check_question (record { edition = e; starts = starts; covered = n + 1 }) e d
unfolding check_question is_covered
may-ask e n d starts t h k =
    let some : 1 ≤ n + 1 = omega arith in
    let most : n + 1 ≤ last_day + 1 = omega arith in
    let there : d < n + 1 = omega arith in
    rw (t, eq-eqb e e refl, le-leb _ _ some, le-leb _ _ most, lt-ltb _ _ there)

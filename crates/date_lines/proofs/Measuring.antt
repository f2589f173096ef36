-- The lines of a list's days measured one by one: what is left of the room, and how much more is needed, by the lengths
-- of the lines so far. Assumes nothing.
use mathlib.Core.Bool.{Bool, true, false, cond, ◌&&◌}
use mathlib.Core.Path.{◌≡◌, refl, ap, sym, ◌∙◌}
use mathlib.Core.List.{List, [], ◌∷◌}
use Prim.Native.Nat.{ℕ, ◌+◌, ◌*◌, ◌-◌, ◌≤◌, ◌<◌, min}
use native.Mathlib.Omega.{arith}
use lib.Dec.{leb}
use lib.ListN.{length, length-append}
use borrow.Author.Tests.{le-leb, lt-leb, leb-true, lt-ltb}
use Rattle.std.specs.Prelude.{Ok, Err}
use Rattle.days.specs.Days.{last_day}
use Rattle.entries.specs.Entries.{capacity, entry_day, entry_at}
use Rattle.entries.specs.Listed.{listed_from, EachDay}
use Rattle.entries.proofs.Listed.{no-entry, due-some, days-length}
use Rattle.date_lines.specs.declared.Kind.{Kind}
use Rattle.date_lines.specs.declared.Kind.TheVariants.{Dates}
use Rattle.date_lines.specs.declared.NotConverted.TheVariants.{NoDay}
use Rattle.date_lines.specs.Lines.{line_of}
use Rattle.date_lines.specs.Texts.{converted, too_short, all_days, text_of, longest, fit_answer, days_answer}
use Rattle.date_lines.proofs.Lines.{date-length}

pub text-length : (kind : Kind) (d : ℕ) (ds : List ℕ) → length (text_of kind (d ∷ ds)) ≡ length (line_of kind d) + length (text_of kind ds)
unfolding text_of
text-length kind d ds = length-append (line_of kind d) (text_of kind ds)

no_text : (kind : Kind) → length (text_of kind []) ≡ 0
unfolding text_of
no_text kind = refl

none-all : all_days [] ≡ true
unfolding all_days
none-all = refl

all_more : (d : ℕ) (ds : List ℕ) → d ≤ last_day → all_days (d ∷ ds) ≡ all_days ds
unfolding all_days
all_more d ds h = rw (le-leb d last_day h)

not-all : (d : ℕ) (ds : List ℕ) → last_day < d → all_days (d ∷ ds) ≡ false
unfolding all_days
not-all d ds h = rw (lt-leb d last_day h)

-- the entries of a list are there, and the next day of it is followed by those behind
pub entry-there : (list : List ℕ) (k : ℕ) → k < capacity list → entry_at list k ≡ Ok (entry_day list k)
unfolding entry_at
entry-there list k h = rw (lt-ltb k (capacity list) h)

pub next-listed : (list : List ℕ) (k : ℕ) {due : ℕ} → Ok due ≡ entry_at list k → listed_from list k ≡ due ∷ listed_from list (k + 1)
next-listed list k e = (due-some list k e).listed

-- whether each entry is a day, entry by entry
pub record Checked (list : List ℕ) (index : ℕ) : Type 0 where
  pub few : index ≤ capacity list
  pub days : all_days (listed_from list 0) ≡ all_days (listed_from list index)

module _ (list : List ℕ) (index : ℕ) (m : Checked list index) where
  module _ {due : ℕ} (e : Ok due ≡ entry_at list index) where
    pub checked-bad : last_day < due → false ≡ all_days (listed_from list 0)
    checked-bad k = sym (m.days ∙ ap all_days (next-listed list index e) ∙ not-all due (listed_from list (index + 1)) k)

    pub checked-more : due ≤ last_day → Checked list (index + 1)
    checked-more k =
        let h = (due-some list index e).there in
        record { few = omega arith; days = m.days ∙ ap all_days (next-listed list index e) ∙ all_more due (listed_from list (index + 1)) k }

  pub checked-end : capacity list ≤ index → true ≡ all_days (listed_from list 0)
  checked-end h = sym (m.days ∙ ap all_days (no-entry list index h) ∙ none-all)

module _ (kind : Kind) (list : List ℕ) where
  -- the bytes of the lines from an entry on, and of those before it
  abbrev ahead : ℕ → ℕ
  ahead index = length (text_of kind (listed_from list index))

  abbrev behind : ℕ → ℕ
  behind index = ahead 0 - ahead index

  pub record Measured (bytes index : ℕ) : Type 0 where
    pub few : index ≤ capacity list
    pub less : ahead index ≤ ahead 0
    pub sum : bytes ≡ min (behind index) longest

  pub measured-none : Measured 0 0
  measured-none = record { few = omega arith; less = omega arith; sum = omega arith }

  module _ (bytes index : ℕ) (m : Measured bytes index) where
    pub measured-more : {due : ℕ} (after n : ℕ) → Ok due ≡ entry_at list index → n ≡ length (line_of kind due) → after ≡ min (bytes + n) longest → Measured after (index + 1)
    measured-more {due} after n e s a =
        let h = (due-some list index e).there in
        let size : ahead index ≡ n + ahead (index + 1) =
        ap (λ (ds : List ℕ). length (text_of kind ds)) (next-listed list index e)
        ∙ text-length kind due (listed_from list (index + 1))
        ∙ ap (λ (i : ℕ). i + ahead (index + 1)) (sym s) in
        record { few = omega arith; less = omega (arith, m.less); sum = omega (arith, m.less, m.sum) }

    pub measured-end : capacity list ≤ index → bytes ≡ min (ahead 0) longest
    measured-end h =
        let none : ahead index ≡ 0 = ap (λ (ds : List ℕ). length (text_of kind ds)) (no-entry list index h) ∙ no_text kind in
        omega (arith, m.sum)

-- dates have 11 bytes each
dates-length : (ds : List ℕ) → length (text_of Dates ds) ≡ 11 * length ds
dates-length [] = no_text Dates
dates-length (d ∷ ds) = text-length Dates d ds ∙ omega (arith, date-length d, dates-length ds)

listed-length : (list : List ℕ) → length (listed_from list 0) ≡ capacity list
listed-length list = days-length list 0 (capacity list - 0) ∙ omega arith

pub listed-dates : (list : List ℕ) → 11 * capacity list ≡ length (text_of Dates (listed_from list 0))
listed-dates list = sym (dates-length (listed_from list 0) ∙ ap (λ (n : ℕ). 11 * n) (listed-length list))

-- whether so many bytes fit
module _ (n bytes told : ℕ) (e : told ≡ min n longest) (h : bytes < longest) where
  pub fits : told ≤ bytes → converted told ≡ fit_answer n bytes
  fits k = let all : told ≡ n = omega arith in rw (le-leb n bytes (omega arith)) (ap converted all)

  pub fits-not : bytes < told → too_short told ≡ fit_answer n bytes
  fits-not k = rw (lt-leb n bytes (omega arith)) (ap too_short e)

-- the answer for days that are days, and for others
module _ (kind : Kind) (ds : List ℕ) (bytes : ℕ) where
  pub not-days : all_days ds ≡ false → Err NoDay ≡ days_answer kind ds bytes
  unfolding days_answer
  not-days e = rw e

  pub all-are-days : all_days ds ≡ true → fit_answer (length (text_of kind ds)) bytes ≡ days_answer kind ds bytes
  unfolding days_answer
  all-are-days e = rw e

-- days that are measured and not refused are days, and their lines fit
each-day : (ds : List ℕ) → all_days ds ≡ true → EachDay ds
unfolding all_days EachDay
each-day [] e = tt
each-day (d ∷ ds) e = go (leb d last_day) refl e (each-day ds)
  where
    go : (t : Bool) → leb d last_day ≡ t → (t && all_days ds) ≡ true → (all_days ds ≡ true → EachDay ds) → (d ≤ last_day) × EachDay ds
    go true k i r = (leb-true d last_day k, r i)
    go false k i r = absurd (mathlib.Core.Bool.false≢true i)

pub record Fitting (kind : Kind) (ds : List ℕ) (bytes : ℕ) : Type 0 where
  pub each : EachDay ds
  pub fits : length (text_of kind ds) ≤ bytes

pub fitting : (kind : Kind) (ds : List ℕ) (bytes : ℕ) {n : ℕ} → Ok n ≡ days_answer kind ds bytes → Fitting kind ds bytes
unfolding days_answer
fitting kind ds bytes e = go (all_days ds) (leb (length (text_of kind ds)) bytes) refl refl e
  where
    go :
        {n : ℕ} (t u : Bool) →
        all_days ds ≡ t →
        leb (length (text_of kind ds)) bytes ≡ u →
        Ok n ≡ cond t (cond u (converted (length (text_of kind ds))) (too_short (min (length (text_of kind ds)) longest))) (Err NoDay) →
        Fitting kind ds bytes
    go true true a b z = record { each = each-day ds a; fits = leb-true _ _ b }
    go true false a b z = absurd cc
    go false u a b z = absurd cc

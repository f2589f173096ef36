-- The laws beside a row: exactly the days on which a month starts, each once, earliest first; a row extended in any
-- steps is the row made at once; and on such a row the month of a day is the day's.
-- By the joining of runs of days, and of what is put into a list. Assumes nothing.
use mathlib.Core.List.{List, [], ◌∷◌}
use mathlib.Core.Path.{◌≡◌, refl, sym, ap, ap₂, ◌∙◌}
use mathlib.Core.Bool.{true}
use Prim.Native.Nat.{ℕ, ◌+◌, ◌/◌, ◌≤◌, ◌<◌}
use native.Mathlib.Decide.{dec_le}
use native.Mathlib.Omega.{arith}
use lib.ListN.{length, length-append}
use borrow.Author.Tests.{le-leb}
use Rattle.days.specs.Days.{last_day, days_from}
use Rattle.entries.specs.Entries.{capacity, with_entries, with_entries_from}
use Rattle.entries.proofs.Laws.{with-entries-length}
use Rattle.entries.proofs.Putting.{put-append, put_all, put-length}
use Rattle.entries.proofs.Lists.{Ascending, Has, days-ascend, listed, has-filtered, in-days}
use Rattle.panchanga.specs.TrueLongitudes.{is_edition}
use Rattle.lunar_months.specs.declared.Months.{Months}
use Rattle.std.specs.Prelude.{Option, None, Ok, Err}
use Rattle.std.specs.Result.{result_map_both}
use Rattle.lunar_months.specs.declared.MonthStart.{MonthStart}
use Rattle.lunar_months.specs.declared.MonthRefusal.TheVariants.{Refused, TooShort}
use Rattle.lunar_months.specs.MonthStarts.{starts_month, month_starts, latest_of, month_on}
use Rattle.lunar_months.specs.Rows.{the_row, new_row, starts_behind, extended_by, list_after, month_at}
use Rattle.lunar_months.proofs.Latest.{from-epoch}
use Rattle.lunar_months.proofs.Answers.{Extendable, extendable, past_end, extended_fits, extended-short, fits-accepted, list-grown, question-answered, may-ask}
use Rattle.lunar_months.proofs.Made.{starts-join, on-made}

-- a day among m days from day n on, on which a month starts
pub record Starting (e n m x : ℕ) : Type 0 where
  pub from : n ≤ x
  pub before : x < n + m
  pub smaller : starts_month e x ≡ true

pub starts-only : (e n m x : ℕ) → Has x (month_starts e n m) → Starting e n m x
unfolding month_starts
starts-only e n m x h = let l = listed (starts_month e) x n m h in record { from = l.0; before = l.1; smaller = l.2 }

pub starts-all : (e n m x : ℕ) → Starting e n m x → Has x (month_starts e n m)
unfolding month_starts
starts-all e n m x s = has-filtered (starts_month e) x s.smaller (days_from n m) (in-days x n m s.from s.before)

-- each stands once, earliest first
pub starts-ascend : (e n m : ℕ) → Ascending n (month_starts e n m)
unfolding month_starts
starts-ascend e n m = days-ascend (starts_month e) n m

-- none is said exactly if there is none
pub none_said : (ds : List ℕ) → latest_of ds ≡ None → ds ≡ []
unfolding latest_of
none_said [] h = refl
none_said (d ∷ ds) h = absurd cc

pub none-there : latest_of [] ≡ None
unfolding latest_of
none-there = refl

-- the row r after a days more, of which so many month starts were found
abbrev further : Months → ℕ → Months
further row a = record { edition = row.edition; starts = row.starts + length (starts_behind row a); covered = row.covered + a }

module _ (row : Months) (a b : ℕ) where
  both : length (starts_behind row (a + b)) ≡ length (starts_behind row a) + length (starts_behind (further row a) b)
  both = ap length (starts-join row.edition row.covered a b) ∙ length-append (starts_behind row a) _

  module _ (room : ℕ) (x : Extendable row a room) (f : row.starts + length (starts_behind row a) ≤ room) where
    grown-on : row.covered + a + b ≤ last_day + 1 → Extendable (further row a) b room
    grown-on w = record { days = record { edition = x.days.edition; some = omega (arith, x.days.some); within = w }; stored = f }

    at_once : row.covered + a + b ≤ last_day + 1 → Extendable row (a + b) room
    at_once w = record { days = record { edition = x.days.edition; some = x.days.some; within = omega arith }; stored = omega arith }

    same_row : the_row row.edition (row.starts + length (starts_behind row a) + length (starts_behind (further row a) b)) (row.covered + a + b) ≡ the_row row.edition (row.starts + length (starts_behind row (a + b))) (row.covered + (a + b))
    same_row = ap₂ (the_row row.edition) (omega (arith, both)) (omega arith)

    same-extension : extended_by (further row a) b room ≡ extended_by row (a + b) room
    same-extension = go (dec_le (row.covered + a + b) (last_day + 1)) (dec_le (row.starts + length (starts_behind row a) + length (starts_behind (further row a) b)) room)
      where
        go :
            Dec (row.covered + a + b ≤ last_day + 1) →
            Dec (row.starts + length (starts_behind row a) + length (starts_behind (further row a) b) ≤ room) →
            extended_by (further row a) b room ≡ extended_by row (a + b) room
        go (no w) d = past_end (further row a) b room x.days.edition (omega (arith, x.days.some)) (omega (arith, x.days.within)) (omega arith) ∙ sym (past_end row (a + b) room x.days.edition x.days.some (omega (arith, x.days.within)) (omega arith))
        go (yes w) (yes k) = sym (extended_fits (further row a) b room (grown-on w) _ refl k) ∙ ap Ok same_row ∙ extended_fits row (a + b) room (at_once w) _ refl (omega (arith, both, k))
        go (yes w) (no k) =
            let n : row.starts + length (starts_behind row a) + length (starts_behind (further row a) b) ≡ row.starts + length (starts_behind row (a + b)) = omega (arith, both) in
            sym (extended-short (further row a) b room (grown-on w) _ refl (omega arith)) ∙ ap (λ (m : ℕ). Err (TooShort m)) n ∙ extended-short row (a + b) room (at_once w) _ refl (omega (arith, both, k))

  -- EXTENDING BY a AND THEN BY b is extending by a + b, refusals and their numbers included
  pub extend-on : (room : ℕ) {r : Months} → Ok r ≡ extended_by row a room → extended_by r b room ≡ extended_by row (a + b) room
  extend-on room {r} h =
      let x = extendable row a room h in
      let f = fits-accepted row a room x h in
      let i : r ≡ further row a = cc (extended_fits row a room x _ refl f) in
      rw i (same-extension room x f)

  -- and so is the list, where the whole extension is accepted: then so is the first
  pub list_on : (list : List ℕ) {s : Months} → Ok s ≡ extended_by row (a + b) (capacity list) → (r : Months) × (Ok r ≡ extended_by row a (capacity list)) × (list_after r b (list_after row a list) ≡ list_after row (a + b) list)
  list_on list h =
      let room = capacity list in
      let whole = extendable row (a + b) room h in
      let few = fits-accepted row (a + b) room whole h in
      let x : Extendable row a room = record { days = record { edition = whole.days.edition; some = whole.days.some; within = omega (arith, whole.days.within) }; stored = whole.stored } in
      let f : row.starts + length (starts_behind row a) ≤ room = omega (arith, few, both) in
      let first = extended_fits row a room x _ refl f in
      let put = list-grown row a list first in
      let same = put-length list row.starts (starts_behind row a) in
      let second = h ∙ sym (same-extension room x f) ∙ sym (ap (λ (n : ℕ). extended_by (further row a) b (n / 4)) same) in (
        further row a,
        first,
        ap (list_after (further row a) b) put
            ∙ list-grown (further row a) b (with_entries_from list row.starts (starts_behind row a)) second
            ∙ sym (put-append list row.starts (starts_behind row a) (starts_behind (further row a) b))
            ∙ ap (with_entries_from list row.starts) (sym (starts-join row.edition row.covered a b))
            ∙ sym (list-grown row (a + b) list h),
      )

-- an edition has a new row
pub new-is : (e : ℕ) → is_edition e ≡ true → new_row e ≡ Ok (the_row e 0 1)
unfolding new_row
new-is e t = rw t

-- A ROW MADE FROM A NEW ONE, by any days that there are: exactly the month starts of its covered days
module _ (e n : ℕ) (list : List ℕ) (t : is_edition e ≡ true) (h : n ≤ last_day) (fits : length (month_starts e 0 (n + 1)) ≤ capacity list) where
  made-first : Extendable (the_row e 0 1) n (capacity list)
  made-first = record { days = record { edition = t; some = omega arith; within = omega arith }; stored = omega arith }

  made-is : Ok (the_row e (length (month_starts e 0 (n + 1))) (n + 1)) ≡ extended_by (the_row e 0 1) n (capacity list)
  made-is =
      let l = ap length (from-epoch e n) in
      ap₂ (λ (s c : ℕ). Ok (the_row e s c)) (omega (arith, l)) (omega arith) ∙ extended_fits _ n (capacity list) made-first _ refl (omega (arith, l))

  of-entries : (d : ℕ) → d ≤ n → month_at (the_row e (length (month_starts e 0 (n + 1))) (n + 1)) (with_entries (month_starts e 0 (n + 1)) list) e d ≡ result_map_both (λ (m : Option MonthStart). m) Refused (month_on e d)
  unfolding month_on
  of-entries d k =
      let made = with-entries-length (month_starts e 0 (n + 1)) list fits in
      let day : d ≤ last_day = omega arith in
      question-answered _ _ e d (may-ask e n d _ t h k) (omega (arith, made, fits)) ∙ ap Ok (on-made e (n + 1) list (omega arith) fits d (omega arith)) ∙ sym (rw (t, le-leb _ _ day))

  module _ {r : Months} (new : Ok r ≡ new_row e) where
    first-is : r ≡ the_row e 0 1
    first-is = cc (new-is e t)

    pub row_made : extended_by r n (capacity list) ≡ Ok (the_row e (length (month_starts e 0 (n + 1))) (n + 1))
    row_made = rw first-is (sym made-is)

    pub list-made : list_after r n list ≡ with_entries (month_starts e 0 (n + 1)) list
    list-made =
        rw first-is
        (list-grown (the_row e 0 1) n list made-is
        ∙ ap (with_entries_from list 0) (sym (from-epoch e n))
        ∙ put_all (month_starts e 0 (n + 1)) list fits)

    -- ON SUCH A ROW the month of a covered day is the day's own
    pub month-made : {s : Months} → Ok s ≡ extended_by r n (capacity list) → (d : ℕ) → d ≤ n → month_at s (list_after r n list) e d ≡ result_map_both (λ (m : Option MonthStart). m) Refused (month_on e d)
    month-made {s} x d k =
        let i : s ≡ the_row e (length (month_starts e 0 (n + 1))) (n + 1) = cc row_made in
        rw (i, list-made) (of-entries d k)

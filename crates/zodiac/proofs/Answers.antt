-- What is answered, case by case: the sign of a day; of a span refused, too many entries, all written.
-- Assumes nothing.
use mathlib.Core.Path.{◌≡◌, sym, ap, ap₂, ◌∙◌}
use mathlib.Core.List.{List}
use Prim.Native.Nat.{ℕ, ◌+◌, ◌/◌, ◌≤◌, ◌<◌}
use native.Mathlib.Omega.{arith}
use lib.ListN.{length}
use borrow.Author.Tests.{le-leb, lt-leb}
use Rattle.std.specs.Prelude.{Result, Ok, Err}
use Rattle.days.specs.declared.Day.{Day}
use Rattle.days.specs.declared.refusal.Refusal.{Refusal}
use Rattle.days.specs.Days.{answer_on, check_span}
use Rattle.days.proofs.Laws.{given, told, refused-too, checked, over-span, over-refused}
use Rattle.entries.specs.declared.NotPut.{NotPut}
use Rattle.entries.specs.declared.NotPut.TheVariants.{Refused, TooShort}
use Rattle.entries.specs.Entries.{capacity, with_entries, with_entries_from}
use Rattle.entries.specs.Told.{put_number}
use Rattle.entries.proofs.Putting.{put_all}
use Rattle.entries.proofs.Told.{not-put, put-short, put-done, put-all, would-do, refused-so, span-number, behind-refused, behind-checked}
use Rattle.longitudes.specs.declared.Body.TheVariants.{Sun as TheSun}
use Rattle.longitudes.specs.declared.MeanLongitude.{MeanLongitude}
use Rattle.longitudes.specs.Answers.{the_longitude, longitude_of}
use Rattle.zodiac.specs.declared.Sun.{Sun}
use Rattle.zodiac.specs.declared.Sun.TheVariants.{Mean}
use Rattle.zodiac.specs.Zodiac.{sun_at, sign_at, sign_of, sign_entries, length_needed, entries_result, listing_of, entries_after}
use Rattle.zodiac.specs.Passed.{signs_passed, days_passing}
use Rattle.zodiac.proofs.Entering.{by_sign, entries-count}

-- the mean Sun of a day
pub mean-sun : (d : Day) {mean : MeanLongitude} → Ok mean ≡ longitude_of TheSun d → Ok mean.seconds ≡ answer_on (sun_at Mean) d
unfolding sun_at longitude_of
mean-sun d e = let t = told (the_longitude 0) d e in rw (t.value, given (sun_at Mean) d t.range)

pub no-mean-sun : (d : Day) {r : Refusal} → Err r ≡ longitude_of TheSun d → Err r ≡ answer_on (sun_at Mean) d
unfolding longitude_of
no-mean-sun d e = refused-too (the_longitude 0) (sun_at Mean) d e

-- the sign of a day, from where the Sun stands
pub sign-given : (sun : Sun) (d : Day) {found : ℕ} → Ok found ≡ answer_on (sun_at sun) d → Ok (found / 108000) ≡ sign_of sun d
sign-given sun d e = let t = told (sun_at sun) d e in rw (t.value, given (sign_at sun) d t.range)

module _ (sun : Sun) (first last : ℕ) where
  pub length-refused : {r : Refusal} → Err r ≡ check_span first last → Err r ≡ length_needed sun first last
  unfolding length_needed
  length-refused e = over-refused first last (Ok (length (sign_entries sun first last))) e

  pub length-given : Ok tt ≡ check_span first last → Ok (length (sign_entries sun first last)) ≡ length_needed sun first last
  unfolding length_needed
  length-given e = sym (over-span (Ok (length (sign_entries sun first last))) (checked first last e))

  -- what the listing tells is the result and the length that is needed
  pub listing-number : (room : ℕ) → put_number (listing_of sun first last room) ≡ entries_result sun first last room
  unfolding listing_of length_needed entries_result
  listing-number room = span-number first last (length (sign_entries sun first last)) room

  -- the number, by a listing for a list of any length: what is needed is put, would do, or is refused
  module _ (room : ℕ) where
    pub number-by : {n : ℕ} → Ok n ≡ listing_of sun first last room → Ok n ≡ length_needed sun first last
    unfolding listing_of
    number-by e = put-all _ _ e

    pub number-short : {n : ℕ} → Err (TooShort n) ≡ listing_of sun first last room → Ok n ≡ length_needed sun first last
    unfolding listing_of
    number-short e = would-do _ _ e

    pub number-refused : {r : Refusal} → Err (Refused r) ≡ listing_of sun first last room → Err r ≡ length_needed sun first last
    unfolding listing_of
    number-refused e = refused-so _ _ e

  module _ (l : List ℕ) where
    -- what is handed back, and the list after it
    abbrev pub Answered : Result ℕ NotPut → List ℕ → Type 0
    Answered found after = (found ≡ listing_of sun first last (capacity l)) × (after ≡ entries_after sun first last l)

    pub entries-refused : {r : Refusal} → Err r ≡ check_span first last → Answered (Err (Refused r)) l
    unfolding listing_of entries_after entries_result
    entries-refused e = (not-put _ _ (length-refused e), rw (behind-refused first last _ e))

    module _ (n : ℕ) (e : Ok tt ≡ check_span first last) (c : n ≡ length (sign_entries sun first last)) where
      needed : Ok n ≡ length_needed sun first last
      needed = ap Ok c ∙ length-given e

      pub too_many : capacity l < n → Answered (Err (TooShort n)) l
      unfolding listing_of entries_after entries_result
      too_many h = (put-short _ _ needed h, rw (behind-checked first last _ e, lt-leb (length (sign_entries sun first last)) (capacity l) (omega arith)))

      pub all-written : (m : List ℕ) → n ≤ capacity l → m ≡ with_entries (sign_entries sun first last) l → Answered (Ok n) m
      unfolding listing_of entries_after entries_result
      all-written m h w = (put-done _ _ needed h, rw (behind-checked first last _ e, le-leb (length (sign_entries sun first last)) (capacity l) (omega arith)) w)

      -- the days on which the signs between the ends are passed, put into the list
      pub entries-put : (passed : ℕ) (m : List ℕ) → passed ≡ signs_passed sun first → n ≤ capacity l → m ≡ with_entries_from l 0 (days_passing sun (passed + 1) n) → m ≡ with_entries (sign_entries sun first last) l
      entries-put passed m p h w =
          let o = (checked first last e).ordered in
          let same : days_passing sun (passed + 1) n ≡ sign_entries sun first last =
          ap₂ (λ (s k : ℕ). days_passing sun (s + 1) k) p (c ∙ entries-count sun first last o) ∙ sym (by_sign sun first last o) in
          w ∙ ap (with_entries_from l 0) same ∙ put_all (sign_entries sun first last) l (omega arith)

-- The signs of the zodiac, and the days on which the Sun enters one: the mean Sun, with which paper 02 has its twelve
-- signs, or the true one, by which calendars are printed.
-- Assumes nothing.
use Rattle.std.specs.Prelude.{Bool, cond, not, List, ℕ, ◌+◌, ◌-◌, ◌/◌, leb, eqb, length, Result, Ok}
use Rattle.days.specs.declared.Day.{Day}
use Rattle.days.specs.declared.refusal.Refusal.{Refusal}
use Rattle.days.specs.Refusals.{accepted, list_too_short}
use Rattle.days.specs.Days.{pair_at, days_from, answer_on, answer_over, refused_span_or}
use Rattle.entries.specs.Entries.{capacity, with_entries}
use Rattle.entries.specs.Runs.{filtered}
use Rattle.longitudes.specs.Longitudes.{longitude_at}
use Rattle.panchanga.specs.OnDays.{true_sun_at}
use Rattle.entries.specs.declared.NotPut.{NotPut}
use Rattle.entries.specs.Told.{put_if}
use Rattle.zodiac.specs.declared.Sun.{Sun}
use Rattle.zodiac.specs.declared.Sun.TheVariants.{Mean, True}

-- seconds of arc in a sign: 30°
abbrev pub sign_seconds : ℕ
sign_seconds = 108000

-- where the Sun that is meant stands
unfoldable pub sun_at : Sun → Day → ℕ
sun_at Mean d = longitude_at 0 d
sun_at True d = true_sun_at d

-- the sign in which it stands: 0 Meṣa to 11 Mīna
abbrev pub sign_at : Sun → Day → ℕ
sign_at sun d = sun_at sun d / sign_seconds

abbrev pub sign_of : Sun → Day → Result ℕ Refusal
sign_of sun d = answer_on (sign_at sun) d

abbrev pub sign_on : Sun → ℕ → ℕ
sign_on sun n = sign_at sun (pair_at n)

-- on day n it stands in another sign than the day before
unfoldable pub enters_on : Sun → ℕ → Bool
enters_on sun n = not (eqb (sign_on sun n) (sign_on sun (n - 1)))

-- THE ENTRIES of a span: each day after its first on which the Sun stands in another sign than the day before
unfoldable pub sign_entries : Sun → ℕ → ℕ → List ℕ
sign_entries sun first last = filtered (enters_on sun) (days_from (first + 1) (last - first))

-- THEIR NUMBER, or why the span is refused: 2 for an end that is no day, then 5
unfoldable pub length_needed : Sun → ℕ → ℕ → Result ℕ Refusal
length_needed sun first last = answer_over first last (Ok (length (sign_entries sun first last)))

-- the result for a list of so many entries: the span's refusal, then 7 where the list has fewer entries than there are
unfoldable pub entries_result : Sun → ℕ → ℕ → ℕ → ℕ
entries_result sun first last room = refused_span_or first last (cond (leb (length (sign_entries sun first last)) room) accepted list_too_short)

-- WHAT IS HANDED BACK: their number, or with 7 the length that would do, or 2 or 5
unfoldable pub listing_of : Sun → ℕ → ℕ → ℕ → Result ℕ NotPut
listing_of sun first last room = put_if (length_needed sun first last) room

-- THE LIST AFTERWARDS: with the entries at its front, or by any refusal the whole list as it was
unfoldable pub entries_after : Sun → ℕ → ℕ → List ℕ → List ℕ
entries_after sun first last before = cond (eqb (entries_result sun first last (capacity before)) accepted) (with_entries (sign_entries sun first last) before) before

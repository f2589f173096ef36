-- The number of a name, and the name of a number. A name is read in two spellings, both in any letter case, and printed
-- in the plain one. A karana's number counts from 1, all others from 0.
-- Assumes nothing.
use Rattle.std.specs.Prelude.{cond, List, [], map, ℕ, ◌+◌, ◌-◌, ltb, Result, Ok, Err}
use Rattle.days.specs.declared.refusal.Refusal.{Refusal}
use Rattle.days.specs.declared.refusal.Refusal.TheVariants.{BadInput}
use Rattle.text.specs.Ascii.{ascii}
use Rattle.words.specs.Names.{weekday_names}
use Rattle.words.specs.Words.{place_in, name_at}
use Rattle.names.specs.declared.Kind.{Kind}
use Rattle.names.specs.declared.Kind.TheVariants.{Tithi, Nakshatra, Yoga, Karana, Sign, Month, Fortnight, Weekday}
use Rattle.names.specs.Tables.{tithis, nakshatras, yogas, karanas, signs, months, fortnights, marked_tithis, marked_nakshatras, marked_yogas, marked_karanas, marked_signs, marked_months, marked_fortnights, short_weekdays}
use Rattle.names.specs.Utf8.{utf8}

-- the names of a kind in the plain spelling, and in the other
abbrev pub plain_names : Kind → List (List ℕ)
plain_names Tithi = map ascii tithis
plain_names Nakshatra = map ascii nakshatras
plain_names Yoga = map ascii yogas
plain_names Karana = map ascii karanas
plain_names Sign = map ascii signs
plain_names Month = map ascii months
plain_names Fortnight = map ascii fortnights
plain_names Weekday = weekday_names

abbrev pub other_names : Kind → List (List ℕ)
other_names Tithi = map utf8 marked_tithis
other_names Nakshatra = map utf8 marked_nakshatras
other_names Yoga = map utf8 marked_yogas
other_names Karana = map utf8 marked_karanas
other_names Sign = map utf8 marked_signs
other_names Month = map utf8 marked_months
other_names Fortnight = map utf8 marked_fortnights
other_names Weekday = map ascii short_weekdays

-- how many names a kind has, and the number of the first
abbrev pub count_of : Kind → ℕ
count_of Tithi = 30
count_of Nakshatra = 27
count_of Yoga = 27
count_of Karana = 11
count_of Sign = 12
count_of Month = 12
count_of Fortnight = 2
count_of Weekday = 7

abbrev pub first_of : Kind → ℕ
first_of Tithi = 0
first_of Nakshatra = 0
first_of Yoga = 0
first_of Karana = 1
first_of Sign = 0
first_of Month = 0
first_of Fortnight = 0
first_of Weekday = 0

-- THE NUMBER OF A WORD that is a name in one of the two spellings; any other word is refused as a bad line is
unfoldable pub name_read : Kind → List ℕ → Result ℕ Refusal
name_read k w =
    cond (ltb (place_in (plain_names k) w) (count_of k)) (Ok (first_of k + place_in (plain_names k) w))
    (cond (ltb (place_in (other_names k) w) (count_of k)) (Ok (first_of k + place_in (other_names k) w)) (Err BadInput))

-- THE NAME OF A NUMBER, empty where it has none
unfoldable pub name_of : Kind → ℕ → List ℕ
name_of k n = cond (ltb n (first_of k)) [] (name_at (plain_names k) (n - first_of k))

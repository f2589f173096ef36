-- Worked names: what words are read as, what numbers are named, and what a table has of them. Both sides compute, so
-- that `refl` proves them.
-- Assumes nothing.
use mathlib.Core.Path.{◌≡◌, refl}
use mathlib.Core.List.{[], ◌∷◌}
use Rattle.std.specs.Prelude.{Ok, Err}
use Rattle.days.specs.declared.refusal.Refusal.TheVariants.{BadInput}
use Rattle.text.specs.Ascii.{ascii}
use Rattle.words.specs.Words.{behind_mark, small_byte, small_from, same_bytes, place_in, name_at}
use Rattle.names.specs.declared.Kind.TheVariants.{Tithi, Nakshatra, Yoga, Karana, Sign, Month, Fortnight, Weekday}
use Rattle.names.specs.Columns.{padded, aligned, padded_name, quoted_name}
use Rattle.names.specs.Names.{name_read, name_of}
use Rattle.names.specs.Utf8.{utf8}

-- the name of the current tithi: 14 are elapsed when the fifteenth runs
pub worked-reading :
    name_read Tithi (ascii "purnima")
    ∷ name_read Tithi (utf8 "KṚṢṆA-PAÑCAMĪ")
    ∷ name_read Tithi (utf8 "Śukla-pratipadā")
    ∷ name_read Nakshatra (utf8 "Viśākhā")
    ∷ name_read Nakshatra (ascii "Vishakha")
    ∷ name_read Yoga (ascii "VAIDHRITI")
    ∷ name_read Karana (ascii "bava")
    ∷ name_read Karana (utf8 "kiṃstughna")
    ∷ name_read Sign (utf8 "vṛṣabha")
    ∷ name_read Month (utf8 "Āṣāḍha")
    ∷ name_read Fortnight (utf8 "Kṛṣṇa")
    ∷ name_read Weekday (ascii "Sun")
    ∷ name_read Weekday (ascii "sund")
    ∷ name_read Nakshatra (ascii "")
    ∷ name_read Nakshatra (utf8 "viçākhā")
    ∷ name_read Nakshatra (utf8 "viěākhā")
    ∷ name_read Sign (ascii "purnima")
    ∷ []
    ≡ Ok 14
    ∷ Ok 19
    ∷ Ok 0
    ∷ Ok 15
    ∷ Ok 15
    ∷ Ok 26
    ∷ Ok 1
    ∷ Ok 11
    ∷ Ok 1
    ∷ Ok 3
    ∷ Ok 1
    ∷ Ok 6
    ∷ Err BadInput
    ∷ Err BadInput
    ∷ Err BadInput
    ∷ Err BadInput
    ∷ Err BadInput
    ∷ []
unfolding name_read place_in same_bytes small_from small_byte behind_mark
worked-reading = refl

pub worked-names :
    name_of Tithi 14
    ∷ name_of Tithi 29
    ∷ name_of Tithi 30
    ∷ name_of Karana 0
    ∷ name_of Karana 1
    ∷ name_of Karana 11
    ∷ name_of Weekday 0
    ∷ []
    ≡ ascii "purnima" ∷ ascii "amavasya" ∷ [] ∷ [] ∷ ascii "bava" ∷ ascii "kimstughna" ∷ ascii "monday" ∷ []
unfolding name_of name_at
worked-names = refl

-- `krishna-chaturdashi` fills its column; a number without a name is blank, and empty quotes
pub worked-columns :
    padded_name Tithi 28
    ∷ padded_name Tithi 14
    ∷ padded_name Nakshatra 15
    ∷ padded_name Karana 0
    ∷ aligned 6 (ascii "33649")
    ∷ aligned 6 (ascii "4294967295")
    ∷ quoted_name Weekday 0
    ∷ quoted_name Karana 12
    ∷ []
    ≡ ascii "krishna-chaturdashi"
    ∷ ascii "purnima            "
    ∷ ascii "vishakha         "
    ∷ ascii "           "
    ∷ ascii " 33649"
    ∷ ascii "4294967295"
    ∷ ascii "\"monday\""
    ∷ ascii "\"\""
    ∷ []
unfolding name_of name_at padded aligned padded_name quoted_name
worked-columns = refl

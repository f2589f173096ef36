-- THE NAMES of the panchanga elements, the signs, the lunar months and their halves, each list in the order of its
-- numbers and in two spellings: the plain one, and the scholars' transliteration. A tithi's name is that of the current
-- one:
-- `purnima`, the fifteenth, is the name of 14 elapsed. The weekdays' plain names stand in `words`.
-- Assumes nothing.
use Prim.Native.String.{String}
use Rattle.std.specs.Prelude.{List, [], ◌∷◌}

abbrev pub tithis : List String
tithis =
    "shukla-pratipada" ∷ "shukla-dvitiya" ∷ "shukla-tritiya" ∷ "shukla-chaturthi" ∷ "shukla-panchami" ∷
    "shukla-shashthi" ∷ "shukla-saptami" ∷ "shukla-ashtami" ∷ "shukla-navami" ∷ "shukla-dashami" ∷
    "shukla-ekadashi" ∷ "shukla-dvadashi" ∷ "shukla-trayodashi" ∷ "shukla-chaturdashi" ∷ "purnima" ∷
    "krishna-pratipada" ∷ "krishna-dvitiya" ∷ "krishna-tritiya" ∷ "krishna-chaturthi" ∷ "krishna-panchami" ∷
    "krishna-shashthi" ∷ "krishna-saptami" ∷ "krishna-ashtami" ∷ "krishna-navami" ∷ "krishna-dashami" ∷
    "krishna-ekadashi" ∷ "krishna-dvadashi" ∷ "krishna-trayodashi" ∷ "krishna-chaturdashi" ∷ "amavasya" ∷ []

abbrev pub nakshatras : List String
nakshatras =
    "ashvini" ∷ "bharani" ∷ "krittika" ∷ "rohini" ∷ "mrigashira" ∷ "ardra" ∷ "punarvasu" ∷ "pushya" ∷ "ashlesha" ∷
    "magha" ∷ "purva-phalguni" ∷ "uttara-phalguni" ∷ "hasta" ∷ "chitra" ∷ "svati" ∷ "vishakha" ∷ "anuradha" ∷
    "jyeshtha" ∷ "mula" ∷ "purva-ashadha" ∷ "uttara-ashadha" ∷ "shravana" ∷ "dhanishtha" ∷ "shatabhisha" ∷
    "purva-bhadrapada" ∷ "uttara-bhadrapada" ∷ "revati" ∷ []

abbrev pub yogas : List String
yogas =
    "vishkambha" ∷ "priti" ∷ "ayushman" ∷ "saubhagya" ∷ "shobhana" ∷ "atiganda" ∷ "sukarma" ∷ "dhriti" ∷ "shula" ∷
    "ganda" ∷ "vriddhi" ∷ "dhruva" ∷ "vyaghata" ∷ "harshana" ∷ "vajra" ∷ "siddhi" ∷ "vyatipata" ∷ "variyan" ∷
    "parigha" ∷ "shiva" ∷ "siddha" ∷ "sadhya" ∷ "shubha" ∷ "shukla" ∷ "brahma" ∷ "indra" ∷ "vaidhriti" ∷ []

abbrev pub karanas : List String
karanas =
    "bava" ∷ "balava" ∷ "kaulava" ∷ "taitila" ∷ "gara" ∷ "vanija" ∷ "vishti" ∷ "shakuni" ∷ "chatushpada" ∷ "naga" ∷
    "kimstughna" ∷ []

abbrev pub signs : List String
signs =
    "mesha" ∷ "vrishabha" ∷ "mithuna" ∷ "karka" ∷ "simha" ∷ "kanya" ∷ "tula" ∷ "vrishchika" ∷ "dhanu" ∷ "makara" ∷
    "kumbha" ∷ "mina" ∷ []

abbrev pub months : List String
months =
    "chaitra" ∷ "vaishakha" ∷ "jyeshtha" ∷ "ashadha" ∷ "shravana" ∷ "bhadrapada" ∷ "ashvina" ∷ "kartika" ∷
    "margashirsha" ∷ "pausha" ∷ "magha" ∷ "phalguna" ∷ []

abbrev pub fortnights : List String
fortnights =
    "shukla" ∷ "krishna" ∷ []

abbrev pub marked_tithis : List String
marked_tithis =
    "śukla-pratipadā" ∷ "śukla-dvitīyā" ∷ "śukla-tṛtīyā" ∷ "śukla-caturthī" ∷ "śukla-pañcamī" ∷ "śukla-ṣaṣṭhī" ∷
    "śukla-saptamī" ∷ "śukla-aṣṭamī" ∷ "śukla-navamī" ∷ "śukla-daśamī" ∷ "śukla-ekādaśī" ∷ "śukla-dvādaśī" ∷
    "śukla-trayodaśī" ∷ "śukla-caturdaśī" ∷ "pūrṇimā" ∷ "kṛṣṇa-pratipadā" ∷ "kṛṣṇa-dvitīyā" ∷ "kṛṣṇa-tṛtīyā" ∷
    "kṛṣṇa-caturthī" ∷ "kṛṣṇa-pañcamī" ∷ "kṛṣṇa-ṣaṣṭhī" ∷ "kṛṣṇa-saptamī" ∷ "kṛṣṇa-aṣṭamī" ∷ "kṛṣṇa-navamī" ∷
    "kṛṣṇa-daśamī" ∷ "kṛṣṇa-ekādaśī" ∷ "kṛṣṇa-dvādaśī" ∷ "kṛṣṇa-trayodaśī" ∷ "kṛṣṇa-caturdaśī" ∷ "amāvāsyā" ∷ []

abbrev pub marked_nakshatras : List String
marked_nakshatras =
    "aśvinī" ∷ "bharaṇī" ∷ "kṛttikā" ∷ "rohiṇī" ∷ "mṛgaśirā" ∷ "ārdrā" ∷ "punarvasu" ∷ "puṣya" ∷ "āśleṣā" ∷
    "maghā" ∷ "pūrva-phalgunī" ∷ "uttara-phalgunī" ∷ "hasta" ∷ "citrā" ∷ "svāti" ∷ "viśākhā" ∷ "anurādhā" ∷
    "jyeṣṭhā" ∷ "mūla" ∷ "pūrva-aṣāḍhā" ∷ "uttara-aṣāḍhā" ∷ "śravaṇa" ∷ "dhaniṣṭhā" ∷ "śatabhiṣā" ∷
    "pūrva-bhādrapadā" ∷ "uttara-bhādrapadā" ∷ "revatī" ∷ []

abbrev pub marked_yogas : List String
marked_yogas =
    "viṣkambha" ∷ "prīti" ∷ "āyuṣmān" ∷ "saubhāgya" ∷ "śobhana" ∷ "atigaṇḍa" ∷ "sukarmā" ∷ "dhṛti" ∷ "śūla" ∷
    "gaṇḍa" ∷ "vṛddhi" ∷ "dhruva" ∷ "vyāghāta" ∷ "harṣaṇa" ∷ "vajra" ∷ "siddhi" ∷ "vyatīpāta" ∷ "varīyān" ∷
    "parigha" ∷ "śiva" ∷ "siddha" ∷ "sādhya" ∷ "śubha" ∷ "śukla" ∷ "brahma" ∷ "indra" ∷ "vaidhṛti" ∷ []

abbrev pub marked_karanas : List String
marked_karanas =
    "bava" ∷ "bālava" ∷ "kaulava" ∷ "taitila" ∷ "gara" ∷ "vaṇija" ∷ "viṣṭi" ∷ "śakuni" ∷ "catuṣpāda" ∷ "nāga" ∷
    "kiṃstughna" ∷ []

abbrev pub marked_signs : List String
marked_signs =
    "meṣa" ∷ "vṛṣabha" ∷ "mithuna" ∷ "karka" ∷ "siṃha" ∷ "kanyā" ∷ "tulā" ∷ "vṛścika" ∷ "dhanu" ∷ "makara" ∷
    "kumbha" ∷ "mīna" ∷ []

abbrev pub marked_months : List String
marked_months =
    "caitra" ∷ "vaiśākha" ∷ "jyeṣṭha" ∷ "āṣāḍha" ∷ "śrāvaṇa" ∷ "bhādrapada" ∷ "āśvina" ∷ "kārtika" ∷ "mārgaśīrṣa" ∷
    "pauṣa" ∷ "māgha" ∷ "phālguna" ∷ []

abbrev pub marked_fortnights : List String
marked_fortnights =
    "śukla" ∷ "kṛṣṇa" ∷ []

-- a weekday's other spelling is its first three letters
abbrev pub short_weekdays : List String
short_weekdays =
    "mon" ∷ "tue" ∷ "wed" ∷ "thu" ∷ "fri" ∷ "sat" ∷ "sun" ∷ []

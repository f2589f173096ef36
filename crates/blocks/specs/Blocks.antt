-- A block of an almanac file: paper 02's 512 bytes, for writing and for reading.
-- Assumes nothing.
use Rattle.std.specs.Prelude.{Bool, true, cond, ◌&&◌, List, [], ◌∷◌, ◌++◌, ℕ, zero, suc, ◌+◌, ◌-◌, ◌*◌, min, leb, ltb, eqb, length, take, drop, replicate, Result, Ok, Err}
use Rattle.days.specs.Days.{last_day, days_from}
use Rattle.days.specs.declared.refusal.Refusal.{Refusal}
use Rattle.days.specs.declared.refusal.Refusal.TheVariants.{BadLength, BadChecksum, BadIndex, NotZero, BadDay}
use Rattle.entries.specs.Entries.{entry, entries, entry_day}
use Rattle.panchanga.specs.TrueLongitudes.{first_edition}
use Rattle.records.specs.declared.DayRecord.{DayRecord}
use Rattle.records.specs.Records.{record_on}

abbrev pub block_bytes : ℕ
block_bytes = 512

-- a record in its 52 bytes: numbers of four bytes, low byte first, for the day, its nine mean longitudes, its true Sun
-- and its true Moon; and a byte each for the elements
unfoldable pub record_bytes : DayRecord → List ℕ
record_bytes r = entries (r.day ∷ (r.longitudes ++ (r.sun ∷ r.moon ∷ []))) ++ (r.tithi ∷ r.nakshatra ∷ r.yoga ∷ r.karana ∷ [])

-- a day in its 52 bytes, by the first edition
unfoldable pub day_bytes : ℕ → List ℕ
day_bytes n = record_bytes (record_on first_edition n)

unfoldable pub days_bytes : List ℕ → List ℕ
days_bytes [] = []
days_bytes (d ∷ ds) = day_bytes d ++ days_bytes ds

-- each byte times its position, which the first one has at p, summed
unfoldable pub weighted : ℕ → List ℕ → ℕ
weighted p [] = 0
weighted p (b ∷ bs) = b * p + weighted (suc p) bs

-- THE CHECKSUM: byte × (position + 1), position from 0
unfoldable pub checksum : List ℕ → ℕ
checksum bs = weighted 1 bs

-- how many days stand in block `index` of a file with so many: nine, and in the last block what is left
unfoldable pub days_in : ℕ → ℕ → ℕ
days_in count index = min 9 (count - 9 * index)

-- the bytes in front of the checksum, of the file of `count` days from `first` on: the block's index and the file's
-- count, the days, zeros in the places that are not used, and 32 zeros
unfoldable pub front : ℕ → ℕ → ℕ → List ℕ
front first count index =
    let days : ℕ = days_in count index in
    entry index ++ (entry count ++ (days_bytes (days_from (first + 9 * index) days) ++ (replicate (52 * (9 - days)) 0 ++ replicate 32 0)))

-- bytes with their checksum behind them
unfoldable pub sealed : List ℕ → List ℕ
sealed bs = bs ++ entry (checksum bs)

-- A BLOCK
unfoldable pub block_of : ℕ → ℕ → ℕ → List ℕ
block_of first count index = sealed (front first count index)

-- the days from `first` on are days, and there is such a block of them
unfoldable pub is_block : ℕ → ℕ → ℕ → Bool
is_block first count index = leb (first + count) (last_day + 1) && ltb (9 * index) count

-- bytes after a block is put at their front; as they were where there is no such block, or no room
unfoldable pub block_after : ℕ → ℕ → ℕ → List ℕ → List ℕ
block_after first count index before =
    cond (leb block_bytes (length before) && is_block first count index) (block_of first count index ++ drop block_bytes before) before

unfoldable pub all_zero : List ℕ → Bool
all_zero [] = true
all_zero (b ∷ bs) = eqb b 0 && all_zero bs

-- the checksum of a block's first 508 bytes stands behind them
unfoldable pub checksum_holds : List ℕ → Bool
checksum_holds b = eqb (entry_day b 127) (checksum (take 508 b))

-- a byte for each element, as one number
unfoldable pub elements_of : DayRecord → ℕ
elements_of r = r.tithi + 256 * r.nakshatra + 65536 * r.yoga + 16777216 * r.karana

-- a day's place as thirteen numbers of four bytes
unfoldable pub day_numbers : ℕ → List ℕ
day_numbers n = let r : DayRecord = record_on first_edition n in r.day ∷ (r.longitudes ++ (r.sun ∷ r.moon ∷ elements_of r ∷ []))

-- a block has these numbers, one after another from its number k on
unfoldable pub has_numbers : List ℕ → ℕ → List ℕ → Bool
has_numbers b k [] = true
has_numbers b k (x ∷ xs) = eqb (entry_day b k) x && has_numbers b (suc k) xs

-- a place of a block holds day n, which is a day, with its own fields
unfoldable pub day_holds : List ℕ → ℕ → ℕ → Bool
day_holds b place n = leb n last_day && has_numbers b (2 + 13 * place) (day_numbers n)

-- the places from one on hold these many days from day n on
unfoldable pub days_hold : List ℕ → ℕ → ℕ → ℕ → Bool
days_hold b place n zero = true
days_hold b place n (suc m) = day_holds b place n && days_hold b (suc place) (suc n) m

-- THE REFUSAL, if any, of a block that should be block `index` of the file of `count` days from `first` on
unfoldable pub block_refusal : ℕ → ℕ → ℕ → List ℕ → Result (Unit {0}) Refusal
block_refusal first count index b =
    let days : ℕ = days_in count index in
    let used : ℕ = 8 + 52 * days in
    cond (leb block_bytes (length b))
    (cond (checksum_holds b)
    (cond (eqb (entry_day b 0) index && eqb (entry_day b 1) count)
    (cond (all_zero (take (508 - used) (drop used b)))
    (cond (days_hold b 0 (first + 9 * index) days) (Ok tt) (Err BadDay))
    (Err NotZero))
    (Err BadIndex))
    (Err BadChecksum))
    (Err BadLength)

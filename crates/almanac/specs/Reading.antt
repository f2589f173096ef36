-- What is read of an almanac file, whole and block by block.
-- Assumes nothing.
use Rattle.std.specs.Prelude.{Bool, true, false, cond, ◌&&◌, List, [], ℕ, zero, suc, ◌+◌, ◌/◌, leb, ltb, eqb, length, take, drop, Result, Ok, Err, is_ok}
use Rattle.days.specs.declared.refusal.Refusal.{Refusal}
use Rattle.days.specs.declared.refusal.Refusal.TheVariants.{BadLength}
use Rattle.days.specs.Refusals.{accepted, bad_length, result_number, and_then}
use Rattle.days.specs.Days.{days_from}
use Rattle.entries.specs.Entries.{capacity, with_entries, entry_day}
use Rattle.blocks.specs.Blocks.{block_bytes, block_refusal}
use Rattle.entries.specs.declared.NotPut.{NotPut}
use Rattle.entries.specs.Told.{put_if, put_number}
use Rattle.almanac.specs.declared.Reader.{Reader}
use Rattle.almanac.specs.declared.Reading.{Reading}
use Rattle.almanac.specs.Files.{blocks_for, bytes_for}

-- the days that are read; and a refusal
abbrev pub the_days : ℕ → ℕ → Result Reading Refusal
the_days first count = Ok (record { first = first; count = count })

abbrev pub no_days : Refusal → Result Reading Refusal
no_days refusal = Err refusal

-- what the first block says: the days in the whole file, and the first of them
abbrev pub count_in : List ℕ → ℕ
count_in f = entry_day f 1

abbrev pub first_in : List ℕ → ℕ
first_in f = entry_day f 2

-- a file has at least one block, and as many bytes as its first block's count demands
unfoldable pub length_holds : List ℕ → Bool
length_holds f = leb block_bytes (length f) && eqb (length f) (bytes_for (count_in f))

-- the refusal of the first bad block, of k blocks from block `index` on, if one is bad
unfoldable pub first_bad : ℕ → ℕ → ℕ → ℕ → List ℕ → Result (Unit {0}) Refusal
first_bad first count index zero f = Ok tt
first_bad first count index (suc k) f = and_then (block_refusal first count index (take block_bytes f)) (λ _. first_bad first count (suc index) k (drop block_bytes f))

-- the days, where no block is bad
unfoldable pub days_unless : Result (Unit {0}) Refusal → ℕ → ℕ → Result Reading Refusal
days_unless sound first count = and_then sound (λ _. the_days first count)

-- WHAT A FILE MEANS: refusal 9 for its length, then that of its first bad block, or its days
unfoldable pub reading_of : List ℕ → Result Reading Refusal
reading_of f =
    let first : ℕ = first_in f in
    let count : ℕ = count_in f in
    cond (length_holds f) (days_unless (first_bad first count 0 (blocks_for count) f) first count) (no_days BadLength)

-- how many days are read, and which
abbrev pub count_read : Result Reading Refusal → Result ℕ Refusal
count_read reading = and_then reading (λ r. Ok r.count)

abbrev pub days_read : Result Reading Refusal → List ℕ
days_read (Ok r) = days_from r.first r.count
days_read (Err _) = []

-- WHAT IS HANDED BACK for a list of so many entries: the number of days, or with 7 what would do, or the file's refusal
unfoldable pub listing_of : List ℕ → ℕ → Result ℕ NotPut
listing_of f room = put_if (count_read (reading_of f)) room

-- the result: the file's refusal, then 7 where the list has fewer entries than there are days
unfoldable pub reading_result : List ℕ → ℕ → ℕ
reading_result f room = put_number (listing_of f room)

-- THE LIST AFTERWARDS: with the days at its front, or by any refusal as it was
unfoldable pub list_after : List ℕ → List ℕ → List ℕ
list_after f before = cond (eqb (reading_result f (capacity before)) accepted) (with_entries (days_read (reading_of f)) before) before

-- BLOCK BY BLOCK: the state before the first piece of a file
abbrev pub start : Reader
start = record { broken = false; blocks = 0; count = 0; first = 0; sound = Ok tt; block = 0 }

-- with what the first block says
unfoldable pub opened : Reader → List ℕ → Reader
opened r b =
    cond (eqb r.blocks 0)
    (record { broken = r.broken; blocks = r.blocks; count = count_in b; first = first_in b; sound = r.sound; block = r.block })
    r

-- with a block more, which is looked at where none was bad before
unfoldable pub taken : Reader → List ℕ → Reader
taken r b =
    record {
      broken = r.broken;
      blocks = r.blocks + 1;
      count = r.count;
      first = r.first;
      sound = and_then r.sound (λ _. block_refusal r.first r.count r.blocks b);
      block = cond (is_ok r.sound) r.blocks r.block;
    }

-- with a length that cannot be right any more
abbrev pub broken_off : Reader → Reader
broken_off r = record { broken = true; blocks = r.blocks; count = r.count; first = r.first; sound = r.sound; block = r.block }

-- the state after the next piece: a block, if the count demands one more, and otherwise nothing that a file could have
-- here
unfoldable pub next : Reader → List ℕ → Reader
next r b =
    let o : Reader = opened r b in
    cond r.broken r (cond (eqb (length b) block_bytes && ltb o.blocks (blocks_for o.count)) (taken o b) (broken_off r))

-- what is read, where the file ends here
unfoldable pub ended : Reader → Result Reading Refusal
ended r =
    cond r.broken (no_days BadLength)
    (cond (eqb r.blocks 0) (no_days BadLength)
    (cond (eqb r.blocks (blocks_for r.count)) (days_unless r.sound r.first r.count) (no_days BadLength)))

-- the block at fault, where the file ends here and is refused: by its length the one that is too few or too many, else
-- the first bad one
unfoldable pub fault_at : Reader → ℕ
fault_at r = cond (eqb (result_number (ended r)) bad_length) r.blocks r.block

-- the state after k pieces of a file, 512 bytes each but for the last
unfoldable pub through : Reader → ℕ → List ℕ → Reader
through r zero f = r
through r (suc k) f = through (next r (take block_bytes f)) k (drop block_bytes f)

-- how many pieces so many bytes are
abbrev pub pieces : ℕ → ℕ
pieces n = (n + 511) / block_bytes

-- the state after all of them
unfoldable pub gone_through : List ℕ → Reader
gone_through f = through start (pieces (length f)) f

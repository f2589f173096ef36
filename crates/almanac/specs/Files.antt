-- Almanac files: paper 02's blocks one after another, and what is written for a span.
-- Assumes nothing.
use Rattle.std.specs.Prelude.{cond, List, [], ◌++◌, ℕ, zero, suc, ◌+◌, ◌-◌, ◌*◌, ◌/◌, leb, ltb, eqb, length, drop, Result, Ok, Err, is_ok}
use Rattle.days.specs.declared.refusal.Refusal.{Refusal}
use Rattle.days.specs.declared.refusal.Refusal.TheVariants.{OutOfRange, ListTooShort}
use Rattle.days.specs.Refusals.{accepted, list_too_short}
use Rattle.days.specs.Days.{answer_over, refused_span_or}
use Rattle.entries.specs.declared.NotPut.{NotPut}
use Rattle.entries.specs.Told.{put_if}
use Rattle.blocks.specs.Blocks.{block_bytes, block_of}

-- how many blocks so many days take: nine a block
abbrev pub blocks_for : ℕ → ℕ
blocks_for count = (count + 8) / 9

-- so many bytes they are
abbrev pub bytes_for : ℕ → ℕ
bytes_for count = block_bytes * blocks_for count

-- k blocks from block `index` on, of the file of `count` days from `first` on
unfoldable pub blocks_from : ℕ → ℕ → ℕ → ℕ → List ℕ
blocks_from first count index zero = []
blocks_from first count index (suc k) = block_of first count index ++ blocks_from first count (suc index) k

-- A FILE: the blocks of `count` days from `first` on
unfoldable pub almanac_of : ℕ → ℕ → List ℕ
almanac_of first count = blocks_from first count 0 (blocks_for count)

-- the days of a span, both ends counted
abbrev pub span_days : ℕ → ℕ → ℕ
span_days first last = last - first + 1

-- THE BYTES OF ITS FILE, or why the span is refused: 2 for an end that is no day, then 5
unfoldable pub bytes_needed : ℕ → ℕ → Result ℕ Refusal
bytes_needed first last = answer_over first last (Ok (bytes_for (span_days first last)))

-- the result for so many lent bytes: the span's refusal, then 7 where they are too few
unfoldable pub writing_result : ℕ → ℕ → ℕ → ℕ
writing_result first last room = refused_span_or first last (cond (leb (bytes_for (span_days first last)) room) accepted list_too_short)

-- WHAT IS HANDED BACK: the bytes that are written, or with 7 those that would do, or 2 or 5
unfoldable pub writing_of : ℕ → ℕ → ℕ → Result ℕ NotPut
writing_of first last room = put_if (bytes_needed first last) room

-- THE BYTES AFTERWARDS: with the file at their front, or by any refusal as they were
unfoldable pub file_after : ℕ → ℕ → List ℕ → List ℕ
file_after first last before =
    cond (eqb (writing_result first last (length before)) accepted) (almanac_of first (span_days first last) ++ drop (bytes_for (span_days first last)) before) before

-- ONE BLOCK of a span's file: the span's refusal, then 2 for an index behind the last block, then 7 for fewer than 512
-- bytes
unfoldable pub block_result : ℕ → ℕ → ℕ → ℕ → Result (Unit {0}) Refusal
block_result first last index room =
    answer_over first last (cond (ltb index (blocks_for (span_days first last))) (cond (leb block_bytes room) (Ok tt) (Err ListTooShort)) (Err OutOfRange))

-- the bytes afterwards: with the block at their front, or by any refusal as they were
unfoldable pub block_written : ℕ → ℕ → ℕ → List ℕ → List ℕ
block_written first last index before =
    cond (is_ok (block_result first last index (length before))) (block_of first (span_days first last) index ++ drop block_bytes before) before

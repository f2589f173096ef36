-- Each refusal of a file is reached: five files, by computing.
-- Assumes nothing.
use mathlib.Core.Path.{◌≡◌, refl}
use mathlib.Core.List.{List, [], ◌∷◌, ◌++◌, map}
use Prim.Native.Nat.{ℕ}
use lib.ListN.{replicate}
use Rattle.entries.specs.Entries.{entry, entries, entry_day}
use Rattle.blocks.specs.Blocks.{weighted, checksum, sealed, all_zero, checksum_holds, days_in, day_holds, days_hold, block_refusal}
use Rattle.days.specs.Refusals.{result_number}
use Rattle.almanac.specs.Reading.{length_holds, first_bad, days_unless, reading_of}

-- the first numbers of a block of one day, and zeros behind them: sealed with their checksum, or with no checksum
-- none; no checksum; another index; a byte of the 32 that is not zero; the day after the last
abbrev pub files : List (List ℕ)
files =
    []
    ∷ (entries (0 ∷ 1 ∷ []) ++ replicate 504 0)
    ∷ sealed (entries (1 ∷ 1 ∷ []) ++ replicate 500 0)
    ∷ sealed (entries (0 ∷ 1 ∷ []) ++ (replicate 499 0 ++ (1 ∷ [])))
    ∷ sealed (entries (0 ∷ 1 ∷ 401600 ∷ []) ++ replicate 496 0)
    ∷ []

pub each-reached : map (λ (f : List ℕ). result_number (reading_of f)) files ≡ 9 ∷ 10 ∷ 11 ∷ 12 ∷ 13 ∷ []
unfolding entries entry entry_day weighted checksum sealed all_zero checksum_holds days_in day_holds days_hold block_refusal length_holds first_bad days_unless reading_of result_number
each-reached = refl

-- A set of weekdays as one number: a bit for each, Monday's the lowest.
-- Assumes nothing.
use Rattle.std.specs.Prelude.{Bool, ◌&&◌, ℕ, ◌/◌, ◌%◌, ◌^◌, min, leb, eqb}

-- the bit of weekday w; a number that is no weekday has the one behind the seven
abbrev pub bit_of : ℕ → ℕ
bit_of w = 2 ^ min w 7

-- a set has w, which is a weekday whose bit is 1
unfoldable pub in_set : ℕ → ℕ → Bool
in_set set w = leb w 6 && eqb (set / 2 ^ w % 2) 1

-- the set of all seven
abbrev pub every_weekday : ℕ
every_weekday = 127

-- What only contracts of private functions speak of.
-- Assumes nothing.
use Rattle.std.specs.Prelude.{List, ◌++◌, ℕ, drop}
use Rattle.almanac.specs.Files.{bytes_for, almanac_of}

-- a file at the front of bytes
abbrev pub with_file : ℕ → ℕ → List ℕ → List ℕ
with_file first count before = almanac_of first count ++ drop (bytes_for count) before

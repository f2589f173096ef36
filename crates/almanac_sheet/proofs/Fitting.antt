-- What is said of a block fits a line: each text is short, and the block's number has at most ten digits. Assumes
-- nothing.
use mathlib.Core.Bool.{Bool, true, false, cond}
use mathlib.Core.List.{List}
use Prim.Native.Nat.{ℕ, ◌≤◌, ◌<◌}
use native.Mathlib.Omega.{arith}
use lib.Dec.{eqb}
use lib.ListN.{length, length-append}
use Rattle.days.specs.Refusals.{bad_length, bad_checksum, bad_index, not_zero}
use Rattle.text.specs.Lines.{line_capacity}
use Rattle.text.proofs.Printing.{digits-length}
use Rattle.almanac_sheet.specs.AlmanacSheets.{fault_text, fault_line}

-- the longer of two texts that one is picked from
picked : (b : Bool) (one other : List ℕ) (most : ℕ) → length one ≤ most → length other ≤ most → length (cond b one other) ≤ most
picked true one other most h k = h
picked false one other most h k = k

fault-short : (refusal : ℕ) → length (fault_text refusal) ≤ 60
unfolding fault_text
fault-short refusal =
    picked (eqb refusal bad_length) _ _ 60 (omega arith)
    (picked (eqb refusal bad_checksum) _ _ 60 (omega arith) (picked (eqb refusal bad_index) _ _ 60 (omega arith) (picked (eqb refusal not_zero) _ _ 60 (omega arith) (omega arith))))

pub fault-fits : (block refusal : ℕ) → block < 4294967296 → length (fault_line block refusal) ≤ line_capacity
unfolding fault_line
fault-fits block refusal h = simp length-append (omega (arith, digits-length 9 block (omega arith), fault-short refusal))

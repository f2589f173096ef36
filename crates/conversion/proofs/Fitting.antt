-- What is said fits a line. Assumes nothing.
use Prim.Native.Nat.{ℕ, ◌≤◌, ◌<◌}
use native.Mathlib.Omega.{arith}
use lib.Dec.{eqb}
use lib.ListN.{length, length-append}
use Rattle.days.specs.Refusals.{list_too_short, bad_line}
use Rattle.text.specs.Lines.{line_capacity}
use Rattle.text.proofs.Printing.{digits-length}
use Rattle.messages.proofs.Fitting.{picked, refusal-short}
use Rattle.date_lines.specs.declared.Kind.{Kind}
use Rattle.date_lines.specs.declared.Kind.TheVariants.{Dates, Days}
use Rattle.conversion.specs.Conversion.{form_text, fault_text, fault_line}

form-short : (kind : Kind) → length (form_text kind) ≤ 53
form-short Dates = omega arith
form-short Days = omega arith

fault-short : (kind : Kind) (r : ℕ) → length (fault_text kind r) ≤ 53
unfolding fault_text
fault-short kind r =
    picked (eqb r bad_line) _ _ 53 (form-short kind) (picked (eqb r list_too_short) _ _ 53 (omega arith) (refusal-short r))

pub fault-fits : (kind : Kind) (r line : ℕ) → line < 18446744073709551616 → length (fault_line kind r line) ≤ line_capacity
unfolding fault_line
fault-fits kind r line h = simp length-append (omega (arith, digits-length 19 line (omega arith), fault-short kind r))

-- Along the loop that prints a sheet, a line that was put into the buffer waits there behind the others. Assumes
-- nothing.
use mathlib.Core.List.{List}
use mathlib.Core.Path.{◌≡◌, ap, sym, subst, ◌∙◌}
use Prim.Native.Nat.{ℕ, ◌+◌, ◌≤◌, ◌<◌}
use native.Mathlib.Omega.{arith}
use lib.ListN.{length}
use Rattle.text.specs.declared.Line.{Line}
use Rattle.text.specs.Lines.{contents, Holds}
use Rattle.text.specs.Sheets.{line_at, put_at}
use Rattle.text.proofs.Holding.{holds-length}
use Rattle.text.proofs.Sheets.{Waiting, waiting-more}

pub waiting-line :
    (lines : List (List ℕ)) (room : ℕ) (buffer : List ℕ) (from bytes index : ℕ) (after : List ℕ) (l : Line) →
    Waiting lines room buffer from bytes index →
    index < length lines →
    Holds l (line_at lines index) →
    bytes + l.len ≤ room →
    after ≡ put_at buffer bytes (contents l) →
    Waiting lines room after from (bytes + l.len) (index + 1)
waiting-line lines room buffer from bytes index after l w h holds fits put =
    let long : length (contents l) ≡ l.len = ap length holds.whole ∙ sym (holds-length holds) in
    subst (λ (n : ℕ). Waiting lines room after from (bytes + n) (index + 1)) long
    (waiting-more lines room buffer from bytes index after (contents l) w h holds.whole (omega arith) put)

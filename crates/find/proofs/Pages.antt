-- What is known of a page that was read: an accepted one has a query that is not refused, and the number of a line at
-- fault is small. Assumes nothing.
use mathlib.Core.Path.{◌≡◌, sym}
use mathlib.Core.List.{List}
use Prim.Native.Nat.{ℕ, ◌≤◌, ◌<◌}
use native.Mathlib.Omega.{arith}
use lib.ListN.{length}
use Rattle.std.specs.Prelude.{Ok, Err}
use Rattle.page.specs.declared.PageRead.{PageRead}
use Rattle.page.specs.declared.Fault.{Fault}
use Rattle.page.specs.Page.{page_read}
use Rattle.page.proofs.Accepted.{accepted-page}
use Rattle.page.proofs.LineNumbers.{line-number}
use Rattle.query.specs.Query.{refusal_of}
use Rattle.text.specs.Inputs.{too_long}

pub accepted-query : (text : List ℕ) (read : PageRead) → Ok read ≡ page_read text → refusal_of read.query ≡ 0
accepted-query text read e = accepted-page text (sym e)

pub small-number : (text : List ℕ) (fault : Fault) → Err fault ≡ page_read text → length text ≤ too_long → fault.line < 4294967296
small-number text fault e h = omega (arith, line-number text (sym e))

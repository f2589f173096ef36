-- `is_to` meets its contract: the constant is one name. Assumes nothing.
use mathlib.Core.Path.{ap}
use Prim.Native.Nat.{ℕ}
use lib.Dec.{eqb}
use Rattle.words.specs.Words.{pieces, is_separator, in_front}
use Rattle.page.proofs.is_to.Goals as goal

pub returns : goal.returns
unfolding pieces is_separator in_front
returns c = ap (λ (n : ℕ). eqb n 0) c.place_in.ensures

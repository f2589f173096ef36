-- What each turn of the loop keeps.
use Prim.Native.Nat.{ℕ, ◌<◌}
use mathlib.Core.Path.{◌≡◌}
use lib.ListN.{length, get_or}
use Rattle.query.specs.Conditions.{no_arcs}
use Rattle.bridge.specs.Bytes.{body_arcs_from}
use Rattle.bridge.proofs.arcs_at.Given as goal

abbrev pub invariant-loop-k : goal.invariant-loop-k
invariant-loop-k g l =
    (length l.arcs ≡ length l.places)
    × ((j : ℕ) → j < l.k → get_or l.arcs j no_arcs ≡ body_arcs_from l.query l.apart (get_or l.places j 0))

-- `arcs_at` meets its contract: the arcs are the meaning's place by place. Assumes nothing.
use mathlib.Core.Path.{sym, ◌∙◌}
use Prim.Native.Nat.{◌<◌}
use native.Mathlib.Omega.{arith}
use lib.ListN.{length, length-map}
use Rattle.std.proofs.lemmas.List.{ext_get_or, get_or-map}
use Rattle.query.specs.Conditions.{no_arcs}
use Rattle.bridge.specs.Bytes.{body_arcs_from}
use Rattle.bridge.proofs.arcs_at.Goals as goal

pub returns : goal.returns
returns g c =
    let a = c.args in
    let long = c.loop-k.invariant.0 in
    ext_get_or no_arcs _ _
    (long ∙ sym (length-map _ _))
    (λ i h.
    let within : i < length a.places.now = omega (arith, long) in
    c.loop-k.invariant.1 i (omega (arith, c.told-places, c.loop-k-test.false))
    ∙ sym (get_or-map (body_arcs_from a.query.now a.apart) a.places.now i 0 no_arcs within))

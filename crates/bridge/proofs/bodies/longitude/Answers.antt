-- `longitude` meets its contract: the answer is the library's for the body of that number, where there is one. Assumes
-- nothing.
use mathlib.Core.List.{[], ◌∷◌}
use mathlib.Core.Path.{◌≡◌}
use Prim.Native.Nat.{ℕ, zero, suc, ◌≤◌, ◌<◌}
use native.Mathlib.Omega.{arith}
use borrow.Author.Tests.{le-leb, lt-leb}
use lib.ListN.{get_or}
use Rattle.longitudes.specs.declared.Body.{Body}
use Rattle.longitudes.specs.declared.Body.TheVariants.{Sun, Moon, MoonApogee, MoonNode, Mars, MercuryAnomaly, Jupiter, VenusAnomaly, Saturn}
use Rattle.bridge.specs.Bodies.{body_from, bridge_longitude}
use Rattle.bridge.proofs.bodies.longitude.Goals as goal

in_order :
    (n : ℕ) (b : Body) →
    n < 9 →
    b ≡ get_or (Sun ∷ Moon ∷ MoonApogee ∷ MoonNode ∷ Mars ∷ MercuryAnomaly ∷ Jupiter ∷ VenusAnomaly ∷ Saturn ∷ []) n b →
    b ≡ body_from n
unfolding body_from
in_order zero b h e = e
in_order (suc zero) b h e = e
in_order (suc (suc zero)) b h e = e
in_order (suc (suc (suc zero))) b h e = e
in_order (suc (suc (suc (suc zero)))) b h e = e
in_order (suc (suc (suc (suc (suc zero))))) b h e = e
in_order (suc (suc (suc (suc (suc (suc zero)))))) b h e = e
in_order (suc (suc (suc (suc (suc (suc (suc zero))))))) b h e = e
in_order (suc (suc (suc (suc (suc (suc (suc (suc zero)))))))) b h e = e
in_order (suc (suc (suc (suc (suc (suc (suc (suc (suc n))))))))) b h e = absurd (omega (arith, h))

pub returns-in-Some : goal.returns-in-Some
unfolding bridge_longitude
returns-in-Some c =
    let there : c.args.body < 9 = c.in-Some.ensures.lookup.3.0 in
    let within : c.args.body ≤ 8 = omega (arith, there) in
    rw (c.mean_longitude.ensures, c.at.ensures, in_order _ _ there c.in-Some.ensures.lookup.1, le-leb _ _ within)

pub returns-in-None : goal.returns-in-None
unfolding bridge_longitude
returns-in-None c =
    let beyond : 8 < c.args.body = omega (arith, c.in-None.ensures.lookup.3) in
    rw (lt-leb _ _ beyond)

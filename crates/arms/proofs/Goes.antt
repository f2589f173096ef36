-- How far it is from a longitude to another, between two ends: ways add up with the longitudes, so that a day's way of
-- a sum or a difference is one of its parts' ways.
-- Assumes nothing.
use mathlib.Core.Path.{◌≡◌}
use Prim.Native.Nat.{ℕ, ◌+◌, ◌*◌, ◌-◌, ◌/◌, ◌%◌, ◌<◌, ◌≤◌}
use native.Mathlib.Decide.{dec_le}
use native.Mathlib.Omega.{arith}
use Rattle.longitudes.specs.Longitudes.{circle, difference_of}
use Rattle.longitudes.proofs.Subtraction.{difference-by, difference-law}
use Rattle.arms.specs.Degrees.{short_way}
use Rattle.arms.proofs.Ranges.{Within}
use Rattle.arms.proofs.ShortWay.{way-forwards, way_back}

-- the way's least is lead less lag, and its most so many seconds more
pub record Ends : Type 0 where
  pub lag : ℕ
  pub lead : ℕ
  pub spread : ℕ

pub record Goes (e : Ends) (from to : ℕ) : Type 0 where
  pub more : ℕ
  pub few : more ≤ e.spread
  -- whole circles
  pub on : ℕ
  pub off : ℕ
  pub is : to + e.lag + on * circle ≡ from + e.lead + more + off * circle

abbrev pub ends : ℕ → ℕ → ℕ → Ends
ends lag lead spread = record { lag = lag; lead = lead; spread = spread }

-- from n seconds back to n forwards
abbrev pub about : ℕ → Ends
about n = ends n 0 (n + n)

-- not at all
abbrev pub still : Ends
still = ends 0 0 0

pub stays : (x : ℕ) → Goes still x x
stays x = record { more = 0; few = omega arith; on = 0; off = 0; is = omega arith }

-- no farther than so many seconds back, and so many forwards
pub record Upto (back forth : ℕ) (e : Ends) : Type 0 where
  pub least : e.lag ≤ e.lead + back
  pub most : e.lead + e.spread ≤ e.lag + forth

abbrev pub plus : Ends → Ends → Ends
plus d e = ends (d.lag + e.lag) (d.lead + e.lead) (d.spread + e.spread)

abbrev pub less : Ends → Ends → Ends
less d e = ends (d.lag + e.lead + e.spread) (d.lead + e.lag) (d.spread + e.spread)

module _ (d e : Ends) (a b x y : ℕ) (g : Goes d a b) (h : Goes e x y) where
  pub sum_goes : Goes (plus d e) ((a + x) % circle) ((b + y) % circle)
  sum_goes =
      record {
        more = g.more + h.more;
        few = omega (arith, g.few, h.few);
        on = g.on + h.on + (b + y) / circle;
        off = g.off + h.off + (a + x) / circle;
        is = omega (arith, g.is, h.is);
      }

  pub difference-goes : x ≤ circle → y ≤ circle → Goes (less d e) (difference_of a x) (difference_of b y)
  difference-goes k l =
      rw (difference-law a x k, difference-law b y l)
      (record {
        more = g.more + (e.spread - h.more);
        few = omega (arith, g.few, h.few);
        on = g.on + h.off + (b + circle - y) / circle;
        off = g.off + h.on + (a + circle - x) / circle;
        is = omega (arith, g.is, h.is, h.few);
      })

-- a way that is forwards, by its least
pub forwards-goes : (e : Ends) (from to : ℕ) → e.lag ≤ e.lead → Goes e from to → Goes (ends 0 (e.lead - e.lag) e.spread) from to
forwards-goes e from to h g = record { more = g.more; few = g.few; on = g.on; off = g.off; is = omega (arith, g.is) }

-- the short way
pub goes-way : (back forth : ℕ) (e : Ends) (from to : ℕ) → Goes e from to → Upto back forth e → back ≤ 648000 → forth < 648000 → Within back forth (short_way from to)
goes-way back forth e from to g u k l = go (dec_le e.lag (e.lead + g.more))
  where
    go : Dec (e.lag ≤ e.lead + g.more) → Within back forth (short_way from to)
    go (yes h) =
        let z : ℕ = e.lead + g.more - e.lag in
        let x : z ≡ difference_of to from = omega (arith, difference-by to from (z + g.off * circle) g.on (omega (arith, g.is)), g.few, u.most) in
        rw (way-forwards from to z x (omega (arith, g.few, u.most))) (omega (arith, g.few, u.most))
    go (no h) =
        let z : ℕ = e.lag - e.lead - g.more in
        let x : circle - z ≡ difference_of to from = omega (arith, difference-by to from (g.off * circle + (circle - z)) (g.on + 1) (omega (arith, g.is, u.least)), u.least) in
        rw (way_back from to (circle - z) x (omega (arith, u.least))) (omega (arith, u.least))

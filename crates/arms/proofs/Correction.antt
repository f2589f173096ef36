-- How far a signed correction goes where its anomaly does: from a second to the next the number that it is reckoned
-- from changes by at most its steepness, also where the sign turns, since there it is 0.
-- Assumes nothing.
use mathlib.Core.Bool.{Bool, true, false, cond}
use mathlib.Core.Path.{◌≡◌, refl, sym, ap, ◌∙◌}
use Prim.Native.Nat.{ℕ, zero, suc, ◌+◌, ◌*◌, ◌-◌, ◌%◌, ◌<◌, ◌≤◌}
use native.Mathlib.Decide.{dec_le}
use native.Mathlib.Nat.{mul-le-mul_left}
use native.Mathlib.Omega.{arith}
use lib.Dec.{leb}
use borrow.Author.Tests.{le-leb, lt-leb, leb-true, leb-false}
use Rattle.longitudes.specs.Longitudes.{circle}
use Rattle.planets.specs.Steps.{within_half}
use Rattle.planets.specs.Parts.{SignedBy}
use Rattle.planets.proofs.Signs.{forwards, backwards}
use Rattle.arms.proofs.Goes.{Goes, Ends, Upto, about}

-- a correction of this size at the anomaly x, as seconds forwards: what is subtracted is the rest of a circle
unfoldable pub sent : ℕ → ℕ → ℕ
sent x size = cond (leb x 648000) size (circle - size)

pub sent-signed : (x size : ℕ) → size ≤ circle → SignedBy x size (sent x size)
unfolding sent
sent-signed x size h = go (dec_le x 648000)
  where
    go : Dec (x ≤ 648000) → SignedBy x size (cond (leb x 648000) size (circle - size))
    go (yes k) = rw (le-leb x 648000 k) (forwards x size k h)
    go (no k) = let l : 648000 < x = omega arith in rw (lt-leb x 648000 l) (backwards x size l h)

pub half-most : (x : ℕ) → x < circle → within_half x ≤ 648000
unfolding within_half
half-most x h = go (dec_le x 648000)
  where
    go : Dec (x ≤ 648000) → cond (leb x 648000) x (circle - x) ≤ 648000
    go (yes k) = rw (le-leb x 648000 k) k
    go (no k) = let l : 648000 < x = omega arith in rw (lt-leb x 648000 l) (omega arith)

-- A number g of the anomaly folded to half a circle, which is 0 at its ends, and changes by at most D in a second.
pub record Even (g : ℕ → ℕ) (D : ℕ) : Type 0 where
  pub start : g 0 ≡ 0
  pub end : g 648000 ≡ 0
  pub up : (y : ℕ) → y < 648000 → g (y + 1) ≤ g y + D
  pub down : (y : ℕ) → y < 648000 → g y ≤ g (y + 1) + D

-- The correction of that number, which is its size: two sizes are at most M apart where the numbers are at most w.
pub record Sized (g size : ℕ → ℕ) (w M : ℕ) : Type 0 where
  pub small : (y : ℕ) → y ≤ 648000 → size y ≤ circle
  pub rise : (y z : ℕ) → y ≤ 648000 → z ≤ 648000 → g z ≤ g y + w → size z ≤ size y + M
  pub both : (y z : ℕ) → y ≤ 648000 → z ≤ 648000 → g y + g z ≤ w → size y + size z ≤ M

module _ (g : ℕ → ℕ) (D : ℕ) (even : Even g D) where
  -- what it adds, and what it subtracts
  unfoldable adds : ℕ → ℕ
  adds x = cond (leb x 648000) (g x) 0

  unfoldable takes : ℕ → ℕ
  takes x = cond (leb x 648000) 0 (g (circle - x))

  early : (x : ℕ) → x ≤ 648000 → (adds x ≡ g x) × (takes x ≡ 0)
  unfolding adds takes
  early x h = (rw (le-leb x 648000 h), rw (le-leb x 648000 h))

  beyond : (x : ℕ) → 648000 < x → (adds x ≡ 0) × (takes x ≡ g (circle - x))
  unfolding adds takes
  beyond x h = (rw (lt-leb x 648000 h), rw (lt-leb x 648000 h))

  -- from the half circle on, up to the whole one
  late : (x : ℕ) → 648000 ≤ x → x ≤ circle → (adds (x % circle) ≡ 0) × (takes (x % circle) ≡ g (circle - x))
  late x h k = go (dec_le x 648000) (dec_le circle x)
    where
      at : {a b : ℕ} → a ≡ b → (adds b ≡ 0) × (takes b ≡ g (circle - x)) → (adds a ≡ 0) × (takes a ≡ g (circle - x))
      at e p = rw e p

      go : Dec (x ≤ 648000) → Dec (circle ≤ x) → (adds (x % circle) ≡ 0) × (takes (x % circle) ≡ g (circle - x))
      go (yes l) m =
          let p = early 648000 (omega arith) in
          at {a = x % circle} {b = 648000} (omega arith) (p.0 ∙ even.end, p.1 ∙ sym (ap g {x = circle - x} {y = 648000} (omega arith) ∙ even.end))
      go (no l) (yes m) =
          let p = early 0 (omega arith) in
          at {a = x % circle} {b = 0} (omega arith) (p.0 ∙ even.start, p.1 ∙ sym (ap g {x = circle - x} {y = 0} (omega arith) ∙ even.start))
      go (no l) (no m) = at {a = x % circle} {b = x} (omega arith) (beyond x (omega arith))

  -- signed, two are at most w apart
  record Close (w x z : ℕ) : Type 0 where
    pub up : adds z + takes x ≤ adds x + takes z + w
    pub down : adds x + takes z ≤ adds z + takes x + w

  second : (x : ℕ) → x < circle → Close D x ((x + 1) % circle)
  second x h = go (dec_le (x + 1) 648000)
    where
      go : Dec (x + 1 ≤ 648000) → Close D x ((x + 1) % circle)
      go (yes k) =
          let e : (x + 1) % circle ≡ x + 1 = omega arith in
          let a = early x (omega arith) in
          let b = early (x + 1) k in
          rw e (omega (arith, a, b, even.up x (omega arith), even.down x (omega arith)))
      go (no k) =
          let y : ℕ = circle - (x + 1) in
          let e : x % circle ≡ x = omega arith in
          let a = rw e at (late x (omega arith) (omega arith)) in
          let b = late (x + 1) (omega arith) (omega arith) in
          let f : g (circle - x) ≡ g (y + 1) = ap g (omega arith) in
          omega (arith, a, b, f, even.up y (omega arith), even.down y (omega arith))

  seconds : (x k : ℕ) → x < circle → Close (D * k) x ((x + k) % circle)
  seconds x zero h = let e : (x + 0) % circle ≡ x = omega arith in rw e (omega arith)
  seconds x (suc k) h =
      let c = seconds x k h in
      let o = second ((x + k) % circle) (omega arith) in
      let e : (x + suc k) % circle ≡ ((x + k) % circle + 1) % circle = omega arith in
      let m : D * suc k ≡ D * k + D = omega arith in
      rw (e, m) (omega (arith, c, o))

  close : (n w x z : ℕ) (e : Ends) → x < circle → z < circle → Goes e x z → Upto n n e → D * n ≤ w → Close w x z
  close n w x z e h k m u l = go (dec_le e.lag (e.lead + m.more))
    where
      wide : (s : ℕ) → s ≤ n → D * s ≤ w
      wide s r = omega (arith, mul-le-mul_left D r)

      go : Dec (e.lag ≤ e.lead + m.more) → Close w x z
      go (yes r) =
          let s : ℕ = e.lead + m.more - e.lag in
          let t : (x + s) % circle ≡ z = omega (arith, m.is) in
          let c = rw t at (seconds x s h) in
          omega (arith, c, wide s (omega (arith, m.few, u.most)))
      go (no r) =
          let s : ℕ = e.lag - e.lead - m.more in
          let t : (z + s) % circle ≡ x = omega (arith, m.is) in
          let c = rw t at (seconds z s k) in
          omega (arith, c, wide s (omega (arith, u.least)))

  module _ (size : ℕ → ℕ) (w M : ℕ) (s : Sized g size w M) where
    abbrev correction : ℕ → ℕ
    correction x = sent x (size (within_half x))

    moved : (x z : ℕ) → x < circle → z < circle → Close w x z → Goes (about M) (correction x) (correction z)
    unfolding sent within_half
    moved x z h k c = go (leb x 648000) (leb z 648000) refl refl
      where
        go : (t u : Bool) → leb x 648000 ≡ t → leb z 648000 ≡ u → Goes (about M) (cond t (size (cond t x (circle - x))) (circle - size (cond t x (circle - x)))) (cond u (size (cond u z (circle - z))) (circle - size (cond u z (circle - z))))
        go true true et eu =
            let a = early x (leb-true x 648000 et) in
            let b = early z (leb-true z 648000 eu) in
            let up = s.rise x z (leb-true x 648000 et) (leb-true z 648000 eu) (omega (arith, a, b, c.up)) in
            let down = s.rise z x (leb-true z 648000 eu) (leb-true x 648000 et) (omega (arith, a, b, c.down)) in
            record { more = size z + M - size x; few = omega (arith, up, down); on = 0; off = 0; is = omega (arith, up, down) }
        go true false et eu =
            let l = leb-false z 648000 eu in
            let a = early x (leb-true x 648000 et) in
            let b = beyond z (omega arith) in
            let both = s.both x (circle - z) (leb-true x 648000 et) (omega arith) (omega (arith, a, b, c.down)) in
            record { more = M - size x - size (circle - z); few = omega arith; on = 0; off = 1; is = omega (arith, both, s.small (circle - z) (omega arith)) }
        go false true et eu =
            let l = leb-false x 648000 et in
            let a = beyond x (omega arith) in
            let b = early z (leb-true z 648000 eu) in
            let both = s.both (circle - x) z (omega arith) (leb-true z 648000 eu) (omega (arith, a, b, c.up)) in
            record { more = size z + size (circle - x) + M; few = omega (arith, both); on = 1; off = 0; is = omega (arith, both, s.small (circle - x) (omega arith)) }
        go false false et eu =
            let l = leb-false x 648000 et in
            let m = leb-false z 648000 eu in
            let a = beyond x (omega arith) in
            let b = beyond z (omega arith) in
            let up = s.rise (circle - x) (circle - z) (omega arith) (omega arith) (omega (arith, a, b, c.down)) in
            let down = s.rise (circle - z) (circle - x) (omega arith) (omega arith) (omega (arith, a, b, c.up)) in
            record {
              more = size (circle - x) + M - size (circle - z);
              few = omega (arith, up, down);
              on = 0;
              off = 0;
              is = omega (arith, up, down, s.small (circle - x) (omega arith), s.small (circle - z) (omega arith));
            }

    -- THE CORRECTION of an anomaly that goes at most n seconds goes at most M
    pub correction-goes : (n x z : ℕ) (e : Ends) → x < circle → z < circle → Goes e x z → Upto n n e → D * n ≤ w → Goes (about M) (correction x) (correction z)
    correction-goes n x z e h k m u l = moved x z h k (close n w x z e h k m u l)

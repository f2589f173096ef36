-- The largest value over a span and the first day that has it, told by what holds of them: no day is above it, that day
-- has it, and no earlier one does. Only one value and one day do.
-- Assumes nothing.
use mathlib.Core.Path.{◌≡◌, refl, ap, sym}
use mathlib.Core.Bool.{Bool, true, false}
use mathlib.Core.List.{List, [], ◌∷◌}
use Prim.Native.Nat.{ℕ, zero, suc, ◌+◌, ◌≤◌, ◌<◌, max}
use native.Mathlib.Decide.{dec_le}
use native.Mathlib.Omega.{arith}
use lib.Dec.{eqb}
use borrow.Author.Tests.{eqb-true, eqb-false}
use Rattle.days.specs.Days.{days_from}
use Rattle.older_motions.specs.OlderMotions.{largest_over, first_with}

pub record Peak (f : ℕ → ℕ) (first last most day : ℕ) : Type 0 where
  pub from : first ≤ day
  pub upto : day ≤ last
  pub reached : f day ≡ most
  pub above : (d : ℕ) → first ≤ d → d ≤ last → f d ≤ most
  pub before : (d : ℕ) → first ≤ d → d < day → f d < most

module _ (f : ℕ → ℕ) where
  f-at : (a b : ℕ) → a ≡ b → f a ≡ f b
  f-at a b e = ap f e

  -- a span of one day
  pub peak-one : (first : ℕ) → Peak f first first (f first) first
  peak-one first =
      record {
        from = omega arith;
        upto = omega arith;
        reached = refl;
        above = λ d l h. omega (arith, f-at d first (omega arith));
        before = λ d l h. absurd (omega arith);
      }

  -- a day more, not above what was found
  pub peak-stays : (first last most day : ℕ) → Peak f first last most day → f (last + 1) ≤ most → Peak f first (last + 1) most day
  peak-stays first last most day p h =
      record {
        from = p.from;
        upto = omega arith;
        reached = p.reached;
        above = λ d l u. up d l (dec_le d last) u;
        before = p.before;
      }
    where
      up : (d : ℕ) → first ≤ d → Dec (d ≤ last) → d ≤ last + 1 → f d ≤ most
      up d l (yes w) u = p.above d l w
      up d l (no w) u = omega (arith, f-at d (last + 1) (omega arith))

  -- a day more, above it
  pub peak-moves : (first last most day : ℕ) → Peak f first last most day → most < f (last + 1) → Peak f first (last + 1) (f (last + 1)) (last + 1)
  peak-moves first last most day p h =
      record {
        from = omega arith;
        upto = omega arith;
        reached = refl;
        above = λ d l u. up d l (dec_le d last) u;
        before = λ d l u. omega (arith, p.above d l (omega arith));
      }
    where
      up : (d : ℕ) → first ≤ d → Dec (d ≤ last) → d ≤ last + 1 → f d ≤ f (last + 1)
      up d l (yes w) u = omega (arith, p.above d l w)
      up d l (no w) u = omega (arith, f-at d (last + 1) (omega arith))

  pub peak-most : (first last most day x e : ℕ) → Peak f first last most day → Peak f first last x e → most ≡ x
  peak-most first last most day x e p r =
      omega (arith, p.reached, r.reached, p.above e r.from r.upto, r.above day p.from p.upto)

  pub peak-day : (first last most day x e : ℕ) → Peak f first last most day → Peak f first last x e → day ≡ e
  peak-day first last most day x e p r = go (dec_le day e) (dec_le e day)
    where
      go : Dec (day ≤ e) → Dec (e ≤ day) → day ≡ e
      go (yes a) (yes b) = omega arith
      go (yes a) (no b) = absurd (omega (arith, peak-most first last most day x e p r, p.reached, r.before day p.from (omega arith)))
      go (no a) b = absurd (omega (arith, peak-most first last most day x e p r, r.reached, p.before e r.from (omega arith)))

  -- a day in front that none behind it is above, and one that is below the largest
  peak-first : (first last most x e : ℕ) → first < last → Peak f (suc first) last x e → f first ≡ most → x ≤ most → Peak f first last most first
  peak-first first last most x e o p h l =
      record {
        from = omega arith;
        upto = omega arith;
        reached = h;
        above = λ d a u. up d (dec_le d first) a u;
        before = λ d a u. absurd (omega arith);
      }
    where
      up : (d : ℕ) → Dec (d ≤ first) → first ≤ d → d ≤ last → f d ≤ most
      up d (yes w) a u = omega (arith, f-at d first (omega arith))
      up d (no w) a u = omega (arith, p.above d (omega arith) u)

  peak-later : (first last most day : ℕ) → Peak f (suc first) last most day → f first < most → Peak f first last most day
  peak-later first last most day p h =
      record {
        from = omega (arith, p.from);
        upto = p.upto;
        reached = p.reached;
        above = λ d a u. up d (dec_le d first) a u;
        before = λ d a u. below d (dec_le d first) a u;
      }
    where
      up : (d : ℕ) → Dec (d ≤ first) → first ≤ d → d ≤ last → f d ≤ most
      up d (yes w) a u = omega (arith, f-at d first (omega arith))
      up d (no w) a u = p.above d (omega arith) u

      below : (d : ℕ) → Dec (d ≤ first) → first ≤ d → d < day → f d < most
      below d (yes w) a u = omega (arith, f-at d first (omega arith))
      below d (no w) a u = p.before d (omega arith) u

  -- the largest value of one day, and of a day in front of others
  peak-single : (first : ℕ) → Peak f first first (largest_over f (first ∷ [])) (first_with f (largest_over f (first ∷ [])) (first ∷ []))
  unfolding largest_over first_with
  peak-single first = go (max (f first) 0) refl (eqb (f first) (max (f first) 0)) refl
    where
      go : (m : ℕ) → max (f first) 0 ≡ m → (b : Bool) → eqb (f first) m ≡ b → Peak f first first m (elim b [ true ↦ first | false ↦ 0 ])
      go m e true t = rw (sym (eqb-true (f first) m t)) (peak-one first)
      go m e false t = absurd (omega (arith, eqb-false (f first) m t))

  peak-front :
      (first last : ℕ) (rest : List ℕ) →
      first < last →
      Peak f (suc first) last (largest_over f rest) (first_with f (largest_over f rest) rest) →
      Peak f first last (largest_over f (first ∷ rest)) (first_with f (largest_over f (first ∷ rest)) (first ∷ rest))
  unfolding largest_over first_with
  peak-front first last rest l p = go (max (f first) (largest_over f rest)) refl (eqb (f first) (max (f first) (largest_over f rest))) refl
    where
      go : (m : ℕ) → max (f first) (largest_over f rest) ≡ m → (b : Bool) → eqb (f first) m ≡ b → Peak f first last m (elim b [ true ↦ first | false ↦ first_with f m rest ])
      go m e true t = peak-first first last m (largest_over f rest) (first_with f (largest_over f rest) rest) l p (eqb-true _ _ t) (omega arith)
      go m e false t =
          let w : largest_over f rest ≡ m = omega (arith, eqb-false (f first) m t) in
          peak-later first last m (first_with f m rest) (rw w at p) (omega (arith, eqb-false (f first) m t))

  -- THE MEANING'S LAW: over the n + 1 days from the first on
  pub peak-of :
      (n first last : ℕ) →
      first + n ≡ last →
      Peak f first last (largest_over f (days_from first (suc n))) (first_with f (largest_over f (days_from first (suc n))) (days_from first (suc n)))
  unfolding days_from
  peak-of zero first last s =
      let h : first ≡ last = omega arith in
      rw (sym h) (peak-single first)
  peak-of (suc n) first last s = peak-front first last (days_from (suc first) (suc n)) (omega arith) (peak-of n (suc first) last (omega arith))

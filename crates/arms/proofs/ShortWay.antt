-- The short way is the way forwards, or that less a circle, as the code has it in signed 32-bit numbers; and it is
-- within half a circle.
-- Assumes nothing.
use mathlib.Core.Path.{◌≡◌, refl, sym, ap, ◌∙◌, subst}
use Prim.Native.Nat.{ℕ, suc, ◌-◌, ◌≤◌, ◌<◌}
use native.Mathlib.Nat.{lt_of_lt_of_le}
use native.Mathlib.Decide.{dec_lt}
use native.Mathlib.Omega.{arith}
use borrow.Author.Tests.{lt-ltb, le-ltb}
use mathlib.Core.Bool.{cond}
use lib.Dec.{lit≤, ltb}
use lib.IntN.{ℤ, pos, negsuc, ◌-ℤ◌}
use mir.Syntax.{w32}
use mir.Val.{SFits, to_z}
use mir.Facts.{to_z_pos}
use Rattle.longitudes.specs.Longitudes.{circle, difference_of}
use Rattle.longitudes.proofs.Subtraction.{difference-small, is-small, difference-turned}
use Rattle.arms.specs.Degrees.{half, short_way}
use Rattle.arms.specs.Parts.{signed_way}
use Rattle.arms.proofs.Ranges.{Within}

pub way-forwards : (from to x : ℕ) → x ≡ difference_of to from → x < half → short_way from to ≡ pos x
unfolding short_way
way-forwards from to x e h = rw (sym e, lt-ltb _ _ h)

pub way_back : (from to x : ℕ) → x ≡ difference_of to from → half ≤ x → short_way from to ≡ negsuc (circle - suc x)
unfolding short_way
way_back from to x e h =
    let f : difference_of from to ≡ suc (circle - suc x) = omega (arith, difference-turned x to from e (omega arith), is-small x to from e) in
    rw (sym e, le-ltb _ _ h, f)

pub within-half : (from to : ℕ) → Within 648000 647999 (short_way from to)
within-half from to = go (dec_lt (difference_of to from) half)
  where
    go : Dec (difference_of to from < half) → Within 648000 647999 (short_way from to)
    go (yes h) = rw (way-forwards from to (difference_of to from) refl h) (omega arith)
    go (no h) = rw (way_back from to (difference_of to from) refl (omega arith)) (omega (arith, difference-small to from))

-- ---- the way forwards as a signed number, and a circle less
pub signed : (x : ℕ) → x < circle → to_z w32 x ≡ pos x
signed x h = to_z_pos w32 (lt_of_lt_of_le h (lit≤ tt))

less-circle : (x : ℕ) → x < circle → pos x -ℤ pos circle ≡ negsuc (circle - suc x)
less-circle x h = rw (lt-ltb _ _ h)

pub circle-less : (x : ℕ) → x < circle → to_z w32 x -ℤ pos circle ≡ negsuc (circle - suc x)
circle-less x h = ap (λ (z : ℤ). z -ℤ pos circle) (signed x h) ∙ less-circle x h

pub fits-back : (x : ℕ) → x < circle → SFits w32 (to_z w32 x -ℤ pos circle)
fits-back x h = subst (SFits w32) (sym (circle-less x h)) (record { sfits = lt_of_lt_of_le (below x) (lit≤ tt) })
  where
    below : (x : ℕ) → circle - suc x < circle
    below x = omega arith

-- the short way by the way forwards
pub signed-way : (from to x : ℕ) → x ≡ difference_of to from → signed_way x ≡ short_way from to
unfolding signed_way
signed-way from to x e = go (dec_lt x half)
  where
    go : Dec (x < half) → cond (ltb x half) (pos x) (pos x -ℤ pos circle) ≡ short_way from to
    go (yes h) = rw (lt-ltb _ _ h) (sym (way-forwards from to x e h))
    go (no h) = rw (le-ltb x half (omega arith)) (less-circle x (is-small x to from e) ∙ sym (way_back from to x e (omega arith)))

pub way-fits : (from to : ℕ) → SFits w32 (short_way from to)
way-fits from to = go (short_way from to) (within-half from to)
  where
    forth : (n : ℕ) → n ≤ 647999 → n < 648000
    forth n h = omega arith

    go : (z : ℤ) → Within 648000 647999 z → SFits w32 z
    go (pos n) h = record { sfits = lt_of_lt_of_le (forth n h) (lit≤ tt) }
    go (negsuc n) h = record { sfits = lt_of_lt_of_le h (lit≤ tt) }

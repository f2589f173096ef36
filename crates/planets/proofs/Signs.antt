-- A correction with its sign as a number of seconds forwards: what is subtracted is the rest of a circle.
-- Assumes nothing.
use mathlib.Core.Path.{◌≡◌, sym, ap, subst, ◌∙◌}
use Prim.Native.Nat.{ℕ, ◌+◌, ◌-◌, ◌%◌, ◌≤◌, ◌<◌}
use native.Mathlib.Omega.{arith}
use lib.IntN.{pos, neg_ℤ, ◌-ℤ◌}
use borrow.Author.Tests.{le-leb, lt-leb}
use Rattle.integers.specs.Integers.{reduced}
use Rattle.integers.proofs.Less.{less-pos, less-neg, less-minus}
use Rattle.integers.proofs.Reduced.{less-reduced}
use Rattle.longitudes.specs.Longitudes.{circle, difference_of}
use Rattle.longitudes.proofs.Subtraction.{difference-law}
use Rattle.panchanga.specs.TrueLongitudes.{signed}
use Rattle.panchanga.proofs.Naturals.{added, subtracted}
use Rattle.planets.specs.Parts.{SignedBy}

pub forwards : (x size : ℕ) → x ≤ 648000 → size ≤ circle → SignedBy x size size
unfolding signed difference_of
forwards x size h k = record { small = k; added = λ mean. added mean x size h; lessened = λ first. rw (le-leb x 648000 h) }

pub backwards : (x size : ℕ) → 648000 < x → size ≤ circle → SignedBy x size (circle - size)
unfolding signed
backwards x size h k =
    record {
      small = omega arith;
      added = λ mean. let e : mean + circle - size ≡ mean + (circle - size) = omega arith in subtracted mean x size h k ∙ ap (λ (t : ℕ). t % circle) e;
      lessened = λ first. rw (lt-leb x 648000 h) (back first);
    }
  where
    back : (first : ℕ) → reduced (pos first -ℤ neg_ℤ (pos size)) circle ≡ difference_of first (circle - size)
    back first =
        let e : first + circle - (circle - size) ≡ first + size = omega arith in
        less-reduced (pos first -ℤ neg_ℤ (pos size)) (first + size) 0 (first + size) circle 0 (omega arith) (less-minus (pos first) (neg_ℤ (pos size)) first 0 0 size (less-pos first) (less-neg (pos size) size 0 (less-pos size))) (omega arith)
        ∙ sym (difference-law first (circle - size) (omega arith) ∙ ap (λ (t : ℕ). t % circle) e)

pub size_is : {x n m c : ℕ} → n ≡ m → SignedBy x n c → SignedBy x m c
size_is {x} {n} {m} {c} e h = subst (λ (k : ℕ). SignedBy x k c) e h

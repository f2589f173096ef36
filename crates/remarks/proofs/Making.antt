-- What is put one after another is put at once. Assumes nothing.
use mathlib.Core.Path.{◌≡◌}
use mathlib.Core.List.{List, ◌++◌, append_assoc}
use Prim.Native.Nat.{ℕ}
use Rattle.text.specs.declared.Line.{Line}
use Rattle.text.specs.Lines.{with_bytes}
use Rattle.text.proofs.Lines.{with-bytes-append}

module _ (l : Line) where
  pub three : (a b c : List ℕ) → with_bytes (with_bytes (with_bytes l a) b) c ≡ with_bytes l (a ++ (b ++ c))
  three a b c = simp (with-bytes-append, append_assoc)

  pub four : (a b c d : List ℕ) → with_bytes (with_bytes (with_bytes (with_bytes l a) b) c) d ≡ with_bytes l (a ++ (b ++ (c ++ d)))
  four a b c d = simp (with-bytes-append, append_assoc)

  pub five : (a b c d e : List ℕ) → with_bytes (with_bytes (with_bytes (with_bytes (with_bytes l a) b) c) d) e ≡ with_bytes l (a ++ (b ++ (c ++ (d ++ e))))
  five a b c d e = simp (with-bytes-append, append_assoc)

  pub seven :
      (a b c d e f g : List ℕ) →
      with_bytes (with_bytes (with_bytes (with_bytes (with_bytes (with_bytes (with_bytes l a) b) c) d) e) f) g
      ≡ with_bytes l (a ++ (b ++ (c ++ (d ++ (e ++ (f ++ g))))))
  seven a b c d e f g = simp (with-bytes-append, append_assoc)

  pub eight :
      (a b c d e f g h : List ℕ) →
      with_bytes (with_bytes (with_bytes (with_bytes (with_bytes (with_bytes (with_bytes (with_bytes l a) b) c) d) e) f) g) h
      ≡ with_bytes l (a ++ (b ++ (c ++ (d ++ (e ++ (f ++ (g ++ h)))))))
  eight a b c d e f g h = simp (with-bytes-append, append_assoc)

-- A list of which the first i entries are filled by f, entry by entry: at i = 0 the list as it was, at its length all
-- of it filled.
-- Laws on lists, with no program in them. Assumes nothing.
use mathlib.Core.Path.{◌≡◌, refl, sym, ap}
use mathlib.Core.List.{List, [], ◌∷◌, map}
use Prim.Native.Nat.{ℕ, zero, suc, ◌+◌, ◌<◌}
use native.Mathlib.Nat.{not-suc-le-zero, le_of_suc-le-suc}
use native.Mathlib.Numerals.{add-one}
use Rattle.std.proofs.lemmas.List.{get_or_default}
use lib.ListN.{length, get_or, set}

module _ {A : Type 0} (f : A → A) where
  abbrev pub partly : List A → ℕ → List A
  partly [] i = []
  partly (x ∷ xs) zero = x ∷ xs
  partly (x ∷ xs) (suc i) = f x ∷ partly xs i

  pub at-start : (xs : List A) → partly xs 0 ≡ xs
  at-start [] = refl
  at-start (x ∷ xs) = refl

  pub length-partly : (xs : List A) (i : ℕ) → length (partly xs i) ≡ length xs
  length-partly [] i = refl
  length-partly (x ∷ xs) zero = refl
  length-partly (x ∷ xs) (suc i) = ap suc (length-partly xs i)

  -- entry i is still as it was
  pub here-is : (xs : List A) (i : ℕ) (d : A) → get_or (partly xs i) i d ≡ get_or xs i d
  here-is [] i d = refl
  here-is (x ∷ xs) zero d = refl
  here-is (x ∷ xs) (suc i) d = here-is xs i d

  pub one_more : (xs : List A) (i : ℕ) (d : A) → i < length xs → set (partly xs i) i (f (get_or xs i d)) ≡ partly xs (suc i)
  one_more [] i d h = absurd (not-suc-le-zero h)
  one_more (x ∷ xs) zero d h = ap (λ (ys : List A). f x ∷ ys) (sym (at-start xs))
  one_more (x ∷ xs) (suc i) d h = ap (λ (ys : List A). f x ∷ ys) (one_more xs i d (le_of_suc-le-suc h))

  -- so what holds of it held before, and with whatever stands for what is past the end
  pub still : (P : A → Type 0) (xs ys : List A) (i : ℕ) (d e : A) → ys ≡ partly xs i → i < length xs → P (get_or xs i e) → P (get_or ys i d)
  still P xs ys i d e so h p = rw (so, here-is xs i d, get_or_default xs i d e h) p

  -- a turn over what stands at i
  pub turned : (xs ys : List A) (i : ℕ) (d x : A) → ys ≡ partly xs i → i < length xs → x ≡ f (get_or ys i d) → set ys i x ≡ partly xs (i + 1)
  turned xs ys i d x so h e = rw (e, so, here-is xs i d, add-one) (one_more xs i d h)

  pub all_done : (xs : List A) → partly xs (length xs) ≡ map f xs
  all_done [] = refl
  all_done (x ∷ xs) = ap (λ (ys : List A). f x ∷ ys) (all_done xs)

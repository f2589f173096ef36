-- An array of n that is filled from the front: below i it is what is meant, each turn puts one more, and after n it is
-- all of it.
-- Assumes nothing.
use borrow.Author.Count.{below_more}
use mathlib.Core.List.{List}
use mathlib.Core.Path.{◌≡◌, sym, ◌∙◌}
use Prim.Native.Nat.{ℕ, ◌+◌, ◌<◌}
use native.Mathlib.Omega.{arith}
use lib.ListN.{length, get_or, set, length-set}
use lib.Seq.{get_or-set_same, get_or-set_other, ext_get_or}

pub record Filled {A : Type 0} (d : A) (n : ℕ) (array meant : List A) (i : ℕ) : Type 0 where
  pub long : length array ≡ n
  pub same : (k : ℕ) → k < i → get_or array k d ≡ get_or meant k d

module _ {A : Type 0} (d : A) (n : ℕ) (array meant : List A) (i : ℕ) (f : Filled d n array meant i) where
  pub filled_more : (x : A) → i < n → x ≡ get_or meant i d → Filled d n (set array i x) meant (i + 1)
  filled_more x h e =
      record {
        long = length-set array i x ∙ f.long;
        same =
            below_more (λ (k : ℕ). get_or (set array i x) k d ≡ get_or meant k d) i
            (λ k l. get_or-set_other array i k x d (omega arith) ∙ f.same k l)
            (get_or-set_same array i x d (omega (arith, f.long)) ∙ e);
      }

  pub filled-whole : (i < n → ⊥) → length meant ≡ n → array ≡ meant
  filled-whole h e = ext_get_or d array meant (f.long ∙ sym e) (λ k l. f.same k (omega (arith, f.long)))

-- Laws of a number's decimal digits. Each goes by one induction: a number below ten has one digit, and any other has
-- the digits of its tenth and one more. Assumes nothing.
use Prim.Native.Nat.{ℕ, zero, suc, ◌/◌, ◌%◌, ◌^◌, ◌≤◌, ◌<◌}
use Prim.Native.Char.{code}
use mathlib.Core.Path.{◌≡◌, refl, ap, sym, ◌∙◌}
use mathlib.Core.Bool.{Bool, true, false}
use mathlib.Core.List.{List, [], ◌∷◌, ◌++◌}
use native.Mathlib.Omega.{arith}
use native.Mathlib.Nat.{pow-succ'}
use lib.Dec.{ltb}
use lib.ListN.{length, get_or, length-append, get_or-append}
use borrow.Author.Tests.{ltb-true, ltb-false, lt-ltb, le-ltb}
use Rattle.text.specs.Decimal.{digit_byte, digits_within, digits_of}

-- the digits s with the last digit of n after them
abbrev pub then_last : ℕ → List ℕ → List ℕ
then_last n s = s ++ (digit_byte (n % 10) ∷ [])

within-one : (k n : ℕ) → n < 10 → digits_within k n ≡ digit_byte n ∷ []
unfolding digits_within
within-one zero n h = refl
within-one (suc k) n h = rw (lt-ltb n 10 h, digits_within)

within_more : (k n : ℕ) → 10 ≤ n → digits_within (suc k) n ≡ then_last n (digits_within k (n / 10))
unfolding digits_within
within_more k n h = rw (le-ltb n 10 h, digits_within)

module _
    (P : ℕ → List ℕ → Type 0)
    (one : (n : ℕ) → n < 10 → P n (digit_byte n ∷ []))
    (more : (n : ℕ) (s : List ℕ) → 10 ≤ n → P (n / 10) s → P n (then_last n s))
  where
    within-induct : (k n : ℕ) → n ≤ k → P n (digits_within k n)
    within-induct zero n h = rw (within-one zero n (omega arith)) (one n (omega arith))
    within-induct (suc k) n h = go (ltb n 10) refl (λ h10. within-induct k (n / 10) (omega arith))
      where
        go : (t : Bool) → ltb n 10 ≡ t → (10 ≤ n → P (n / 10) (digits_within k (n / 10))) → P n (digits_within (suc k) n)
        go true e _ = rw (within-one (suc k) n (ltb-true n 10 e)) (one n (ltb-true n 10 e))
        go false e ih =
            let h10 = ltb-false n 10 e in
            rw (within_more k n h10) (more n (digits_within k (n / 10)) h10 (ih h10))

    -- what holds of one digit, and of one digit more, holds of every number's digits
    pub digits-induct : (n : ℕ) → P n (digits_of n)
    unfolding digits_of
    digits-induct n = within-induct n n (omega arith)

-- more divisions find the same digits
within-enough : (n k : ℕ) → n ≤ k → digits_within k n ≡ digits_of n
within-enough =
    digits-induct
    (λ n s. (k : ℕ) → n ≤ k → digits_within k n ≡ s)
    (λ n h k _. within-one k n h)
    more
  where
    more :
        (n : ℕ) (s : List ℕ) →
        10 ≤ n →
        ((k : ℕ) → n / 10 ≤ k → digits_within k (n / 10) ≡ s) →
        (k : ℕ) → n ≤ k → digits_within k n ≡ then_last n s
    more n s h ih zero le = absurd (omega arith)
    more n s h ih (suc k) le = within_more k n h ∙ ap (then_last n) (ih k (omega arith))

pub digits-one : (n : ℕ) → n < 10 → digits_of n ≡ digit_byte n ∷ []
digits-one n h = sym (within-enough n n (omega arith)) ∙ within-one n n h

pub digits_more : (n : ℕ) → 10 ≤ n → digits_of n ≡ then_last n (digits_of (n / 10))
digits_more n h =
    sym (within-enough n (suc n) (omega arith)) ∙ within_more n n h ∙ ap (then_last n) (within-enough (n / 10) n (omega arith))

pub digits-some : (n : ℕ) → 1 ≤ length (digits_of n)
digits-some = digits-induct (λ n s. 1 ≤ length s) (λ n h. omega arith) (λ n s h ih. simp length-append (omega arith))

-- the first digit is a zero for 0 alone
pub no-leading-zero : (n : ℕ) → get_or (digits_of n) 0 0 ≡ code "0" → n ≡ 0
no-leading-zero n =
    (digits-induct
    (λ n s. (1 ≤ length s) × (get_or s 0 0 ≡ code "0" → n ≡ 0))
    (λ n h. (omega arith, λ e. omega arith))
    more
    n
    ).1
  where
    more :
        (n : ℕ) (s : List ℕ) →
        10 ≤ n →
        (1 ≤ length s) × (get_or s 0 0 ≡ code "0" → n / 10 ≡ 0) →
        (1 ≤ length (then_last n s)) × (get_or (then_last n s) 0 0 ≡ code "0" → n ≡ 0)
    more n s h ih = (
      simp length-append (omega arith),
      λ e. absurd (let z = ih.1 (sym (get_or-append s (digit_byte (n % 10) ∷ []) 0 0 ih.0) ∙ e) in omega arith),
    )

-- a number below a power of ten has at most that many digits
pub digits-length : (k n : ℕ) → n < 10 ^ suc k → length (digits_of n) ≤ suc k
digits-length k n =
    digits-induct (λ n s. (k : ℕ) → n < 10 ^ suc k → length s ≤ suc k) (λ n h k _. omega arith) more n k
  where
    more :
        (n : ℕ) (s : List ℕ) →
        10 ≤ n →
        ((k : ℕ) → n / 10 < 10 ^ suc k → length s ≤ suc k) →
        (k : ℕ) → n < 10 ^ suc k → length (then_last n s) ≤ suc k
    more n s h ih zero below = absurd (omega arith)
    more n s h ih (suc k) below =
        simp length-append (omega (arith, ih k (omega (arith, pow-succ' 10 (suc k)))))

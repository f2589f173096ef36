-- A number printed and then read is the number again: what is printed is digits, and their value is the number.
-- Assumes nothing.
use Prim.Native.Nat.{ℕ, ◌%◌, ◌<◌}
use mathlib.Core.Path.{◌≡◌, refl, sym, ◌∙◌}
use mathlib.Core.Bool.{true, ◌&&◌, and_assoc}
use mathlib.Core.List.{List, [], ◌∷◌, ◌++◌, foldl-append}
use native.Mathlib.Omega.{arith}
use Rattle.std.specs.Prelude.{Ok}
use Rattle.text.specs.Decimal.{is_digit, all_digits, with_digit, value_of, number_read, digit_byte, digits_of}
use Rattle.text.proofs.Printing.{digits-induct, digits-some, digits-length}
use Rattle.text.proofs.Reading.{is_digit_lem, read-few}

all-digits-append : (s t : List ℕ) → all_digits (s ++ t) ≡ all_digits s && all_digits t
unfolding all_digits
all-digits-append [] t = refl
all-digits-append (b ∷ s) t = rw (all-digits-append s t) (sym (and_assoc (is_digit b) (all_digits s) (all_digits t)))

digit-byte : (d : ℕ) → d < 10 → all_digits (digit_byte d ∷ []) ≡ true
unfolding all_digits
digit-byte d h = rw (is_digit_lem (digit_byte d) (omega arith) (omega arith))

pub digits-all : (n : ℕ) → all_digits (digits_of n) ≡ true
digits-all =
    digits-induct
    (λ n s. all_digits s ≡ true)
    (λ n h. digit-byte n h)
    (λ n s h ih. rw (all-digits-append s (digit_byte (n % 10) ∷ []), ih, digit-byte (n % 10) (omega arith)))

pub digits_value : (n : ℕ) → value_of (digits_of n) ≡ n
unfolding value_of with_digit
digits_value =
    digits-induct
    (λ n s. value_of s ≡ n)
    (λ n h. omega arith)
    (λ n s h ih. rw (foldl-append with_digit 0 s (digit_byte (n % 10) ∷ []), ih) (omega arith))

-- what was printed reads as the number again
pub read-digits : (n : ℕ) → n < 1000000000 → number_read (digits_of n) ≡ Ok n
read-digits n h =
    read-few (digits_of n) (digits-some n) (digits-length 8 n h) ∙ rw (digits-all n, digits_value n)

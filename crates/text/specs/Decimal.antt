-- Decimal numbers as ASCII bytes, the most significant digit first: what is read from them, and what is printed.
use Rattle.std.specs.Prelude.{ℕ, zero, suc, ◌+◌, ◌-◌, ◌*◌, ◌/◌, ◌%◌, Bool, true, false, cond, ◌&&◌, leb, ltb, length, Result, Ok, Err}
use Prim.Native.Char.{code}
use mathlib.Core.List.{List, [], ◌∷◌, ◌++◌, foldl}
use Rattle.days.specs.declared.refusal.Refusal.{Refusal}
use Rattle.days.specs.declared.refusal.Refusal.TheVariants.{BadInput}

-- the bytes from `0` to `9`
unfoldable pub is_digit : ℕ → Bool
is_digit b = leb (code "0") b && leb b (code "9")

unfoldable pub all_digits : List ℕ → Bool
all_digits [] = true
all_digits (b ∷ bs) = is_digit b && all_digits bs

-- the value v with one more digit after it
unfoldable pub with_digit : ℕ → ℕ → ℕ
with_digit v b = 10 * v + (b - code "0")

unfoldable pub value_of : List ℕ → ℕ
value_of bs = foldl with_digit 0 bs

-- 1 to 9 digits and nothing else
unfoldable pub is_number : List ℕ → Bool
is_number bs = leb 1 (length bs) && (leb (length bs) 9 && all_digits bs)

-- the number, or paper 01's refusal of a bad line
unfoldable pub number_read : List ℕ → Result ℕ Refusal
number_read bs = cond (is_number bs) (Ok (value_of bs)) (Err BadInput)

-- the byte of a digit
abbrev pub digit_byte : ℕ → ℕ
digit_byte d = code "0" + d

-- the digits of n, where dividing it by ten so many times leaves it below ten
unfoldable pub digits_within : ℕ → ℕ → List ℕ
digits_within zero n = digit_byte n ∷ []
digits_within (suc times) n =
    elim (ltb n 10) [ true ↦ digit_byte n ∷ [] | false ↦ digits_within times (n / 10) ++ (digit_byte (n % 10) ∷ []) ]

-- the decimal digits of n, no zero in front: n divisions leave any n below ten
unfoldable pub digits_of : ℕ → List ℕ
digits_of n = digits_within n n

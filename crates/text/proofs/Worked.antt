-- Worked cases: what the meanings give, and what is right. Both sides compute, so that `refl` proves them. Assumes
-- nothing.
use mathlib.Core.Path.{◌≡◌, refl}
use mathlib.Core.List.{[], ◌∷◌}
use Rattle.std.specs.Prelude.{Ok, Err}
use Rattle.days.specs.declared.refusal.Refusal.TheVariants.{BadInput}
use Rattle.text.specs.Ascii.{ascii}
use Rattle.text.specs.Decimal.{is_digit, all_digits, with_digit, value_of, is_number, number_read, digits_within, digits_of}

-- 0, 10 and the greatest u32 printed
pub printed :
    digits_of 0 ∷ digits_of 10 ∷ digits_of 4294967295 ∷ []
    ≡ ascii "0" ∷ ascii "10" ∷ ascii "4294967295" ∷ []
unfolding digits_of digits_within
printed = refl

-- leading zeros, nothing, the bytes beside the digits, and ten digits read
pub read :
    number_read (ascii "007")
    ∷ number_read (ascii "59")
    ∷ number_read (ascii "")
    ∷ number_read (ascii "/")
    ∷ number_read (ascii ":")
    ∷ number_read (ascii "0000000000")
    ∷ []
    ≡ Ok 7 ∷ Ok 59 ∷ Err BadInput ∷ Err BadInput ∷ Err BadInput ∷ Err BadInput ∷ []
unfolding number_read is_number all_digits is_digit value_of with_digit
read = refl

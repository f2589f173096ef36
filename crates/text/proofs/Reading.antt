-- Reading a number: when it is refused, and what holds along the loop, that the digits ahead, read on from the value so
-- far, make the number meant. Assumes nothing.
use Prim.Native.Nat.{ℕ, suc, ◌+◌, ◌-◌, ◌*◌, ◌^◌, ◌≤◌, ◌<◌}
use Prim.Native.Char.{code}
use mathlib.Core.Path.{◌≡◌, refl, ap, sym, ◌∙◌}
use mathlib.Core.Bool.{true, false, cond, ◌&&◌}
use mathlib.Core.List.{List, ◌∷◌, foldl}
use native.Mathlib.Omega.{arith}
use native.Mathlib.Nat.{pow-succ', pow-le-pow_right}
use native.Mathlib.Numerals.{add-one}
use lib.ListN.{length, get_or, drop, drop_of_length-le}
use lib.Seq.{drop-cons}
use borrow.Author.Tests.{le-leb, lt-leb}
use Rattle.std.specs.Prelude.{Ok, Err}
use Rattle.days.specs.declared.refusal.Refusal.TheVariants.{BadInput}
use Rattle.text.specs.Decimal.{is_digit, all_digits, with_digit, value_of, is_number, number_read}

pub is_digit_lem : (b : ℕ) → code "0" ≤ b → b ≤ code "9" → is_digit b ≡ true
unfolding is_digit
is_digit_lem b low high = rw (le-leb (code "0") b low, le-leb b (code "9") high)

pub below-digits : (b : ℕ) → b < code "0" → is_digit b ≡ false
unfolding is_digit
below-digits b h = rw (lt-leb (code "0") b h)

pub above-digits : (b : ℕ) → code "9" < b → is_digit b ≡ false
unfolding is_digit
above-digits b h = rw (le-leb (code "0") b (omega arith), lt-leb b (code "9") h)

pub read_none : (s : List ℕ) → length s ≡ 0 → number_read s ≡ Err BadInput
unfolding number_read is_number
read_none s h = rw (lt-leb 1 (length s) (omega arith))

pub read-long : (s : List ℕ) → 9 < length s → number_read s ≡ Err BadInput
unfolding number_read is_number
read-long s h = rw (le-leb 1 (length s) (omega arith), lt-leb (length s) 9 h)

-- of one to nine bytes, whether they are digits decides
pub read-few :
    (s : List ℕ) →
    1 ≤ length s →
    length s ≤ 9 →
    number_read s ≡ cond (all_digits s) (Ok (value_of s)) (Err BadInput)
unfolding number_read is_number
read-few s some few = rw (le-leb 1 (length s) some, le-leb (length s) 9 few)

-- before the digit at i: the digits before it make n
pub record Reading (s : List ℕ) (n i : ℕ) : Type 0 where
  pub ahead : foldl with_digit n (drop i s) ≡ value_of s
  pub good : all_digits (drop i s) ≡ all_digits s
  pub small : n < 10 ^ i

pub reading-start : (s : List ℕ) → Reading s 0 0
unfolding value_of
reading-start s = record { ahead = refl; good = refl; small = omega arith }

all-digits-next : (b : ℕ) (bs : List ℕ) → all_digits (b ∷ bs) ≡ is_digit b && all_digits bs
unfolding all_digits
all-digits-next b bs = refl

module _ (s : List ℕ) (n i : ℕ) (r : Reading s n i) (more : i < length s) where
  -- the digits from i on are this one and those after it
  next-good : is_digit (get_or s i 0) && all_digits (drop (suc i) s) ≡ all_digits s
  next-good = sym (all-digits-next _ _) ∙ ap all_digits (sym (drop-cons s i 0 more)) ∙ r.good

  -- nine digits fit
  pub reading-fits : length s ≤ 9 → n < 100000000
  reading-fits few = omega (arith, pow-le-pow_right {n = 10} (omega arith) {i = i} {j = 8} (omega arith))

  pub reading-bad : 1 ≤ length s → length s ≤ 9 → is_digit (get_or s i 0) ≡ false → number_read s ≡ Err BadInput
  reading-bad some few e =
      let bad : all_digits s ≡ false = sym next-good ∙ rw e in
      read-few s some few ∙ rw bad

  pub reading-next : code "0" ≤ get_or s i 0 → get_or s i 0 ≤ code "9" → Reading s (10 * n + (get_or s i 0 - code "0")) (i + 1)
  unfolding with_digit
  reading-next low high =
      record {
        ahead = rw add-one (ap (foldl with_digit n) (sym (drop-cons s i 0 more)) ∙ r.ahead);
        good = rw add-one (sym (rw (is_digit_lem _ low high)) ∙ next-good);
        small = rw add-one (omega (arith, r.small, pow-succ' 10 i));
      }

pub reading-end :
    (s : List ℕ) (n i : ℕ) →
    Reading s n i →
    length s ≤ i →
    1 ≤ length s →
    length s ≤ 9 →
    Ok n ≡ number_read s
unfolding all_digits
reading-end s n i r end some few =
    let none = drop_of_length-le s {i = i} end in
    let value = ap (foldl with_digit n) (sym none) ∙ r.ahead in
    ap Ok value ∙ sym (read-few s some few ∙ rw (sym r.good ∙ ap all_digits none))

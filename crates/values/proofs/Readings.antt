-- The set of a line, value by value; and a line of one number is the set of that number. Assumes nothing.
use mathlib.Core.Bool.{Bool, true, false, cond, and-false}
use mathlib.Core.Path.{◌≡◌, refl, ap, sym, ◌∙◌}
use mathlib.Core.List.{List, [], ◌∷◌}
use Prim.Native.Nat.{ℕ, zero, suc, ◌+◌, ◌*◌, ◌-◌, ◌≤◌, min}
use native.Mathlib.Nat.{zero-div}
use native.Mathlib.Omega.{arith}
use borrow.Author.Tests.{eq-eqb, ne_eqb}
use lib.Dec.{leb}
use lib.ListN.{length}
use lib.Pow.{pow_pos}
use Rattle.std.specs.Prelude.{Result, Ok, Err}
use Rattle.days.specs.Refusals.{number_or_zero}
use Rattle.days.specs.Weekdays.{bit_of, in_set}
use Rattle.days.specs.declared.refusal.Refusal.{Refusal}
use Rattle.days.specs.declared.refusal.Refusal.TheVariants.{BadInput}
use Rattle.days.proofs.Weekdays.{bit-most}
use Rattle.query.specs.Conditions.{number_bit, has_number, with_number}
use Rattle.text.specs.Decimal.{is_number, number_read}
use Rattle.names.specs.declared.Kind.{Kind}
use Rattle.names.specs.declared.Kind.TheVariants.{Fortnight}
use Rattle.names.specs.Names.{name_read}
use Rattle.names.proofs.Laws.{number-few}
use Rattle.words.specs.Words.{first_word, after_word, after_words}
use Rattle.values.specs.Values.{and_then, is_tithi, half_named, most_weekdays, is_weekday, value_read, with_weekday, in_numbers, with_number_read, with_value, set_read, set_of, named_set_read}

-- the number of a half of the month is 0 or 1
pub half-few : (k : Kind) (w : List ℕ) {n : ℕ} → Ok n ≡ half_named k w → n ≤ 1
unfolding half_named number_or_zero
half-few k w {n} e = go (is_tithi k) e
  where
    go : (t : Bool) → Ok n ≡ cond t (name_read Fortnight w) (Err BadInput) → n ≤ 1
    go true e = let few = number-few Fortnight w in omega (arith, rw (sym e) at few)
    go false e = absurd cc

-- a weekday adds its bit at most
added : (k : Kind) (set n more : ℕ) → Ok more ≡ with_value k set n → is_weekday k ≡ true → more ≤ set + 128
unfolding with_value with_weekday
added k set n more e is = go (in_set set n) (e ∙ rw is)
  where
    go : (t : Bool) → Ok more ≡ cond t (Err BadInput) (Ok (set + bit_of n)) → more ≤ set + 128
    go true e = absurd cc
    go false e = let same : more ≡ set + bit_of n = cc in omega (arith, bit-most n)

-- the set of a line: the text of the values left goes on to the set that is due
pub record Reading (k : Kind) (most : ℕ) (text : List ℕ) (set left : ℕ) (rest : List ℕ) : Type 0 where
  pub ahead : set_of k left set rest ≡ set_of k most 0 text
  pub small : is_weekday k ≡ true → set + 128 * left ≤ 896

pub reading-start : (k : Kind) (most : ℕ) (text : List ℕ) → (is_weekday k ≡ true → most ≤ most_weekdays) → Reading k most text 0 most text
reading-start k most text few = record { ahead = refl; small = λ is. omega (arith, few is) }

module _ (k : Kind) (most : ℕ) (text : List ℕ) (set left : ℕ) (rest : List ℕ) (r : Reading k most text set left rest) where
  abbrev due : Result ℕ Refusal
  due = set_of k most 0 text

  pub reading-end : length (first_word rest) ≡ 0 → set_read set ≡ due
  unfolding set_of
  reading-end e = go left r.ahead
    where
      go : (n : ℕ) → set_of k n set rest ≡ due → set_read set ≡ due
      go zero a = rw (eq-eqb (length (first_word rest)) 0 e) at a
      go (suc n) a = rw (eq-eqb (length (first_word rest)) 0 e) at a

  pub reading-many : (length (first_word rest) ≡ 0 → ⊥) → left ≡ 0 → Err BadInput ≡ due
  unfolding set_of
  reading-many f z = go left z r.ahead
    where
      go : (n : ℕ) → n ≡ 0 → set_of k n set rest ≡ due → Err BadInput ≡ due
      go zero z a = rw (ne_eqb (length (first_word rest)) 0 f) at a
      go (suc n) z a = absurd (omega arith)

  module _ (f : length (first_word rest) ≡ 0 → ⊥) (some : left ≡ 0 → ⊥) where
    abbrev others : List ℕ
    others = after_words (value_read k rest).words rest

    step : and_then (and_then (value_read k rest).read (with_value k set)) (λ more. set_of k (left - 1) more others) ≡ due
    unfolding set_of
    step = go left some r.ahead
      where
        go : (n : ℕ) → (n ≡ 0 → ⊥) → set_of k n set rest ≡ due → and_then (and_then (value_read k rest).read (with_value k set)) (λ more. set_of k (n - 1) more others) ≡ due
        go zero s a = absurd (s refl)
        go (suc n) s a = let less : suc n - 1 ≡ n = omega arith in rw less (rw (ne_eqb (length (first_word rest)) 0 f) at a)

    pub reading-unread : {e : Refusal} → (value_read k rest).read ≡ Err e → Err e ≡ due
    reading-unread h = rw h at step

    pub reading-refused : {n : ℕ} {e : Refusal} → (value_read k rest).read ≡ Ok n → with_value k set n ≡ Err e → Err e ≡ due
    reading-refused h g = rw g at (rw h at step)

    pub reading-next : {n more : ℕ} → (value_read k rest).read ≡ Ok n → with_value k set n ≡ Ok more → Reading k most text more (left - 1) others
    reading-next {n} {more} h g =
        record {
          ahead = rw g at (rw h at step);
          small = λ is. omega (arith, r.small is, added k set n more (sym g) is);
        }

-- the set of a line's only number: that number's bit
none-had : (n : ℕ) → has_number 0 n ≡ false
unfolding has_number
none-had n = rw (zero-div (number_bit n))

set-of-bit : (n : ℕ) → set_read (number_bit n) ≡ Ok (number_bit n)
unfolding set_read
set-of-bit n = rw (ne_eqb (number_bit n) 0 (λ z. omega (arith, pow_pos (min n 31))))

number-some : (w : List ℕ) {n : ℕ} → number_read w ≡ Ok n → length w ≡ 0 → ⊥
unfolding number_read is_number
number-some [] good none = absurd cc
number-some (b ∷ w) good none = omega arith

-- a word that is a number is that number, whatever it is asked for
value-number : (k : Kind) (t : List ℕ) {n : ℕ} → number_read (first_word t) ≡ Ok n → value_read k t ≡ record { words = 1; read = Ok n }
unfolding value_read
value-number k t good = rw good

with-only : (k : Kind) (n : ℕ) → is_weekday k ≡ false → with_value k 0 n ≡ Ok (number_bit n)
unfolding with_value with_number_read in_numbers with_number
with-only k n e =
    let alone : 0 + number_bit n ≡ number_bit n = omega arith in
    rw (e, none-had n, and-false (leb n 30)) (ap Ok alone)

set-done : (k : Kind) (n set : ℕ) (t : List ℕ) → length (first_word t) ≡ 0 → set_of k n set t ≡ set_read set
unfolding set_of
set-done k zero set t none = rw (eq-eqb (length (first_word t)) 0 none)
set-done k (suc n) set t none = rw (eq-eqb (length (first_word t)) 0 none)

set_more :
    (k : Kind) (n set : ℕ) (t : List ℕ) →
    (length (first_word t) ≡ 0 → ⊥) →
    set_of k (suc n) set t
    ≡ and_then (and_then (value_read k t).read (with_value k set)) (λ more. set_of k n more (after_words (value_read k t).words t))
unfolding set_of
set_more k n set t some = rw (ne_eqb (length (first_word t)) 0 some)

-- a line of one number means the set of that number, as it did before there were names
pub one_number :
    (k : Kind) (t : List ℕ) {n : ℕ} →
    is_weekday k ≡ false →
    number_read (first_word t) ≡ Ok n →
    length (first_word (after_word t)) ≡ 0 →
    named_set_read k t ≡ Ok (number_bit n)
unfolding after_words
one_number k t {n} e good last =
    rw e
    (set_more k 29 0 t (number-some (first_word t) good)
    ∙ rw (value-number k t good) (rw (with-only k n e) (set-done k 29 (number_bit n) (after_words 1 t) last ∙ set-of-bit n)))

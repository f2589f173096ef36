-- A value that is read is accepted, or refused with 1, 2 or 3. Assumes nothing.
use mathlib.Core.Bool.{Bool, true, false, cond}
use mathlib.Core.List.{List}
use Prim.Native.Nat.{ℕ, zero, suc, ◌≤◌}
use native.Mathlib.Omega.{arith}
use lib.Dec.{eqb, ltb}
use lib.ListN.{length}
use Rattle.std.specs.Prelude.{Result, Ok, Err}
use Rattle.std.specs.Result.{result_or}
use Rattle.civil.specs.declared.Date.{Date}
use Rattle.civil.proofs.Laws.{Answered, no_such, day, outside, answered}
use Rattle.days.specs.Refusals.{bad_input, result_number}
use Rattle.days.specs.Weekdays.{in_set}
use Rattle.days.specs.declared.refusal.Refusal.{Refusal}
use Rattle.days.specs.declared.refusal.Refusal.TheVariants.{BadInput}
use Rattle.text.specs.Decimal.{is_number, number_read}
use Rattle.names.specs.declared.Kind.{Kind}
use Rattle.names.specs.Names.{plain_names, other_names, count_of, name_read}
use Rattle.words.specs.Words.{dash, up_to, after_first, first_word, after_word, after_words, place_in}
use Rattle.values.specs.declared.Three.{Three}
use Rattle.values.specs.declared.Value.{Value}
use Rattle.values.specs.Values.{is_read, and_then, three_read, date_read, number_or, day_read, half_read, half_named, name_value, is_weekday, value_read, with_weekday, in_numbers, with_number_read, with_value, set_read, set_of, none_read}

-- what holds of both cases holds of the one that a test picks
pub either : {A : Type 0} (P : A → Type 0) (t : Bool) {x y : A} → P x → P y → P (cond t x y)
either P true px py = px
either P false px py = py

unfoldable pub OfReading : {A : Type 0} → Result A Refusal → Type 0
OfReading a = result_number a ≤ bad_input

bad : OfReading {A = ℕ} (Err BadInput)
unfolding OfReading result_number
bad = omega arith

good : {A : Type 0} (a : A) → OfReading (Ok a)
unfolding OfReading result_number
good a = omega arith

then-refusal : {A B : Type 0} (a : Result A Refusal) (f : A → Result B Refusal) → OfReading a → ((x : A) → OfReading (f x)) → OfReading (and_then a f)
unfolding OfReading result_number
then-refusal (Ok a) f p q = q a
then-refusal (Err r) f p q = p

or-refusal : {A : Type 0} (a b : Result A Refusal) → OfReading b → OfReading (result_or a b)
or-refusal (Ok a) b q = good a
or-refusal (Err r) b q = q

pub number-refusal : (w : List ℕ) → OfReading (number_read w)
unfolding number_read
number-refusal w = either OfReading (is_number w) (good _) bad

date-refusal : (t : Three) → OfReading (date_read t)
unfolding date_read OfReading result_number
date-refusal t = go _ (answered (record { year = t.first; month = t.second; day = t.third }))
  where
    go : {x : Date} (a : Result ℕ Refusal) → Answered x a → OfReading a
    go _ (no_such k) = omega arith
    go _ (day n h e) = omega arith
    go _ (outside k h) = omega arith

three-refusal : (s : ℕ) (w : List ℕ) → OfReading (three_read s w)
unfolding three_read
three-refusal s w =
    then-refusal _ _ (number-refusal (up_to s w))
    (λ x. then-refusal _ _ (number-refusal (up_to s (after_first s w))) (λ y. then-refusal _ _ (number-refusal (after_first s (after_first s w))) (λ z. good _)))

pub day-refusal : (w : List ℕ) → OfReading (day_read w)
unfolding day_read number_or
day-refusal w = or-refusal (number_read w) _ (then-refusal (three_read dash w) date_read (three-refusal dash w) date-refusal)

name-refusal : (k : Kind) (w : List ℕ) → OfReading (name_read k w)
unfolding name_read
name-refusal k w =
    either OfReading (ltb (place_in (plain_names k) w) (count_of k)) (good _)
    (either OfReading (ltb (place_in (other_names k) w) (count_of k)) (good _) bad)

half-refusal : (half : ℕ) (n : Result ℕ Refusal) → OfReading n → OfReading (half_read half n)
unfolding half_read
half-refusal half n p = then-refusal n _ p (λ k. good _)

name-value-refusal : (k : Kind) (t : List ℕ) → OfReading (name_value k t).read
unfolding name_value
name-value-refusal k t = go (half_named k (first_word t))
  where
    go :
        (half : Result ℕ Refusal) →
        OfReading (elim half as (λ _. Value) [
          | Ok h ↦ record { words = 2; read = half_read h (number_read (first_word (after_word t))) }
          | Err _ ↦ record { words = 1; read = name_read k (first_word t) }
        ]).read
    go (Ok h) = half-refusal h _ (number-refusal (first_word (after_word t)))
    go (Err _) = name-refusal k (first_word t)

value-refusal : (k : Kind) (t : List ℕ) → OfReading (value_read k t).read
unfolding value_read
value-refusal k t = either (λ (v : Value). OfReading v.read) (is_read (number_read (first_word t))) (number-refusal (first_word t)) (name-value-refusal k t)

with-weekday-refusal : (set w : ℕ) → OfReading (with_weekday set w)
unfolding with_weekday
with-weekday-refusal set w = either OfReading (in_set set w) bad (good _)

with-number-refusal : (set n : ℕ) → OfReading (with_number_read set n)
unfolding with_number_read
with-number-refusal set n = either OfReading (in_numbers set n) bad (good _)

with-value-refusal : (k : Kind) (set n : ℕ) → OfReading (with_value k set n)
unfolding with_value
with-value-refusal k set n = either OfReading (is_weekday k) (with-weekday-refusal set n) (with-number-refusal set n)

set-refusal : (set : ℕ) → OfReading (set_read set)
unfolding set_read
set-refusal set = either OfReading (eqb set 0) bad (good set)

pub set-of-refusal : (k : Kind) (n set : ℕ) (t : List ℕ) → OfReading (set_of k n set t)
unfolding set_of
set-of-refusal k zero set t = either OfReading (eqb (length (first_word t)) 0) (set-refusal set) bad
set-of-refusal k (suc n) set t =
    let v = value_read k t in
    either OfReading (eqb (length (first_word t)) 0) (set-refusal set)
    (then-refusal _ _ (then-refusal v.read _ (value-refusal k t) (with-value-refusal k set)) (λ more. set-of-refusal k n more (after_words v.words t)))

pub none-refusal : (w : List ℕ) → OfReading (none_read w)
unfolding none_read
none-refusal w = either OfReading (eqb (length w) 0) (good 0) bad

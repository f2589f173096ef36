-- Lines of an element mean what they did before there were names: one number alone asks for the set of that number, and
-- numbers that were accepted are the same set, word by word. Assumes nothing.
use mathlib.Core.Path.{◌≡◌, refl, sym, ap, ◌∙◌}
use mathlib.Core.Bool.{Bool, true, false, cond, false≢true}
use mathlib.Core.List.{List}
use Prim.Native.Nat.{ℕ, zero, suc}
use borrow.Author.Tests.{eqb-true}
use lib.Dec.{eqb}
use lib.ListN.{length}
use Rattle.std.specs.Prelude.{Result, Ok, Err}
use Rattle.days.specs.declared.refusal.Refusal.{Refusal}
use Rattle.days.specs.declared.refusal.Refusal.TheVariants.{BadInput}
use Rattle.names.specs.declared.Kind.{Kind}
use Rattle.query.specs.Conditions.{number_bit}
use Rattle.text.specs.Decimal.{number_read}
use Rattle.values.specs.Values.{and_then, is_weekday, value_read, with_number_read, with_value, set_read, set_of}
use Rattle.values.proofs.Readings.{one_number}
use Rattle.values.proofs.Refusals.{either}
use Rattle.words.specs.Words.{first_word, after_word, after_words}
use Rattle.page.specs.Page.{weekday_keyword, tithi_keyword, nakshatra_keyword, yoga_keyword, is_element, element_of, numbers_read, values_read}

no-weekday : (k : ℕ) → is_element k ≡ true → eqb k weekday_keyword ≡ false
unfolding is_element
no-weekday k e = go (eqb k weekday_keyword) refl
  where
    go : (t : Bool) → eqb k weekday_keyword ≡ t → eqb k weekday_keyword ≡ false
    go true f = absurd (false≢true (sym (ap is_element (eqb-true k weekday_keyword f)) ∙ e))
    go false f = f

of-element : (k : ℕ) → is_weekday (element_of k) ≡ false
unfolding element_of
of-element k =
    either (λ (n : Kind). is_weekday n ≡ false) (eqb k tithi_keyword) refl
    (either (λ (n : Kind). is_weekday n ≡ false) (eqb k nakshatra_keyword) refl (either (λ (n : Kind). is_weekday n ≡ false) (eqb k yoga_keyword) refl refl))

pub one-element :
    (k : ℕ) (t : List ℕ) {n : ℕ} →
    is_element k ≡ true →
    number_read (first_word t) ≡ Ok n →
    length (first_word (after_word t)) ≡ 0 →
    values_read k t ≡ numbers_read (Ok (number_bit n)) (Ok 0)
unfolding values_read
one-element k t e good last = rw (no-weekday k e, e, one_number (element_of k) t (of-element k) good last)

-- the set of a line as it was before there were names: each word is a number
unfoldable pub numbers_alone : ℕ → ℕ → List ℕ → Result ℕ Refusal
numbers_alone zero set t = cond (eqb (length (first_word t)) 0) (set_read set) (Err BadInput)
numbers_alone (suc n) set t =
    cond (eqb (length (first_word t)) 0) (set_read set)
    (and_then (and_then (number_read (first_word t)) (with_number_read set)) (λ more. numbers_alone n more (after_word t)))

-- a number is itself, whatever it is asked for, and is put into the set as it was
number-first : (k : Kind) (t : List ℕ) {n : ℕ} → number_read (first_word t) ≡ Ok n → value_read k t ≡ record { words = 1; read = Ok n }
unfolding value_read
number-first k t r = rw r

number_put : (k : Kind) (set n : ℕ) → is_weekday k ≡ false → with_value k set n ≡ with_number_read set n
unfolding with_value
number_put k set n e = rw e

pub numbers-as-before :
    (k : Kind) (n set : ℕ) (t : List ℕ) {s : ℕ} →
    is_weekday k ≡ false →
    numbers_alone n set t ≡ Ok s →
    set_of k n set t ≡ numbers_alone n set t
unfolding set_of numbers_alone after_words
numbers-as-before k zero set t e good = refl
numbers-as-before k (suc n) set t {s} e good =
    go (eqb (length (first_word t)) 0) (number_read (first_word t)) refl (λ more h. numbers-as-before k n more (after_word t) e h) good
  where
    Rest : Type 0
    Rest = (more : ℕ) → numbers_alone n more (after_word t) ≡ Ok s → set_of k n more (after_word t) ≡ numbers_alone n more (after_word t)

    rest : Rest → (a : Result ℕ Refusal) → and_then a (λ more. numbers_alone n more (after_word t)) ≡ Ok s → and_then a (λ more. set_of k n more (after_word t)) ≡ and_then a (λ more. numbers_alone n more (after_word t))
    rest others (Ok more) h = others more h
    rest others (Err r) h = refl

    go :
        (none : Bool) (a : Result ℕ Refusal) →
        number_read (first_word t) ≡ a →
        Rest →
        cond none (set_read set) (and_then (and_then a (with_number_read set)) (λ more. numbers_alone n more (after_word t))) ≡ Ok s →
        cond none (set_read set) (and_then (and_then (value_read k t).read (with_value k set)) (λ more. set_of k n more (after_words (value_read k t).words t)))
        ≡ cond none (set_read set) (and_then (and_then a (with_number_read set)) (λ more. numbers_alone n more (after_word t)))
    go true a ea others h = refl
    go false (Ok m) ea others h = rw (number-first k t ea, number_put k set m e) (rest others (with_number_read set m) h)
    go false (Err r) ea others h = absurd cc

-- One line: which is a date's, test by test, and what is printed. Assumes nothing.
use mathlib.Core.Bool.{Bool, true, false, cond}
use mathlib.Core.Path.{◌≡◌, refl, ap, sym, ◌∙◌}
use mathlib.Core.List.{List}
use Prim.Native.Nat.{ℕ, ◌≤◌, ◌<◌}
use native.Mathlib.Omega.{arith}
use lib.ListN.{length, get_or, take, length-append}
use borrow.Author.Tests.{eq-eqb, ne_eqb}
use Rattle.std.specs.Prelude.{Ok, Err}
use Rattle.days.specs.declared.refusal.Refusal.{Refusal}
use Rattle.days.specs.declared.refusal.Refusal.TheVariants.{NoSuchDate, OutOfRange, BadInput, NoSuchWeekday, LastBeforeFirst, BadCondition, ListTooShort, NoExtraMonth, BadLength, BadChecksum, BadIndex, NotZero, BadDay, BadEdition, BadLine, NoSuchBody}
use Rattle.days.specs.Refusals.{bad_input, refusal_number, result_number}
use Rattle.text.specs.Inputs.{day_input}
use lib.Dec.{eqb}
use Rattle.text.specs.Decimal.{all_digits, value_of, number_read}
use Rattle.text.specs.declared.Line.{Line}
use Rattle.text.specs.Lines.{newline, line_capacity, contents, Holds}
use Rattle.text.proofs.Reading.{read-few}
use Rattle.text.proofs.Printing.{digits-length}
use Rattle.words.specs.Words.{dash}
use Rattle.civil.specs.declared.Date.{Date}
use Rattle.dated.specs.Dated.{full_date_bytes}
use Rattle.iso.specs.Calendar.{iso_on, iso_day_of}
use Rattle.date_lines.specs.declared.Kind.TheVariants.{Dates, Days}
use Rattle.date_lines.specs.Lines.{date_digits, is_date_line, date_in, date_read, number_line_read, date_line, line_of}

module _ (l : List ℕ) where
  pub other_length : (length l ≡ 11 → ⊥) → Err BadLine ≡ date_read l
  unfolding date_read is_date_line
  other_length n = rw (ne_eqb (length l) 11 n)

  module _ (size : length l ≡ 11) where
    pub no-first-dash : (get_or l 4 0 ≡ dash → ⊥) → Err BadLine ≡ date_read l
    unfolding date_read is_date_line
    no-first-dash n = rw (eq-eqb (length l) 11 size, ne_eqb (get_or l 4 0) dash n)

    module _ (first : get_or l 4 0 ≡ dash) where
      pub no-second-dash : (get_or l 7 0 ≡ dash → ⊥) → Err BadLine ≡ date_read l
      unfolding date_read is_date_line
      no-second-dash n = rw (eq-eqb (length l) 11 size, eq-eqb (get_or l 4 0) dash first, ne_eqb (get_or l 7 0) dash n)

      module _ (second : get_or l 7 0 ≡ dash) where
        pub no-newline : (get_or l 10 0 ≡ newline → ⊥) → Err BadLine ≡ date_read l
        unfolding date_read is_date_line
        no-newline n = rw (eq-eqb (length l) 11 size, eq-eqb (get_or l 4 0) dash first, eq-eqb (get_or l 7 0) dash second, ne_eqb (get_or l 10 0) newline n)

        module _ (last : get_or l 10 0 ≡ newline) where
          by_digits : date_read l ≡ cond (all_digits (date_digits l)) (iso_day_of (date_in (value_of (date_digits l)))) (Err BadLine)
          unfolding date_read is_date_line
          by_digits = rw (eq-eqb (length l) 11 size, eq-eqb (get_or l 4 0) dash first, eq-eqb (get_or l 7 0) dash second, eq-eqb (get_or l 10 0) newline last)

          module _ (e : number_read (date_digits l) ≡ cond (all_digits (date_digits l)) (Ok (value_of (date_digits l))) (Err BadInput)) where
            pub no-digits : {r : Refusal} → Err r ≡ number_read (date_digits l) → Err BadLine ≡ date_read l
            no-digits {r} n = sym (by_digits ∙ go (all_digits (date_digits l)) (n ∙ e))
              where
                go : (t : Bool) → Err r ≡ cond t (Ok (value_of (date_digits l))) (Err BadInput) → cond t (iso_day_of (date_in (value_of (date_digits l)))) (Err BadLine) ≡ Err BadLine
                go true k = absurd cc
                go false k = refl

            pub digits : {n : ℕ} → Ok n ≡ number_read (date_digits l) → iso_day_of (date_in n) ≡ date_read l
            digits {n} z = sym (by_digits ∙ go (all_digits (date_digits l)) (z ∙ e))
              where
                go : (t : Bool) → Ok n ≡ cond t (Ok (value_of (date_digits l))) (Err BadInput) → cond t (iso_day_of (date_in (value_of (date_digits l)))) (Err BadLine) ≡ iso_day_of (date_in n)
                go true k = let same : n ≡ value_of (date_digits l) = cc in ap (λ (m : ℕ). iso_day_of (date_in m)) (sym same)
                go false k = absurd cc

pub few-read : (l : List ℕ) → number_read (date_digits l) ≡ cond (all_digits (date_digits l)) (Ok (value_of (date_digits l))) (Err BadInput)
few-read l = read-few (date_digits l) (omega arith) (omega arith)

-- a line of a number: 3 is told as 15, and nothing else is told otherwise
other-number : (r : Refusal) → (r ≡ BadInput → ⊥) → eqb (refusal_number r) bad_input ≡ false
other-number NoSuchDate h = refl
other-number OutOfRange h = refl
other-number BadInput h = absurd (h refl)
other-number NoSuchWeekday h = refl
other-number LastBeforeFirst h = refl
other-number BadCondition h = refl
other-number ListTooShort h = refl
other-number NoExtraMonth h = refl
other-number BadLength h = refl
other-number BadChecksum h = refl
other-number BadIndex h = refl
other-number NotZero h = refl
other-number BadDay h = refl
other-number BadEdition h = refl
other-number BadLine h = refl
other-number NoSuchBody h = refl

module _ (l : List ℕ) where
  pub bad-input : Err BadInput ≡ day_input l → Err BadLine ≡ number_line_read l
  unfolding number_line_read result_number
  bad-input e = rw (← e)

  pub other-refusal : {r : Refusal} → Err r ≡ day_input l → (r ≡ BadInput → ⊥) → Err r ≡ number_line_read l
  unfolding number_line_read result_number
  other-refusal {r} e h = rw (← e, other-number r h)

  pub a-day : {n : ℕ} → Ok n ≡ day_input l → Ok n ≡ number_line_read l
  unfolding number_line_read result_number
  a-day e = rw (← e)

-- how long a line is
pub date-length : (d : ℕ) → length (line_of Dates d) ≡ 11
unfolding line_of date_line full_date_bytes
date-length d = refl

pub number_fits : (d : ℕ) → d < 4294967296 → length (line_of Days d) ≤ line_capacity
unfolding line_of
number_fits d h = simp length-append (omega (arith, digits-length 9 d (omega arith)))

-- the line of a day, as it is made
pub date-made : (d : ℕ) (date : Date) (line : List ℕ) → date ≡ iso_on d → line ≡ date_line date → line ≡ line_of Dates d
unfolding line_of
date-made d date line e k = k ∙ ap date_line e

pub number-made : (d : ℕ) (line : Line) → Holds line (line_of Days d) → take line.len line.bytes ≡ line_of Days d
unfolding contents
number-made d line h = h.whole

-- The line of a day in each form, put together from what is found of the day, and that it fits a line: each number of
-- it has few digits, and each name is short. Assumes nothing.
use mathlib.Core.Path.{◌≡◌}
use mathlib.Core.Bool.{Bool, true, false, cond}
use mathlib.Core.List.{List, [], ◌∷◌, ◌++◌, append_assoc}
use Prim.Native.Nat.{ℕ, ◌≤◌, ◌<◌}
use native.Mathlib.Omega.{arith}
use lib.Dec.{eqb}
use lib.ListN.{length, length-append}
use Rattle.std.specs.Result.{result_unwrap_or}
use Rattle.civil.specs.Answers.{zeros, date_or_zeros}
use Rattle.dated.specs.Dated.{named_day_bytes}
use Rattle.dated.proofs.Laws.{named-day-short, named-day-some, full-date-length}
use Rattle.std.specs.Prelude.{Ok}
use Rattle.days.specs.Days.{last_day, pair_at, weekday_on}
use Rattle.days.proofs.Laws.{pair-in-range}
use Rattle.iso.specs.Calendar.{iso_date_of}
use Rattle.names.specs.declared.Kind.{Kind}
use Rattle.names.specs.declared.Kind.TheVariants.{Tithi, Nakshatra, Yoga, Karana, Weekday}
use Rattle.names.specs.declared.Print.{Print}
use Rattle.names.specs.declared.Print.TheVariants.{Numbers, Names, Csv}
use Rattle.names.specs.Columns.{padded, aligned, padded_name}
use Rattle.names.proofs.Columns.{name-fits, column-short, aligned-length, padded-name-length, quoted-short}
use Rattle.panchanga.specs.declared.Panchanga.{Panchanga}
use Rattle.panchanga.specs.OnDays.{panchanga_at, panchanga_of, tithi_at, nakshatra_at, yoga_at, karana_at}
use Rattle.panchanga.specs.TrueLongitudes.{second_edition, is_edition}
use Rattle.panchanga.proofs.Answers.{answered}
use Rattle.panchanga.proofs.Bounds.{tithi-small, nakshatra-small, yoga-small, karana-range}
use Rattle.text.specs.Ascii.{ascii}
use Rattle.text.specs.Decimal.{digits_of}
use Rattle.text.specs.declared.Line.{Line}
use Rattle.text.specs.Lines.{newline, line_capacity, with_byte, with_bytes, spaced}
use Rattle.text.proofs.Lines.{with-byte-is, with-bytes-append}
use Rattle.text.proofs.Printing.{digits-length}
use Rattle.catalogue.specs.Catalogue.{edition_text, counts_line, element_bytes, column_heading, named_elements, column_line, csv_heading, csv_fields, csv_elements, csv_line, elements_told, catalogue_heading, day_line}

-- ---- what is put together
module _ (ed n : ℕ) (p : Panchanga) (ep : Ok p ≡ panchanga_of ed (pair_at n)) where
  pub numbers-made : (l : Line) → with_byte (with_bytes (with_bytes l (named_day_bytes n)) (element_bytes p)) newline ≡ with_bytes l (day_line Numbers ed n)
  unfolding day_line
  numbers-made l = rw (← ep) (put-together (named_day_bytes n) (element_bytes p))
    where
      put-together : (day elements : List ℕ) → with_byte (with_bytes (with_bytes l day) elements) newline ≡ with_bytes l (day ++ (elements ++ (newline ∷ [])))
      put-together day elements = simp (with-byte-is, with-bytes-append, append_assoc)

  pub columns-made : column_line n (weekday_on n) p ≡ day_line Names ed n
  unfolding day_line
  columns-made = rw (← ep)

  pub csv-made : csv_line n (weekday_on n) p ≡ day_line Csv ed n
  unfolding day_line
  csv-made = rw (← ep)

-- ---- how long it is: no element's number has more than two digits
record Few (p : Panchanga) : Type 0 where
  tithi : length (digits_of p.tithi) ≤ 2
  nakshatra : length (digits_of p.nakshatra) ≤ 2
  yoga : length (digits_of p.yoga) ≤ 2
  karana : length (digits_of p.karana) ≤ 2

few : (ed n : ℕ) → is_edition ed ≡ true → n ≤ last_day → Few (elements_told (panchanga_of ed (pair_at n)))
few ed n t h =
    let d = pair_at n in
    rw (answered panchanga_at ed d (record { edition = t; range = pair-in-range n h }))
    (record {
      tithi = digits-length 1 (tithi_at ed d) (omega (arith, tithi-small ed d));
      nakshatra = digits-length 1 (nakshatra_at ed d) (omega (arith, nakshatra-small ed d));
      yoga = digits-length 1 (yoga_at ed d) (omega (arith, yoga-small ed d));
      karana = digits-length 1 (karana_at ed d) (omega (arith, karana-range ed d));
    })

numbers-short : (p : Panchanga) → Few p → length (element_bytes p) ≤ 12
unfolding element_bytes spaced
numbers-short p f = simp length-append (omega (arith, f.tithi, f.nakshatra, f.yoga, f.karana))

padded-short : (k : Kind) (n : ℕ) → length (padded_name k n) ≤ 19
padded-short k n = omega (arith, padded-name-length k n, column-short k)

names-short : (p : Panchanga) → length (named_elements p) ≤ 84
unfolding named_elements
names-short p =
    simp length-append
    (omega (arith, padded-short Tithi p.tithi, padded-short Nakshatra p.nakshatra, padded-short Yoga p.yoga, name-fits Karana p.karana, column-short Karana))

column-line-short : (n weekday : ℕ) (p : Panchanga) → n ≤ last_day → length (column_line n weekday p) ≤ line_capacity
unfolding column_line
column-line-short n weekday p h =
    simp length-append
    (omega (arith, aligned-length 6 (digits_of n) (digits-length 5 n (omega arith)), full-date-length (date_or_zeros n), padded-short Weekday weekday, names-short p))

fields-short : (k : Kind) (n : ℕ) → length (digits_of n) ≤ 2 → length (csv_fields k n) ≤ 25
unfolding csv_fields
fields-short k n h = simp length-append (omega (arith, quoted-short k n))

csv-short : (p : Panchanga) → Few p → length (csv_elements p) ≤ 100
unfolding csv_elements
csv-short p f =
    simp length-append
    (omega (arith, fields-short Tithi p.tithi f.tithi, fields-short Nakshatra p.nakshatra f.nakshatra, fields-short Yoga p.yoga f.yoga, fields-short Karana p.karana f.karana))

csv-line-short : (n weekday : ℕ) (p : Panchanga) → n ≤ last_day → weekday < 7 → Few p → length (csv_line n weekday p) ≤ line_capacity
unfolding csv_line
csv-line-short n weekday p h w f =
    simp length-append
    (omega (arith, digits-length 5 n (omega arith), full-date-length (date_or_zeros n), full-date-length (result_unwrap_or (iso_date_of n) zeros), fields-short Weekday weekday (digits-length 1 weekday (omega arith)), csv-short p f))

pub line-fits : (form : Print) (ed n : ℕ) → is_edition ed ≡ true → n ≤ last_day → length (day_line form ed n) ≤ line_capacity
unfolding day_line
line-fits Numbers ed n t h = simp length-append (omega (arith, named-day-short n h, numbers-short _ (few ed n t h)))
line-fits Names ed n t h = column-line-short n (weekday_on n) (elements_told (panchanga_of ed (pair_at n))) h
line-fits Csv ed n t h = csv-line-short n (weekday_on n) (elements_told (panchanga_of ed (pair_at n))) h (omega arith) (few ed n t h)

pub line-some : (form : Print) (ed n : ℕ) → 1 ≤ length (day_line form ed n)
unfolding day_line column_line csv_line
line-some Numbers ed n = simp length-append (omega (arith, named-day-some n))
line-some Names ed n = simp length-append (omega arith)
line-some Csv ed n = simp length-append (omega arith)

-- ---- the heading
pub edition-short : (ed : ℕ) → length (edition_text ed) ≤ 10
unfolding edition_text
edition-short ed = go (eqb ed second_edition)
  where
    go : (t : Bool) → length (cond t (ascii " edition 2") []) ≤ 10
    go true = omega arith
    go false = omega arith

pub counts-short : (ed found examined : ℕ) → found < 4294967296 → examined < 4294967296 → length (counts_line ed found examined) ≤ 45
unfolding counts_line
counts-short ed found examined h k =
    simp length-append (omega (arith, digits-length 9 found (omega arith), digits-length 9 examined (omega arith), edition-short ed))

pub heading-fits : (form : Print) (ed found examined : ℕ) → found < 4294967296 → examined < 4294967296 → length (catalogue_heading form ed found examined) ≤ line_capacity
unfolding catalogue_heading column_heading csv_heading padded aligned
heading-fits Numbers ed found examined h k = simp length-append (omega (arith, counts-short ed found examined h k))
heading-fits Names ed found examined h k = simp length-append (omega (arith, counts-short ed found examined h k))
heading-fits Csv ed found examined h k = omega arith

-- THE LAWS of lines: a day's line is read as that day, a line of a date that is read as a day is that day's line, and
-- reading what was written gives the list
-- back, for both kinds of line. By the bytes of a line, and by induction on the days. Assumes nothing.
use mathlib.Core.Bool.{Bool, true, false, cond, ◌&&◌, and-eq-true_iff}
use mathlib.Core.Path.{◌≡◌, refl, ap, ap₂, sym, ◌∙◌}
use mathlib.Core.List.{List, [], ◌∷◌, ◌++◌}
use Prim.Native.Nat.{ℕ, suc, ◌+◌, ◌*◌, ◌-◌, ◌/◌, ◌%◌, ◌≤◌, ◌<◌}
use Prim.Native.Char.{code}
use native.Mathlib.Omega.{arith}
use lib.Dec.{eqb, leb}
use lib.ListN.{length, get_or, length-append}
use lib.Seq.{take_at, get_or_at, take_all}
use borrow.Author.Tests.{ne_eqb, le-leb, leb-true, eqb-true, le-ltb}
use Rattle.std.specs.Prelude.{Result, Ok, Err, is_ok}
use Rattle.days.specs.declared.refusal.Refusal.{Refusal}
use Rattle.days.specs.declared.refusal.Refusal.TheVariants.{OutOfRange, ListTooShort, BadLine}
use Rattle.days.specs.Refusals.{bad_input, result_number, number_or_zero, and_then}
use Rattle.days.specs.Days.{last_day}
use Rattle.entries.specs.Listed.{EachDay}
use Rattle.text.specs.Decimal.{is_digit, all_digits, with_digit, value_of, digit_byte, digits_of}
use Rattle.text.specs.Lines.{newline}
use Rattle.text.specs.Inputs.{is_line, input_read, day_input}
use Rattle.text.proofs.Inputs.{day-read-low}
use Rattle.text.proofs.Reading.{is_digit_lem}
use Rattle.text.proofs.Printing.{digits-length}
use Rattle.text.proofs.RoundTrip.{digits-all, read-digits}
use Rattle.words.specs.Words.{dash, in_front}
use Rattle.civil.specs.declared.Date.{Date}
use Rattle.dated.specs.Dated.{two_digits, four_digits, full_date_bytes}
use Rattle.iso.specs.Calendar.{iso_on, iso_day_of, iso_date_of}
use Rattle.iso.proofs.Laws.{iso-day-of-date, iso-date-of-day, iso-small, iso-low}
use Rattle.date_lines.specs.declared.Kind.{Kind}
use Rattle.date_lines.specs.declared.Kind.TheVariants.{Dates, Days}
use Rattle.date_lines.specs.Lines.{date_digits, is_date_line, date_in, date_read, number_line_read, date_line, line_read, line_of}
use Rattle.date_lines.specs.Texts.{lines_of, first_refusal, days_of, converted, refused_line, lines_read, limited_read, all_days, text_of, days_answer}

-- the digits of small numbers are digits, and make the numbers again
last-digit : (n : ℕ) → is_digit (digit_byte (n % 10)) ≡ true
last-digit n = is_digit_lem (digit_byte (n % 10)) (omega arith) (omega arith)

four-value : (y : ℕ) → y < 10000 → 1000 * (y / 1000 % 10) + 100 * (y / 100 % 10) + 10 * (y / 10 % 10) + y % 10 ≡ y
four-value y h =
    let a : y / 100 ≡ 10 * (y / 1000) + y / 100 % 10 = omega arith in
    let b : y / 10 ≡ 10 * (y / 100) + y / 10 % 10 = omega arith in
    let c : y / 1000 % 10 ≡ y / 1000 = omega arith in
    omega (arith, a, b, c)

two-value : (n : ℕ) → n < 100 → 10 * (n / 10 % 10) + n % 10 ≡ n
two-value n h = omega arith

with-digit : (v d : ℕ) → with_digit v (digit_byte d) ≡ 10 * v + d
unfolding with_digit
with-digit v d = omega arith

module _ (x : Date) (y : x.year < 10000) (m : x.month < 100) (d : x.day < 100) where
  line-digits : all_digits (date_digits (date_line x)) ≡ true
  unfolding date_line full_date_bytes all_digits
  line-digits =
      rw (last-digit (x.year / 1000), last-digit (x.year / 100), last-digit (x.year / 10), last-digit x.year, last-digit (x.month / 10), last-digit x.month, last-digit (x.day / 10), last-digit x.day)

  line-value : value_of (date_digits (date_line x)) ≡ 10000 * x.year + 100 * x.month + x.day
  unfolding date_line full_date_bytes value_of
  line-value = simp with-digit (omega (arith, four-value x.year y, two-value x.month m, two-value x.day d))

  line-date : date_in (value_of (date_digits (date_line x))) ≡ x
  line-date = ap date_in line-value ∙ same x.year x.month x.day m d
    where
      same : (a b c : ℕ) → b < 100 → c < 100 → date_in (10000 * a + 100 * b + c) ≡ record { year = a; month = b; day = c }
      same a b c h k =
          let year : (10000 * a + 100 * b + c) / 10000 ≡ a = omega arith in
          let month : (10000 * a + 100 * b + c) / 100 % 100 ≡ b = omega arith in
          let day : (10000 * a + 100 * b + c) % 100 ≡ c = omega arith in
          rw (year, month, day)

  pub date-back : date_read (date_line x) ≡ iso_day_of x
  unfolding date_read
  date-back = rw (form, line-date)
    where
      form : is_date_line (date_line x) ≡ true
      form = unfold is_date_line in go line-digits
        where
          go : all_digits (date_digits (date_line x)) ≡ true → (eqb (length (date_line x)) 11 && eqb (get_or (date_line x) 4 0) dash && eqb (get_or (date_line x) 7 0) dash && eqb (get_or (date_line x) 10 0) newline && all_digits (date_digits (date_line x))) ≡ true
          go e = rw e (unfold date_line full_date_bytes in refl)

number-back : (d : ℕ) → d ≤ last_day → number_line_read (digits_of d ++ (newline ∷ [])) ≡ Ok d
unfolding number_line_read day_input input_read is_line result_number
number-back d h =
    let n : length (digits_of d ++ (newline ∷ [])) ≡ length (digits_of d) + 1 = length-append (digits_of d) (newline ∷ []) in
    let s : length (digits_of d ++ (newline ∷ [])) - 1 ≡ length (digits_of d) = omega arith in
    let few : length (digits_of d ++ (newline ∷ [])) ≤ 7 = omega (arith, digits-length 5 d (omega arith)) in
    rw
    (s, take_at (digits_of d) (newline ∷ []) (length (digits_of d)) refl, get_or_at (digits_of d) newline [] 0 (length (digits_of d)) refl, le-leb _ _ few, read-digits d (omega arith), le-leb d last_day h)

-- a day's line is read as the day
pub line-back : (kind : Kind) (d : ℕ) → d ≤ last_day → line_read kind (line_of kind d) ≡ Ok d
unfolding line_read line_of
line-back Dates d h = let s = iso-small d h in date-back (iso_on d) s.0 s.1.0 s.1.1 ∙ iso-day-of-date d h
line-back Days d h = number-back d h

-- a line of a date that is read as a day is that day's line
eleven : (l : List ℕ) → length l ≡ 11 → l ≡ get_or l 0 0 ∷ get_or l 1 0 ∷ get_or l 2 0 ∷ get_or l 3 0 ∷ get_or l 4 0 ∷ get_or l 5 0 ∷ get_or l 6 0 ∷ get_or l 7 0 ∷ get_or l 8 0 ∷ get_or l 9 0 ∷ get_or l 10 0 ∷ []
eleven [] e = absurd (omega arith)
eleven (a ∷ []) e = absurd (omega arith)
eleven (a ∷ b ∷ []) e = absurd (omega arith)
eleven (a ∷ b ∷ c ∷ []) e = absurd (omega arith)
eleven (a ∷ b ∷ c ∷ d ∷ []) e = absurd (omega arith)
eleven (a ∷ b ∷ c ∷ d ∷ f ∷ []) e = absurd (omega arith)
eleven (a ∷ b ∷ c ∷ d ∷ f ∷ g ∷ []) e = absurd (omega arith)
eleven (a ∷ b ∷ c ∷ d ∷ f ∷ g ∷ h ∷ []) e = absurd (omega arith)
eleven (a ∷ b ∷ c ∷ d ∷ f ∷ g ∷ h ∷ i ∷ []) e = absurd (omega arith)
eleven (a ∷ b ∷ c ∷ d ∷ f ∷ g ∷ h ∷ i ∷ j ∷ []) e = absurd (omega arith)
eleven (a ∷ b ∷ c ∷ d ∷ f ∷ g ∷ h ∷ i ∷ j ∷ k ∷ []) e = absurd (omega arith)
eleven (a ∷ b ∷ c ∷ d ∷ f ∷ g ∷ h ∷ i ∷ j ∷ k ∷ m ∷ []) e = refl
eleven (a ∷ b ∷ c ∷ d ∷ f ∷ g ∷ h ∷ i ∷ j ∷ k ∷ m ∷ n ∷ l) e = absurd (omega arith)

-- digits, read as a number and printed
Digit : ℕ → Type 0
Digit n = (code "0" ≤ n) × (n ≤ code "9")

four-kept : (n a b c d : ℕ) → Digit a → Digit b → Digit c → Digit d → n ≡ 1000 * (a - 48) + 100 * (b - 48) + 10 * (c - 48) + (d - 48) → four_digits n ≡ a ∷ b ∷ c ∷ d ∷ []
unfolding Digit
four-kept n a b c d p q r s e =
    let one : digit_byte (n / 1000 % 10) ≡ a = omega arith in
    let two : digit_byte (n / 100 % 10) ≡ b = omega arith in
    let three : digit_byte (n / 10 % 10) ≡ c = omega arith in
    let four : digit_byte (n % 10) ≡ d = omega arith in
    rw (one, two, three, four)

two-kept : (n a b : ℕ) → Digit a → Digit b → n ≡ 10 * (a - 48) + (b - 48) → two_digits n ≡ a ∷ b ∷ []
unfolding Digit
two-kept n a b p q e =
    let one : digit_byte (n / 10 % 10) ≡ a = omega arith in
    let two : digit_byte (n % 10) ≡ b = omega arith in
    rw (one, two)

a-digit : (b : ℕ) (bs : List ℕ) → all_digits (b ∷ bs) ≡ true → Digit b × (all_digits bs ≡ true)
unfolding all_digits is_digit Digit
a-digit b bs e =
    let s = (and-eq-true_iff (leb (code "0") b && leb b (code "9")) (all_digits bs)).0 e in
    let t = (and-eq-true_iff (leb (code "0") b) (leb b (code "9"))).0 s.0 in
    ((leb-true _ _ t.0, leb-true _ _ t.1), s.1)

digits-kept :
    (a b c d e f g h : ℕ) →
    all_digits (a ∷ b ∷ c ∷ d ∷ e ∷ f ∷ g ∷ h ∷ []) ≡ true →
    date_line (date_in (value_of (a ∷ b ∷ c ∷ d ∷ e ∷ f ∷ g ∷ h ∷ []))) ≡ a ∷ b ∷ c ∷ d ∷ dash ∷ e ∷ f ∷ dash ∷ g ∷ h ∷ newline ∷ []
unfolding date_line full_date_bytes value_of with_digit
digits-kept a b c d e f g h all =
    let p = a-digit a (b ∷ c ∷ d ∷ e ∷ f ∷ g ∷ h ∷ []) all in
    let q = a-digit b (c ∷ d ∷ e ∷ f ∷ g ∷ h ∷ []) p.1 in
    let r = a-digit c (d ∷ e ∷ f ∷ g ∷ h ∷ []) q.1 in
    let s = a-digit d (e ∷ f ∷ g ∷ h ∷ []) r.1 in
    let t = a-digit e (f ∷ g ∷ h ∷ []) s.1 in
    let u = a-digit f (g ∷ h ∷ []) t.1 in
    let v = a-digit g (h ∷ []) u.1 in
    let w = a-digit h [] v.1 in
    kept _ p.0 q.0 r.0 s.0 t.0 u.0 v.0 w.0 (omega arith)
  where
    parts : (n i j k : ℕ) → n ≡ 10000 * i + 100 * j + k → j < 100 → k < 100 → (n / 10000 ≡ i) × ((n / 100 % 100 ≡ j) × (n % 100 ≡ k))
    parts n i j k e h l = (omega arith, (omega arith, omega arith))

    small : (x y : ℕ) → Digit x → Digit y → 10 * (x - 48) + (y - 48) < 100
    small x y p q = unfold Digit in omega arith

    kept :
        (n : ℕ) →
        Digit a → Digit b → Digit c → Digit d → Digit e → Digit f → Digit g → Digit h →
        n ≡ 10000 * (1000 * (a - 48) + 100 * (b - 48) + 10 * (c - 48) + (d - 48)) + 100 * (10 * (e - 48) + (f - 48)) + (10 * (g - 48) + (h - 48)) →
        four_digits (n / 10000) ++ (dash ∷ two_digits (n / 100 % 100) ++ (dash ∷ two_digits (n % 100) ++ (newline ∷ []))) ≡ a ∷ b ∷ c ∷ d ∷ dash ∷ e ∷ f ∷ dash ∷ g ∷ h ∷ newline ∷ []
    kept n p q r s t u v w k =
        let split = parts n _ _ _ k (small e f t u) (small g h v w) in
        ap (λ (z : List ℕ). z ++ (dash ∷ two_digits (n / 100 % 100) ++ (dash ∷ two_digits (n % 100) ++ (newline ∷ [])))) (four-kept (n / 10000) a b c d p q r s split.0)
        ∙ ap₂ (λ (y z : List ℕ). (a ∷ b ∷ c ∷ d ∷ []) ++ (dash ∷ y ++ (dash ∷ z ++ (newline ∷ [])))) (two-kept (n / 100 % 100) e f t u split.1.0) (two-kept (n % 100) g h v w split.1.1)

pub one_line : (l : List ℕ) (d : ℕ) → date_read l ≡ Ok d → l ≡ line_of Dates d
unfolding date_read line_of
one_line l d e = go (is_date_line l) refl e
  where
    x : Date
    x = date_in (value_of (date_digits l))

    marks :
        (p q r : ℕ) →
        p ≡ dash →
        q ≡ dash →
        r ≡ newline →
        get_or l 0 0 ∷ get_or l 1 0 ∷ get_or l 2 0 ∷ get_or l 3 0 ∷ dash ∷ get_or l 5 0 ∷ get_or l 6 0 ∷ dash ∷ get_or l 8 0 ∷ get_or l 9 0 ∷ newline ∷ []
        ≡ get_or l 0 0 ∷ get_or l 1 0 ∷ get_or l 2 0 ∷ get_or l 3 0 ∷ p ∷ get_or l 5 0 ∷ get_or l 6 0 ∷ q ∷ get_or l 8 0 ∷ get_or l 9 0 ∷ r ∷ []
    marks p q r i j k = rw (i, j, k)

    printed : is_date_line l ≡ true → date_line x ≡ l
    printed f =
        let s = (and-eq-true_iff (eqb (length l) 11 && eqb (get_or l 4 0) dash && eqb (get_or l 7 0) dash && eqb (get_or l 10 0) newline) (all_digits (date_digits l))).0 (unfold is_date_line in f) in
        let t = (and-eq-true_iff (eqb (length l) 11 && eqb (get_or l 4 0) dash && eqb (get_or l 7 0) dash) (eqb (get_or l 10 0) newline)).0 s.0 in
        let u = (and-eq-true_iff (eqb (length l) 11 && eqb (get_or l 4 0) dash) (eqb (get_or l 7 0) dash)).0 t.0 in
        let v = (and-eq-true_iff (eqb (length l) 11) (eqb (get_or l 4 0) dash)).0 u.0 in
        digits-kept _ _ _ _ _ _ _ _ s.1
        ∙ marks (get_or l 4 0) (get_or l 7 0) (get_or l 10 0) (eqb-true _ _ v.1) (eqb-true _ _ u.1) (eqb-true _ _ t.1)
        ∙ sym (eleven l (eqb-true (length l) 11 v.0))

    is-day : iso_day_of x ≡ Ok d → iso_on d ≡ x
    is-day k = day (leb d last_day) refl (iso-date-of-day x d k)
      where
        day : (t : Bool) → leb d last_day ≡ t → iso_date_of d ≡ Ok x → iso_on d ≡ x
        day true h r = let given : iso_date_of d ≡ Ok (iso_on d) = unfold iso_date_of in rw h in cc
        day false h r = let none : iso_date_of d ≡ Err OutOfRange = unfold iso_date_of in rw h in absurd (cc)

    go : (t : Bool) → is_date_line l ≡ t → cond t (iso_day_of x) (Err BadLine) ≡ Ok d → l ≡ date_line (iso_on d)
    go true f k = sym (ap date_line (is-day k) ∙ printed f)
    go false f k = absurd cc

-- bytes that are no newline
NoNewline : List ℕ → Type 0
NoNewline [] = Unit {0}
NoNewline (b ∷ bs) = (b ≡ newline → ⊥) × NoNewline bs

-- a line ended by its newline is the first line of a text that begins with it
ended : (body rest : List ℕ) → NoNewline body → lines_of ((body ++ (newline ∷ [])) ++ rest) ≡ (body ++ (newline ∷ [])) ∷ lines_of rest
unfolding lines_of NoNewline
ended [] rest h = refl
ended (b ∷ bs) rest h = rw (ne_eqb b newline h.0) (ap (in_front b) (ended bs rest h.1) ∙ (unfold in_front in refl))

digits-no-newline : (bs : List ℕ) → all_digits bs ≡ true → NoNewline bs
unfolding NoNewline Digit
digits-no-newline [] e = tt
digits-no-newline (b ∷ bs) e = let s = a-digit b bs e in ((λ k. omega (arith, s.0)), digits-no-newline bs s.1)

date-no-newline : (x : Date) → NoNewline (full_date_bytes x)
unfolding NoNewline full_date_bytes
date-no-newline x = (byte _, (byte _, (byte _, (byte _, ((λ e. omega arith), (byte _, (byte _, ((λ e. omega arith), (byte _, (byte _, tt))))))))))
  where
    byte : (n : ℕ) → 48 + n ≡ newline → ⊥
    byte n e = omega arith

pub first_of : (kind : Kind) (d : ℕ) (rest : List ℕ) → lines_of (line_of kind d ++ rest) ≡ line_of kind d ∷ lines_of rest
unfolding line_of date_line full_date_bytes
first_of Days d rest = ended (digits_of d) rest (digits-no-newline (digits_of d) (digits-all d))
first_of Dates d rest = ended (full_date_bytes (iso_on d)) rest (date-no-newline (iso_on d))

-- what reading a text says where the text is the lines of days
pub record Back (kind : Kind) (ds : List ℕ) : Type 0 where
  pub good : first_refusal kind (lines_of (text_of kind ds)) ≡ Ok tt
  pub days : days_of kind (lines_of (text_of kind ds)) ≡ ds
  pub count : length (lines_of (text_of kind ds)) ≡ length ds

pub back : (kind : Kind) (ds : List ℕ) → EachDay ds → Back kind ds
back kind [] each = record { good = unfold text_of lines_of first_refusal in refl; days = unfold text_of lines_of days_of in refl; count = unfold text_of lines_of in refl }
back kind (d ∷ ds) each =
    let b = back kind ds (rest each).1 in
    let r = line-back kind d (rest each).0 in
    record {
      good = ap (first_refusal kind) first ∙ good-line r ∙ b.good;
      days = ap (days_of kind) first ∙ day-line r ∙ ap (λ (l : List ℕ). d ∷ l) b.days;
      count = ap length first ∙ ap suc b.count;
    }
  where
    rest : EachDay (d ∷ ds) → (d ≤ last_day) × EachDay ds
    rest e = unfold EachDay in e

    first : lines_of (text_of kind (d ∷ ds)) ≡ line_of kind d ∷ lines_of (text_of kind ds)
    first = unfold text_of in first_of kind d (text_of kind ds)

    good-line : line_read kind (line_of kind d) ≡ Ok d → first_refusal kind (line_of kind d ∷ lines_of (text_of kind ds)) ≡ first_refusal kind (lines_of (text_of kind ds))
    good-line r = unfold first_refusal in rw r

    day-line : line_read kind (line_of kind d) ≡ Ok d → days_of kind (line_of kind d ∷ lines_of (text_of kind ds)) ≡ d ∷ days_of kind (lines_of (text_of kind ds))
    day-line r = unfold days_of number_or_zero in rw r

-- reading what was written gives the list back
pub list_back : (kind : Kind) (ds : List ℕ) → EachDay ds → lines_read kind (lines_of (text_of kind ds)) ≡ converted (length ds)
unfolding lines_read
list_back kind ds each = let b = back kind ds each in rw (b.good, b.count)

-- a text has no more lines than bytes, so that the limit of as many is none
lines-few : (bs : List ℕ) → length (lines_of bs) ≤ length bs
unfolding lines_of
lines-few [] = omega arith
lines-few (b ∷ bs) = go (eqb b newline) (lines_of bs) (lines-few bs)
  where
    go : (t : Bool) (ls : List (List ℕ)) → length ls ≤ length bs → length (cond t ((b ∷ []) ∷ ls) (in_front b ls)) ≤ suc (length bs)
    go true ls h = omega arith
    go false [] h = unfold in_front in omega arith
    go false (l ∷ ls) h = unfold in_front in omega arith

pub whole-text : (kind : Kind) (text : List ℕ) → limited_read kind (length text) (lines_of text) ≡ lines_read kind (lines_of text)
unfolding limited_read
whole-text kind text =
    rw (take_all (length text) (lines_of text) (lines-few text), le-ltb (length text) (length (lines_of text)) (lines-few text)) (go (is_ok (lines_read kind (lines_of text))))
  where
    go : (t : Bool) → cond (t && false) (refused_line ListTooShort (length text + 1)) (lines_read kind (lines_of text)) ≡ lines_read kind (lines_of text)
    go true = refl
    go false = refl

-- a line that is read is a day's
line_low : (kind : Kind) (l : List ℕ) {n : ℕ} → Ok n ≡ line_read kind l → n ≤ last_day
unfolding line_read date_read number_line_read
line_low Dates l e = go (is_date_line l) e
  where
    go : {n : ℕ} (t : Bool) → Ok n ≡ cond t (iso_day_of (date_in (value_of (date_digits l)))) (Err BadLine) → n ≤ last_day
    go true e = iso-low (date_in (value_of (date_digits l))) e
    go false e = absurd cc
line_low Days l e = go (eqb (result_number (day_input l)) bad_input) e
  where
    go : {n : ℕ} (t : Bool) → Ok n ≡ cond t (Err BadLine) (day_input l) → n ≤ last_day
    go true e = absurd cc
    go {n} false e = day-read-low l n e

pub each_read : (kind : Kind) (ls : List (List ℕ)) → first_refusal kind ls ≡ Ok tt → EachDay (days_of kind ls)
unfolding first_refusal days_of EachDay
each_read kind [] e = tt
each_read kind (l ∷ ls) e = go (line_read kind l) refl e (each_read kind ls)
  where
    go : (t : Result ℕ Refusal) → line_read kind l ≡ t → and_then t (λ _. first_refusal kind ls) ≡ Ok tt → (first_refusal kind ls ≡ Ok tt → EachDay (days_of kind ls)) → (number_or_zero (line_read kind l) ≤ last_day) × EachDay (days_of kind ls)
    go (Ok n) h k r = (low n h, r k)
      where
        low : (n : ℕ) → line_read kind l ≡ Ok n → number_or_zero (line_read kind l) ≤ last_day
        low n h = unfold number_or_zero in rw h (line_low kind l (sym h))
    go (Err q) h k r = absurd cc

-- the lines of days have at most 11 bytes each
line-short : (kind : Kind) (d : ℕ) → d ≤ last_day → length (line_of kind d) ≤ 11
unfolding line_of date_line full_date_bytes
line-short Dates d h = omega arith
line-short Days d h = simp length-append (omega (arith, digits-length 5 d (omega arith)))

pub text-short : (kind : Kind) (ds : List ℕ) → EachDay ds → length (text_of kind ds) ≤ 11 * length ds
unfolding text_of EachDay
text-short kind [] each = omega arith
text-short kind (d ∷ ds) each = simp length-append (omega (arith, line-short kind d each.0, text-short kind ds each.1))

-- the lines of days are accepted where they fit
all-days : (ds : List ℕ) → EachDay ds → all_days ds ≡ true
unfolding all_days EachDay
all-days [] each = refl
all-days (d ∷ ds) each = rw (le-leb d last_day each.0) (all-days ds each.1)

pub days-fit : (kind : Kind) (ds : List ℕ) (room : ℕ) → EachDay ds → length (text_of kind ds) ≤ room → days_answer kind ds room ≡ converted (length (text_of kind ds))
unfolding days_answer
days-fit kind ds room each h = rw (all-days ds each, le-leb _ _ h)

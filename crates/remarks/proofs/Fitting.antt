-- What is said fits a line: what makes something likely bounds its numbers, and a keyword is short. Assumes nothing.
use Prim.Native.Nat.{ℕ, suc, ◌+◌, ◌*◌, ◌%◌, ◌≤◌, ◌<◌}
use mathlib.Core.Path.{◌≡◌, refl}
use mathlib.Core.Bool.{Bool, true, false, cond, ◌&&◌, and-eq-true_iff}
use mathlib.Core.List.{List, [], ◌∷◌}
use native.Mathlib.Omega.{arith}
use lib.Dec.{leb, ltb}
use lib.ListN.{length, length-append}
use borrow.Author.Tests.{ltb-true, leb-true}
use Rattle.dated.proofs.Laws.{date-short, angle-digits, angle-short}
use Rattle.std.specs.Prelude.{Option, Some, None, Result, Ok, Err, IfSome}
use Rattle.days.specs.declared.refusal.Refusal.{Refusal}
use Rattle.longitudes.specs.Longitudes.{circle}
use Rattle.page.specs.Names.{keywords}
use Rattle.page.specs.Page.{keyword_count, is_to}
use Rattle.text.specs.Decimal.{number_read}
use Rattle.text.specs.Lines.{line_capacity}
use Rattle.text.proofs.Printing.{digits-length}
use Rattle.values.specs.Values.{angle_read}
use Rattle.values.proofs.Refusals.{either}
use Rattle.words.specs.Words.{first_word, after_word, after_words, same_bytes, small, place_in}
use Rattle.words.proofs.Letters.{name-as-long}
use Rattle.words.proofs.Names.{no_longer}
use Rattle.remarks.specs.Remarks.{line_text, arc_text, seconds_text, width_text, numbers_text, days_text, likely_degrees, likely_end, likely_year, likely_years, said_of, plain_remark, width_up_to, end_remark, arc_remark, span_remark}

-- ---- what is likely
-- what holds of a pair that a test lets through
through : (test : Bool) (P : ℕ × ℕ → Type 0) (pair : ℕ × ℕ) → (test ≡ true → P pair) → IfSome (cond test (Some pair) None) P
through true P pair h = h refl
through false P pair h = tt {0}

abbrev pub Degrees : ℕ × ℕ → Type 0
Degrees d = (d.0 < 360) × (d.1 < 60)

pub degrees-likely : (a b : Result ℕ Refusal) → IfSome (likely_degrees a b) Degrees
unfolding likely_degrees
degrees-likely (Ok a) (Ok b) =
    through (ltb a 360 && ltb b 60) Degrees (a, b)
    (λ e. let both = (and-eq-true_iff (ltb a 360) (ltb b 60)).0 e in (ltb-true _ _ both.0, ltb-true _ _ both.1))
degrees-likely (Ok a) (Err _) = tt {0}
degrees-likely (Err _) b = tt {0}

abbrev pub Ends : ℕ × ℕ → Type 0
Ends d = (d.0 < circle) × (d.1 ≤ d.0 + 36000)

pub end-likely : (a b : Result ℕ Refusal) → IfSome (likely_end a b) Ends
unfolding likely_end
end-likely (Ok a) (Ok b) =
    through (leb 36000 a && (ltb a circle && (ltb a b && leb b (a + 36000)))) Ends (a, b)
    (λ e.
    let rest = ((and-eq-true_iff (leb 36000 a) _).0 e).1 in
    let last = (and-eq-true_iff (ltb a circle) _).0 rest in
    (ltb-true a circle last.0, leb-true b (a + 36000) ((and-eq-true_iff (ltb a b) _).0 last.1).1))
end-likely (Ok a) (Err _) = tt {0}
end-likely (Err _) b = tt {0}

abbrev pub Years : ℕ × ℕ → Type 0
Years d = (d.0 ≤ 2619) × (d.1 ≤ 2619)

year-true : (n : ℕ) → likely_year n ≡ true → n ≤ 2619
unfolding likely_year
year-true n e = leb-true n 2619 ((and-eq-true_iff (leb 1000 n) (leb n 2619)).0 e).1

pub years-likely : (a b : Result ℕ Refusal) → IfSome (likely_years a b) Years
unfolding likely_years
years-likely (Ok a) (Ok b) =
    through (likely_year a && likely_year b) Years (a, b)
    (λ e. let both = (and-eq-true_iff (likely_year a) (likely_year b)).0 e in (year-true _ both.0, year-true _ both.1))
years-likely (Ok a) (Err _) = tt {0}
years-likely (Err _) b = tt {0}

-- what is said of two numbers fits where it fits of those that there may be, and what is said else does
said-fits :
    (o : Option (ℕ × ℕ)) (P : ℕ × ℕ → Type 0) (said : ℕ → ℕ → List ℕ) (other : List ℕ) →
    IfSome o P →
    ((d : ℕ × ℕ) → P d → length (said d.0 d.1) ≤ line_capacity) →
    length other ≤ line_capacity →
    length (said_of o said other) ≤ line_capacity
said-fits (Some d) P said other h fits fits_other = fits d h
said-fits None P said other h fits fits_other = fits_other

-- ---- a word is as short as the longest name
place_short : (most : ℕ) (ns : List (List ℕ)) (w : List ℕ) → no_longer most ns ≡ true → place_in ns w < length ns → length w ≤ most
unfolding place_in no_longer
place_short most [] w e h = absurd (omega arith)
place_short most (n ∷ ns) w e h = go (same_bytes n (small w)) refl (place_short most ns w fits.1) h
  where
    fits : (leb (length n) most ≡ true) × (no_longer most ns ≡ true)
    fits = (and-eq-true_iff (leb (length n) most) (no_longer most ns)).0 e

    go : (t : Bool) → same_bytes n (small w) ≡ t → (place_in ns w < length ns → length w ≤ most) → cond t 0 (suc (place_in ns w)) < suc (length ns) → length w ≤ most
    go true same later k = omega (arith, name-as-long n w same, leb-true (length n) most fits.0)
    go false same later k = later (omega arith)

pub keyword-short : (w : List ℕ) → place_in keywords w < keyword_count → length w ≤ 12
unfolding no_longer
keyword-short w h = place_short 12 keywords w refl h

-- ---- each line fits
module _ (n : ℕ) (few : n < 100000000000000000000) where
  line-short : length (line_text n) ≤ 27
  unfolding line_text
  line-short = simp length-append (omega (arith, digits-length 19 n few))

  module _ (name : List ℕ) (short : length name ≤ 12) where
    arc-short : (start width : ℕ) → start < circle → width ≤ start + 36000 → length (arc_text n name start width) ≤ 70
    unfolding arc_text
    arc-short start width s w =
        simp length-append (omega (arith, line-short, angle-short start (omega arith), angle-digits 2 width (omega arith)))

    pub seconds-fit : (start width : ℕ) → start < 360 → width < 60 → length (seconds_text n name start width) ≤ line_capacity
    unfolding seconds_text
    seconds-fit start width s w =
        simp length-append (omega (arith, arc-short start width (omega arith) (omega arith), angle-short (3600 * start) (omega arith)))

    pub width_fits : (start width : ℕ) → start < circle → width ≤ start + 36000 → length (width_text n name start width) ≤ line_capacity
    unfolding width_text
    width_fits start width s w =
        simp length-append (omega (arith, arc-short start width s w, angle-short ((start + width) % circle) (omega arith)))

    plain_fits : (start width : List ℕ) → length (plain_remark n name start width) ≤ line_capacity
    unfolding plain_remark
    plain_fits start width =
        said-fits (likely_degrees (number_read start) (number_read width)) Degrees (seconds_text n name) _ (degrees-likely (number_read start) (number_read width)) (λ d h. seconds-fit d.0 d.1 h.0 h.1)
        (said-fits (likely_end (angle_read start) (angle_read width)) Ends (width_text n name) [] (end-likely (angle_read start) (angle_read width)) (λ d h. width_fits d.0 d.1 h.0 h.1) (omega arith))

    end_fits : (start end : List ℕ) → length (end_remark n name start end) ≤ line_capacity
    unfolding end_remark
    end_fits start end =
        let width : Result ℕ Refusal = width_up_to (number_read start) (number_read end) in
        said-fits (likely_degrees (number_read start) width) Degrees (seconds_text n name) [] (degrees-likely (number_read start) width) (λ d h. seconds-fit d.0 d.1 h.0 h.1) (omega arith)

    pub arc-fits : (t : List ℕ) → length (arc_remark n name t) ≤ line_capacity
    unfolding arc_remark
    arc-fits t =
        either (λ (said : List ℕ). length said ≤ line_capacity) (is_to (first_word (after_word t))) (end_fits (first_word t) (first_word (after_words 2 t))) (plain_fits (first_word t) (first_word (after_word t)))

  numbers-short : (first last : ℕ) → first ≤ 2619 → last ≤ 2619 → length (numbers_text n first last) ≤ 44
  unfolding numbers_text
  numbers-short first last f l = simp length-append (omega (arith, line-short, digits-length 3 first (omega arith), digits-length 3 last (omega arith)))

  pub days-fit : (first last : ℕ) → first ≤ 2619 → last ≤ 2619 → length (days_text n first last) ≤ line_capacity
  unfolding days_text
  days-fit first last f l =
      simp length-append
      (omega (arith, numbers-short first last f l, digits-length 3 first (omega arith), date-short first (omega arith), date-short last (omega arith)))

  pub span_fits : (first last : List ℕ) → length (span_remark n first last) ≤ line_capacity
  unfolding span_remark
  span_fits first last =
      said-fits (likely_years (number_read first) (number_read last)) Years (days_text n) [] (years-likely (number_read first) (number_read last)) (λ d h. days-fit d.0 d.1 h.0 h.1) (omega arith)

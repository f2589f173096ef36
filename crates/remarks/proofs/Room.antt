-- All that is said of an accepted page fits the buffer: two lines at most for each line with a keyword, of which there
-- are few, and one more. Assumes nothing.
use Prim.Native.Nat.{ℕ, suc, ◌+◌, ◌*◌, ◌≤◌, ◌<◌}
use mathlib.Core.Path.{◌≡◌, refl}
use mathlib.Core.Bool.{Bool, true, false, cond, false≢true}
use Rattle.std.specs.Prelude.{Result, Ok, Err, is_ok}
use Rattle.page.specs.declared.Fault.{Fault}
use Rattle.page.specs.declared.PageRead.{PageRead}
use mathlib.Core.List.{List, [], ◌∷◌, ◌++◌}
use native.Mathlib.Omega.{arith}
use lib.Dec.{eqb, ltb}
use lib.ListN.{length, length-append}
use borrow.Author.Tests.{ltb-true, ltb-false, le-ltb, le-leb, ne_eqb}
use Rattle.page.specs.Names.{keywords}
use Rattle.page.specs.Page.{span_keyword, arc_keywords, print_keyword, keyword_count, has_arcs, arc_words, lines_of, page_read}
use Rattle.page.proofs.LineNumbers.{lines-count}
use Rattle.page.proofs.Once.{line_keyword, of_keyword, keyword_lines, few-keywords}
use Rattle.text.specs.Lines.{line_capacity}
use Rattle.values.proofs.Refusals.{either}
use Rattle.words.specs.Words.{hash, up_to, first_word, after_word, after_words, place_in}
use Rattle.remarks.specs.Remarks.{arc_remark, first_remark, second_remark, line_remarks, lines_remarks, some_asks, nothing_asked, last_remark, page_remarks, remarks_room}
use Rattle.remarks.proofs.Fitting.{keyword-short, arc-fits, span_fits}

-- nothing is said of a line without a keyword
pub no-keyword : (n : ℕ) (name values : List ℕ) → keyword_count ≤ place_in keywords name → first_remark n name values ++ second_remark n name values ≡ []
unfolding first_remark second_remark has_arcs
no-keyword n name values h =
    rw (ne_eqb (place_in keywords name) span_keyword (λ e. omega arith), le-leb arc_keywords (place_in keywords name) (omega arith), le-ltb (place_in keywords name) print_keyword (omega arith))

module _ (n : ℕ) (few : n < 100000000000000000000) where
  module _ (name : List ℕ) (short : length name ≤ 12) where
    or-arc : (t : Bool) (text : List ℕ) → length (cond t (arc_remark n name text) []) ≤ line_capacity
    or-arc true text = arc-fits n few name short text
    or-arc false text = omega arith

    first_short : (values : List ℕ) → length (first_remark n name values) ≤ line_capacity
    unfolding first_remark
    first_short values =
        either (λ (said : List ℕ). length said ≤ line_capacity) (eqb (place_in keywords name) span_keyword) (span_fits n few (first_word values) (first_word (after_word values))) (or-arc (has_arcs (place_in keywords name)) values)

    second_short : (values : List ℕ) → length (second_remark n name values) ≤ line_capacity
    unfolding second_remark
    second_short values = or-arc (has_arcs (place_in keywords name)) (after_words (arc_words values) values)

    words-short : (values : List ℕ) → length (first_remark n name values ++ second_remark n name values) ≤ 2 * line_capacity
    words-short values = omega (arith, length-append (first_remark n name values) (second_remark n name values), first_short values, second_short values)

  line-room : (l : List ℕ) → length (line_remarks n l) ≤ 2 * line_capacity * of_keyword (line_keyword l)
  unfolding line_remarks
  line-room l = go (ltb (line_keyword l) keyword_count) refl
    where
      name : List ℕ
      name = first_word (up_to hash l)

      values : List ℕ
      values = after_word (up_to hash l)

      go : (t : Bool) → ltb (line_keyword l) keyword_count ≡ t → length (first_remark n name values ++ second_remark n name values) ≤ 2 * line_capacity * cond t 1 0
      go true e = omega (arith, words-short name (keyword-short name (ltb-true _ _ e)) values)
      go false e = rw (no-keyword n name values (ltb-false _ _ e)) (omega arith)

lines-room : (n : ℕ) (ls : List (List ℕ)) → n + length ls ≤ 100000000000000000000 → length (lines_remarks n ls) ≤ 2 * line_capacity * keyword_lines ls
unfolding lines_remarks keyword_lines
lines-room n [] h = omega arith
lines-room n (l ∷ ls) h =
    simp length-append (omega (arith, line-room n (omega arith) l, lines-room (suc n) ls (omega arith)))

last-short : (asked : Bool) → length (last_remark asked) ≤ line_capacity
unfolding last_remark nothing_asked
last-short true = omega arith
last-short false = omega arith

few-accepted : (text : List ℕ) → is_ok (page_read text) ≡ true → keyword_lines (lines_of text) ≤ keyword_count
few-accepted text = go (page_read text) refl
  where
    go : (page : Result PageRead Fault) → page_read text ≡ page → is_ok page ≡ true → keyword_lines (lines_of text) ≤ keyword_count
    go (Ok r) e h = few-keywords text e
    go (Err f) e h = absurd (false≢true h)

-- ALL OF IT FITS
pub remarks-fit :
    (n : ℕ) (text : List ℕ) →
    is_ok (page_read text) ≡ true →
    n + length text < 100000000000000000000 →
    length (page_remarks n (lines_of text)) ≤ remarks_room
remarks-fit n text accepted few =
    let lines = lines-room n (lines_of text) (omega (arith, lines-count text)) in
    simp length-append (omega (arith, lines, few-accepted text accepted, last-short (some_asks (lines_of text))))

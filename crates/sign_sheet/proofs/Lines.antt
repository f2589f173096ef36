-- The lines of a sheet of signs by refusal and index, how many there are, and that each fits: a day has few bytes, and
-- a sign has two digits. Assumes nothing.
use mathlib.Core.List.{List, [], ◌∷◌, ◌++◌, append_assoc}
use mathlib.Core.Path.{◌≡◌, refl, ap, ◌∙◌}
use Prim.Native.Nat.{ℕ, zero, suc, ◌+◌, ◌-◌, ◌≤◌, ◌<◌}
use native.Mathlib.Omega.{arith}
use lib.ListN.{length, length-append}
use borrow.Author.Tests.{le-leb, lt-leb}
use Rattle.dated.specs.Dated.{named_day_bytes}
use Rattle.dated.proofs.Laws.{named-day-short}
use Rattle.std.specs.Prelude.{Result, Ok, Err}
use Rattle.days.specs.declared.refusal.Refusal.{Refusal}
use Rattle.days.specs.Refusals.{refusal_number}
use Rattle.days.specs.Days.{last_day, pair_at}
use Rattle.days.proofs.Laws.{pair-in-range, given}
use Rattle.entries.specs.declared.NotPut.{NotPut}
use Rattle.entries.specs.Told.{why_not}
use Rattle.entries.specs.Entries.{capacity, entry_at}
use Rattle.span_line.specs.declared.Span.{Span}
use Rattle.text.specs.declared.Line.{Line}
use Rattle.text.specs.Lines.{newline, line_capacity, with_byte, with_bytes, spaced, Holds, refusal_line}
use Rattle.text.specs.Sheets.{line_at}
use Rattle.text.proofs.Lines.{with-byte-is, with-bytes-append}
use Rattle.text.proofs.Printing.{digits-length}
use Rattle.text.proofs.Sheets.{line_first, line-next, line-behind}
use Rattle.zodiac.specs.declared.Sun.{Sun}
use Rattle.zodiac.specs.Zodiac.{sign_at, sign_of, sign_on, listing_of, entries_after}
use Rattle.zodiac.proofs.Passed.{sign-on}
use Rattle.sign_sheet.specs.declared.Listed.{Listed}
use Rattle.sign_sheet.specs.SignSheets.{sign_heading, sign_line, asked, sun_asked, no_listing, listing_on, list_on, listed_for, list_for, listed_line, entry_lines, lines_listed, listing_lines}

-- ---- the span's refusal decides what is listed
module _ (sun : Sun) (input list : List ℕ) (es : sun ≡ sun_asked input) where
  abbrev AreListed : Listed → List ℕ → Type 0
  AreListed found after = (found ≡ listed_for input (capacity list)) × (after ≡ list_for input list)

  pub none-listed : {r : Refusal} → (asked input).span ≡ Err r → AreListed (record { sun = sun; listing = no_listing r }) list
  unfolding listing_on list_on
  none-listed e = rw (← es, e) (refl, refl)

  pub all_listed :
      {s : Span} →
      (asked input).span ≡ Ok s →
      (found : Result ℕ NotPut) (after : List ℕ) →
      found ≡ listing_of sun s.first s.last (capacity list) →
      after ≡ entries_after sun s.first s.last list →
      AreListed (record { sun = sun; listing = found }) after
  unfolding listing_on list_on
  all_listed e found after ef ea = rw (← es, e, ef, ea) (refl, refl)

entries-long : (sun : Sun) (list : List ℕ) (k n : ℕ) → length (entry_lines sun list k n) ≡ n
unfolding entry_lines
entries-long sun list k zero = refl
entries-long sun list k (suc n) = ap suc (entries-long sun list (suc k) n)

entries_at : (sun : Sun) (list : List ℕ) (k n i : ℕ) → i < n → line_at (entry_lines sun list k n) i ≡ listed_line sun (entry_at list (k + i))
unfolding entry_lines
entries_at sun list k zero i h = absurd (omega arith)
entries_at sun list k (suc n) zero h = let here : k + 0 ≡ k = omega arith in rw here (line_first _ _)
entries_at sun list k (suc n) (suc i) h =
    let next : suc k + i ≡ k + suc i = omega arith in
    line-next _ _ i ∙ entries_at sun list (suc k) n i (omega arith) ∙ ap (λ (j : ℕ). listed_line sun (entry_at list j)) next

-- ---- how many there are, and which line is meant
module _ (sun : Sun) (not : NotPut) (list : List ℕ) where
  refused-lines : listing_lines sun (Err not) list ≡ refusal_line (refusal_number (why_not not)) ∷ []
  unfolding listing_lines
  refused-lines = refl

  pub one-refused : 1 ≡ length (listing_lines sun (Err not) list)
  one-refused = rw refused-lines

  module _ (k : ℕ) where
    pub first-refused : k ≡ 0 → line_at (listing_lines sun (Err not) list) k ≡ refusal_line (refusal_number (why_not not))
    first-refused h = rw (refused-lines, h) (line_first _ _)

    pub rest-refused : (k ≡ 0 → ⊥) → line_at (listing_lines sun (Err not) list) k ≡ []
    rest-refused h = rw refused-lines (line-behind _ k (omega arith))

module _ (sun : Sun) (n : ℕ) (list : List ℕ) where
  pub accepted-lines : listing_lines sun (Ok n) list ≡ lines_listed sun n list
  unfolding listing_lines
  accepted-lines = refl

  pub entered-lines : lines_listed sun n list ≡ sign_heading ∷ entry_lines sun list 0 n
  unfolding lines_listed
  entered-lines = refl

  heading-and-entries : 1 + n ≡ length (lines_listed sun n list)
  heading-and-entries = rw entered-lines (omega (arith, entries-long sun list 0 n))

  pub counted : 1 + n ≡ length (listing_lines sun (Ok n) list)
  counted = rw accepted-lines heading-and-entries

  module _ (k : ℕ) where
    pub first-is-heading : k ≡ 0 → line_at (lines_listed sun n list) k ≡ sign_heading
    first-is-heading h = rw (entered-lines, h) (line_first _ _)

    pub none-behind : n < k → line_at (lines_listed sun n list) k ≡ []
    none-behind l = line-behind (lines_listed sun n list) k (omega (arith, heading-and-entries))

pub line-of-entry : (sun : Sun) (n : ℕ) (list : List ℕ) (k : ℕ) → (k ≡ 0 → ⊥) → k ≤ n → line_at (lines_listed sun n list) k ≡ listed_line sun (entry_at list (k - 1))
line-of-entry sun n list zero h l = absurd (h refl)
line-of-entry sun n list (suc k) h l =
    let back : suc k - 1 ≡ k = omega arith in
    let front : 0 + k ≡ k = omega arith in
    rw (entered-lines sun n list, back) (line-next _ _ k ∙ entries_at sun list 0 n k (omega arith) ∙ ap (λ (j : ℕ). listed_line sun (entry_at list j)) front)

module _ (sun : Sun) (due : Result ℕ Refusal) where
  pub none-due : {r : Refusal} → Err r ≡ due → listed_line sun due ≡ []
  unfolding listed_line
  none-due e = rw (← e)

  pub no-day-due : {n : ℕ} → Ok n ≡ due → last_day < n → listed_line sun due ≡ []
  unfolding listed_line
  no-day-due {n} e h = rw (← e, lt-leb n last_day h)

  pub day-due : {n : ℕ} → Ok n ≡ due → n ≤ last_day → listed_line sun due ≡ sign_line sun n
  unfolding listed_line
  day-due {n} e h = rw (← e, le-leb n last_day h)

-- ---- a line is put together from its parts, and it fits
pub sign-there : (sun : Sun) (n : ℕ) → n ≤ last_day → sign_of sun (pair_at n) ≡ Ok (sign_on sun n)
sign-there sun n h = given (sign_at sun) (pair_at n) (pair-in-range n h)

pub sign-line-made : (sun : Sun) (l : Line) (n sign : ℕ) → sign ≡ sign_on sun n → with_byte (with_bytes (with_bytes l (named_day_bytes n)) (spaced (sign ∷ []))) newline ≡ with_bytes l (sign_line sun n)
unfolding sign_line
sign-line-made sun l n sign e = rw e (together (named_day_bytes n) (spaced (sign_on sun n ∷ [])))
  where
    together : (a b : List ℕ) → with_byte (with_bytes (with_bytes l a) b) newline ≡ with_bytes l (a ++ (b ++ (newline ∷ [])))
    together a b = simp (with-byte-is, with-bytes-append, append_assoc)

pub sign-line-fits : (sun : Sun) (n : ℕ) → n ≤ last_day → length (sign_line sun n) ≤ line_capacity
unfolding sign_line spaced
sign-line-fits sun n h =
    let sign = digits-length 1 (sign_on sun n) (omega (arith, sign-on sun n)) in
    simp length-append (omega (arith, named-day-short n h))

pub heading-fits : length sign_heading ≤ line_capacity
unfolding sign_heading
heading-fits = omega arith

-- a line holds what is meant
pub meant : {l : Line} {xs ys : List ℕ} → xs ≡ ys → Holds l ys → Holds l xs
meant e h = rw e h

-- On an accepted page each keyword stands on one line: line by line the keywords that are still absent grow fewer, so
-- that it has no more lines with a keyword than there are keywords. Assumes nothing.
use mathlib.Core.Path.{◌≡◌, refl, ◌∙◌}
use mathlib.Core.Bool.{Bool, true, false, cond}
use mathlib.Core.List.{List, [], ◌∷◌}
use Prim.Native.Nat.{ℕ, zero, suc, ◌+◌, ◌≤◌, ◌<◌}
use native.Mathlib.Omega.{arith}
use borrow.Author.Tests.{eqb-true, ne_eqb, lt-ltb}
use lib.Dec.{eqb, leb, ltb}
use lib.ListN.{length, get_or, set, length-set}
use Rattle.std.specs.Prelude.{None, Result, Ok, Err, ⊤}
use Rattle.days.specs.declared.refusal.Refusal.{Refusal}
use Rattle.days.specs.Refusals.{bad_input, refusal_number}
use Rattle.values.proofs.Refusals.{either}
use Rattle.words.specs.Words.{hash, run_length, up_to, trimmed, first_word, after_word, after_words, same_bytes, small_from, place_in}
use Rattle.page.specs.Names.{keywords}
use Rattle.page.specs.declared.LineRead.{LineRead}
use Rattle.page.specs.declared.LineRead.TheVariants.{Blank, Malformed, Condition}
use Rattle.page.specs.declared.PageRead.{PageRead}
use Rattle.page.specs.declared.Reason.TheVariants.{UnknownWord, OtherValues}
use Rattle.page.specs.declared.Page.{Page}
use Rattle.page.specs.declared.Values.{Values}
use Rattle.page.specs.Page.{keyword_count, most_values, values_read, malformed_line, blank_line, condition_read, words_read, line_read, HasKeyword, with_fault, repeated_fault, with_new, with_keyword, with_line, with_lines, empty_page, lines_of, page_read}
use Rattle.page.proofs.Accepted.{no-fault, first-fault-former, answered}
use Rattle.page.proofs.Reading.{keyword-known}

-- the keyword that a line begins with
abbrev pub line_keyword : List ℕ → ℕ
line_keyword l = place_in keywords (first_word (up_to hash l))

-- one for a keyword
abbrev pub of_keyword : ℕ → ℕ
of_keyword k = cond (ltb k keyword_count) 1 0

-- how many lines have one
unfoldable pub keyword_lines : List (List ℕ) → ℕ
keyword_lines [] = 0
keyword_lines (l ∷ ls) = of_keyword (line_keyword l) + keyword_lines ls

-- how many keywords no line has had
unfoldable absent : List Bool → ℕ
absent [] = 0
absent (b ∷ bs) = cond b 0 1 + absent bs

absent-set : (bs : List Bool) (k : ℕ) → k < length bs → get_or bs k false ≡ false → absent (set bs k true) + 1 ≡ absent bs
unfolding absent
absent-set [] k h e = absurd (omega arith)
absent-set (b ∷ bs) zero h e = rw e (omega arith)
absent-set (b ∷ bs) (suc k) h e = omega (arith, absent-set bs k (omega arith) e)

no_word : (name : List ℕ) → length name ≡ 0 → place_in keywords name ≡ keyword_count
unfolding place_in same_bytes small_from
no_word [] h = refl
no_word (b ∷ bs) h = absurd (omega arith)

-- a line that is not malformed has the keyword k that it begins with, if any
abbrev KeywordOf : ℕ → LineRead → Type 0
KeywordOf k Blank = k ≡ keyword_count
KeywordOf k (Malformed _) = ⊤
KeywordOf k (Condition own _) = k ≡ own

condition-keyword : (k : ℕ) (v : Result Values Refusal) → KeywordOf k (condition_read k v)
unfolding condition_read
condition-keyword k (Ok v) = refl
condition-keyword k (Err r) = either (KeywordOf k) (eqb (refusal_number r) bad_input) (tt {0}) refl

words-keyword : (name behind : List ℕ) → KeywordOf (place_in keywords name) (words_read name behind)
unfolding words_read
words-keyword name behind = go (eqb (length name) 0) refl
  where
    k : ℕ
    k = place_in keywords name

    go : (t : Bool) → eqb (length name) 0 ≡ t → KeywordOf k (cond t blank_line (cond (leb keyword_count k) (malformed_line UnknownWord) (cond (eqb (length (first_word (after_words (most_values k) behind))) 0) (condition_read k (values_read k behind)) (malformed_line (OtherValues k)))))
    go true e = no_word name (eqb-true (length name) 0 e)
    go false e =
        either (KeywordOf k) (leb keyword_count k) (tt {0})
        (either (KeywordOf k) (eqb (length (first_word (after_words (most_values k) behind))) 0) (condition-keyword k (values_read k behind)) (tt {0}))

line-keyword : (l : List ℕ) → KeywordOf (line_keyword l) (line_read l)
unfolding line_read
line-keyword l = words-keyword (first_word (up_to hash l)) (after_word (up_to hash l))

-- a fault stays
abbrev Before : Page → Page → Type 0
Before p after = after.fault ≡ None → p.fault ≡ None

stays : (p : Page) (n : ℕ) (ls : List (List ℕ)) → Before p (with_lines p n ls)
unfolding with_lines
stays p n [] = λ e. e
stays p n (l ∷ []) = either (Before p) (eqb (length l) 0) (λ e. e) (λ e. absurd (no-fault _ e))
stays p n (l ∷ m ∷ ms) = λ e. first-fault-former p n (line_read l) (stays (with_line p n (line_read l)) (suc n) (m ∷ ms) e)

-- what a line that makes no fault, with keyword k, does to the keywords that are absent
record Fewer (k : ℕ) (p after : Page) : Type 0 where
  pub all : length after.present ≡ keyword_count
  fewer : of_keyword k + absent after.present ≤ absent p.present

new-fewer :
    (p : Page) (n k : ℕ) (v : Result Values Refusal) →
    length p.present ≡ keyword_count →
    k < keyword_count →
    get_or p.present k false ≡ false →
    (with_new p n k v).fault ≡ None →
    Fewer k p (with_new p n k v)
new-fewer p n k (Ok v) all h e none =
    record {
      all = length-set p.present k true ∙ all;
      fewer = rw (lt-ltb k keyword_count h) (omega (arith, absent-set p.present k (omega arith) e));
    }
new-fewer p n k (Err r) all h e none = absurd (no-fault _ none)

line-once :
    (p : Page) (n : ℕ) (l : LineRead) (k : ℕ) →
    length p.present ≡ keyword_count →
    KeywordOf k l →
    HasKeyword l →
    (with_line p n l).fault ≡ None →
    Fewer k p (with_line p n l)
unfolding with_line with_keyword
line-once p n Blank k all own known none = record { all = all; fewer = rw own (omega arith) }
line-once p n (Malformed why) k all own known none = absurd (no-fault _ none)
line-once p n (Condition j v) k all own known none = rw own (go (get_or p.present j false) refl none)
  where
    Done : Page → Type 0
    Done after = after.fault ≡ None → Fewer j p after

    go : (t : Bool) → get_or p.present j false ≡ t → Done (cond t (with_fault p (repeated_fault n j v)) (with_new p n j v))
    go true e = λ none. absurd (no-fault _ none)
    go false e = λ none. new-fewer p n j v all known e none

-- what is behind the last newline is no line
last_line : (p : Page) (n : ℕ) (l : List ℕ) → (with_lines p n (l ∷ [])).fault ≡ None → of_keyword (line_keyword l) ≡ 0
unfolding with_lines up_to trimmed run_length place_in same_bytes small_from
last_line p n [] e = refl
last_line p n (b ∷ bs) e = absurd (no-fault _ (rw (ne_eqb (length (b ∷ bs)) 0 (λ z. omega arith)) at e))

lines-once : (p : Page) (n : ℕ) (ls : List (List ℕ)) → length p.present ≡ keyword_count → (with_lines p n ls).fault ≡ None → keyword_lines ls ≤ absent p.present
unfolding with_lines keyword_lines
lines-once p n [] all e = omega arith
lines-once p n (l ∷ []) all e = omega (arith, last_line p n l e)
lines-once p n (l ∷ m ∷ ms) all e =
    let step = line-once p n (line_read l) (line_keyword l) all (line-keyword l) (keyword-known l) (stays (with_line p n (line_read l)) (suc n) (m ∷ ms) e) in
    let rest = lines-once (with_line p n (line_read l)) (suc n) (m ∷ ms) step.all e in
    omega (arith, rest, step.fewer)

-- AN ACCEPTED PAGE has at most so many lines with a keyword as there are keywords
pub few-keywords : (text : List ℕ) {r : PageRead} → page_read text ≡ Ok r → keyword_lines (lines_of text) ≤ keyword_count
unfolding page_read absent
few-keywords text h = lines-once empty_page 1 (lines_of text) refl (answered (with_lines empty_page 1 (lines_of text)) h)

-- A page has no more lines than bytes and one, so the line at fault is among the first so many: by induction on the
-- bytes, then on the lines.
-- Assumes nothing.
use mathlib.Core.Path.{◌≡◌, refl, subst}
use mathlib.Core.Bool.{Bool, true, false, cond}
use mathlib.Core.List.{List, [], ◌∷◌}
use Prim.Native.Nat.{ℕ, suc, ◌+◌, ◌≤◌}
use native.Mathlib.Omega.{arith}
use lib.Dec.{eqb}
use lib.ListN.{length, get_or}
use native.Mathlib.Numerals.{add-one}
use Rattle.std.specs.Prelude.{Option, Some, None, Result, Ok, Err, IfSome, IfErr}
use Rattle.std.proofs.lemmas.Result.{IfErr-at_err}
use Rattle.days.specs.declared.refusal.Refusal.{Refusal}
use Rattle.days.specs.Refusals.{refusal_number}
use Rattle.text.specs.Lines.{newline}
use Rattle.values.proofs.Refusals.{either}
use Rattle.words.specs.Words.{pieces, is_separator, in_front, unmarked}
use Rattle.words.proofs.Marks.{unmarked-shorter}
use Rattle.page.specs.declared.LineRead.{LineRead}
use Rattle.page.specs.declared.LineRead.TheVariants.{Blank, Malformed, Condition}
use Rattle.page.specs.declared.Reason.TheVariants.{RepeatedWord}
use Rattle.page.specs.declared.Values.{Values}
use Rattle.page.specs.declared.Fault.{Fault}
use Rattle.page.specs.declared.Page.{Page}
use Rattle.page.specs.declared.PageRead.{PageRead}
use Rattle.page.specs.Page.{ranks_before, refused_as, line_read, first_fault, fault_with, malformed_at, repeated_fault, with_new, with_keyword, with_line, with_lines, empty_page, answer_unless, page_answer, lines_of, page_read}

in-front-count : (b : ℕ) (ls : List (List ℕ)) → 1 ≤ length ls → length (in_front b ls) ≡ length ls
unfolding in_front
in-front-count b [] h = absurd (omega arith)
in-front-count b (l ∷ ls) h = refl

pieces-count : (text : List ℕ) → (1 ≤ length (pieces newline text)) × (length (pieces newline text) ≤ length text + 1)
unfolding pieces
pieces-count [] = (omega arith, omega arith)
pieces-count (b ∷ bs) = go (is_separator newline b) (pieces-count bs)
  where
    ls : List (List ℕ)
    ls = pieces newline bs

    go :
        (t : Bool) →
        (1 ≤ length ls) × (length ls ≤ length bs + 1) →
        (1 ≤ length (cond t ([] ∷ ls) (in_front b ls))) × (length (cond t ([] ∷ ls) (in_front b ls)) ≤ suc (length bs) + 1)
    go true h = (omega arith, omega arith)
    go false h = let same = in-front-count b ls h.0 in (omega arith, omega arith)

-- the line at fault, if any, is at most the nth
abbrev Within : ℕ → Page → Type 0
Within n p = IfSome p.fault (λ f. f.line ≤ n)

first-within : (n : ℕ) (f g : Fault) → f.line ≤ n → g.line ≤ n → (first_fault f g).line ≤ n
unfolding first_fault
first-within n f g hf hg =
    either (λ (h : Fault). h.line ≤ n) (ranks_before (refusal_number g.refusal) (refusal_number f.refusal)) hg hf

fault-within : (n : ℕ) (f : Option Fault) (g : Fault) → IfSome f (λ h. h.line ≤ n) → g.line ≤ n → (fault_with f g).line ≤ n
fault-within n (Some f) g hf hg = first-within n f g hf hg
fault-within n None g hf hg = hg

later : (n : ℕ) (f : Option Fault) → IfSome f (λ h. h.line ≤ n) → IfSome f (λ h. h.line ≤ suc n)
later n (Some f) h = omega arith
later n None h = h

refused-line : (k : ℕ) (r : Refusal) (n : ℕ) → (refused_as k r n).line ≤ n
unfolding refused_as
refused-line k r n = omega arith

repeated-within : (n k : ℕ) (v : Result Values Refusal) → (repeated_fault n k v).line ≤ n
repeated-within n k (Ok v) = omega arith
repeated-within n k (Err r) = first-within n (malformed_at RepeatedWord n) (refused_as k r n) (omega arith) (refused-line k r n)

new-within : (p : Page) (n k : ℕ) (v : Result Values Refusal) → Within n p → Within n (with_new p n k v)
new-within p n k (Ok v) h = h
new-within p n k (Err r) h = fault-within n p.fault (refused_as k r n) h (refused-line k r n)

line-within : (p : Page) (n : ℕ) (l : LineRead) → Within n p → Within n (with_line p n l)
unfolding with_line with_keyword
line-within p n Blank h = h
line-within p n (Malformed why) h = fault-within n p.fault _ h (omega arith)
line-within p n (Condition k v) h =
    either (Within n) (get_or p.present k false) (fault-within n p.fault _ h (repeated-within n k v)) (new-within p n k v h)

lines-within : (p : Page) (n : ℕ) (ls : List (List ℕ)) → Within n p → Within (n + length ls) (with_lines p (suc n) ls)
unfolding with_lines
lines-within p n [] h = let none : n ≡ n + length {A = List ℕ} [] = omega arith in subst (λ (m : ℕ). Within m p) none h
lines-within p n (l ∷ []) h =
    either (Within (n + 1)) (eqb (length l) 0) (rw add-one (later n p.fault h)) (fault-within (n + 1) p.fault _ (rw add-one (later n p.fault h)) (omega arith))
lines-within p n (l ∷ m ∷ ms) h =
    let k : suc n + length (m ∷ ms) ≡ n + length (l ∷ m ∷ ms) = omega arith in
    rw k at (lines-within (with_line p (suc n) (line_read l)) (suc n) (m ∷ ms) (line-within p (suc n) (line_read l) (later n p.fault h)))

-- a byte order mark is on no line
pub lines-count : (text : List ℕ) → length (lines_of text) ≤ length text + 1
lines-count text = omega (arith, (pieces-count (unmarked text)).1, unmarked-shorter text)

pub line-number : (text : List ℕ) {f : Fault} → page_read text ≡ Err f → f.line ≤ length text + 1
unfolding page_read page_answer
line-number text {f} h =
    let ls : List (List ℕ) = lines_of text in
    let few = lines-count text in
    IfErr-at_err (λ (f : Fault). f.line ≤ length text + 1) h
    (go _ (0 + length ls) (with_lines empty_page 1 ls).fault (omega (arith, few)) (lines-within empty_page 0 ls (tt {0})))
  where
    go : (r : PageRead) (n : ℕ) (f : Option Fault) → n ≤ length text + 1 → IfSome f (λ h. h.line ≤ n) → IfErr (answer_unless f r) (λ (f : Fault). f.line ≤ length text + 1)
    go r n None few w = tt {0}
    go r n (Some f) few w = omega arith

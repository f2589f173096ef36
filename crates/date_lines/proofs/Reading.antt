-- The lines read one by one: what the lines from a byte on say, with the lines before it, is what all say; and so for
-- the days that they put. Assumes nothing.
use mathlib.Core.Bool.{Bool, true, false}
use mathlib.Core.Path.{◌≡◌, refl, ap, sym, ◌∙◌}
use mathlib.Core.List.{List, [], ◌∷◌, ◌++◌}
use Prim.Native.Nat.{ℕ, zero, suc, ◌+◌, ◌*◌, ◌-◌, ◌≤◌, ◌<◌}
use native.Mathlib.Omega.{arith}
use lib.Dec.{leb}
use lib.ListN.{length, take, drop, length-take}
use lib.Seq.{take_all}
use borrow.Author.Tests.{leb-true, leb-false, lt-ltb, le-ltb}
use Rattle.std.specs.Prelude.{Result, Ok, Err}
use Rattle.days.specs.declared.refusal.Refusal.{Refusal}
use Rattle.days.specs.declared.refusal.Refusal.TheVariants.{ListTooShort}
use Rattle.days.specs.Refusals.{number_or_zero}
use Rattle.entries.specs.Entries.{capacity, with_entry, with_entries_from}
use Rattle.entries.proofs.Laws.{with-entry-length}
use Rattle.entries.proofs.Putting.{put_all, copied_all}
use Rattle.date_lines.specs.declared.Kind.{Kind}
use Rattle.date_lines.specs.declared.NotConverted.{NotConverted}
use Rattle.date_lines.specs.Lines.{line_read}
use Rattle.date_lines.specs.Texts.{lines_of, first_refusal, good_lines, days_of, converted, refused_line, too_short, lines_read, limited_read, with_room, list_answer, list_after}
use Rattle.date_lines.proofs.Splitting.{no_lines, some_line}

module _ (kind : Kind) (l : List ℕ) (ls : List (List ℕ)) where
  module _ {n : ℕ} (e : Ok n ≡ line_read kind l) where
    good-refusal : first_refusal kind (l ∷ ls) ≡ first_refusal kind ls
    unfolding first_refusal
    good-refusal = rw (← e)

    good-count : good_lines kind (l ∷ ls) ≡ good_lines kind ls + 1
    unfolding good_lines
    good-count = rw (← e) (omega arith)

  module _ {r : Refusal} (e : Err r ≡ line_read kind l) where
    bad-refusal : first_refusal kind (l ∷ ls) ≡ Err r
    unfolding first_refusal
    bad-refusal = rw (← e)

    bad-count : good_lines kind (l ∷ ls) ≡ 0
    unfolding good_lines
    bad-count = rw (← e)

none-refused : (kind : Kind) → first_refusal kind [] ≡ Ok tt
unfolding first_refusal
none-refused kind = refl

module _ (kind : Kind) (most : ℕ) where
  -- the answer, by what the lines that count say
  answer-refused : (ls : List (List ℕ)) (r : Refusal) (n : ℕ) → first_refusal kind (take most ls) ≡ Err r → good_lines kind (take most ls) + 1 ≡ n → refused_line r n ≡ limited_read kind most ls
  unfolding limited_read lines_read
  answer-refused ls r n e g = rw (e, g)

  answer-many : (ls : List (List ℕ)) → first_refusal kind (take most ls) ≡ Ok tt → most < length ls → refused_line ListTooShort (most + 1) ≡ limited_read kind most ls
  unfolding limited_read lines_read
  answer-many ls e h = rw (e, lt-ltb most (length ls) h)

  answer-all : (ls : List (List ℕ)) → first_refusal kind (take most ls) ≡ Ok tt → length ls ≤ most → converted (length ls) ≡ limited_read kind most ls
  unfolding limited_read lines_read
  answer-all ls e h = rw (e, le-ltb most (length ls) h, take_all most ls h)

  -- what lines that are accepted keep to
  pub record Accepted (ls : List (List ℕ)) : Type 0 where
    pub good : first_refusal kind ls ≡ Ok tt
    pub few : length ls ≤ most
    pub answer : limited_read kind most ls ≡ converted (length ls)

  pub accepted-lines : (ls : List (List ℕ)) {n : ℕ} → Ok n ≡ limited_read kind most ls → Accepted ls
  accepted-lines ls e = go (leb (length ls) most) refl (first_refusal kind (take most ls)) refl e
    where
      go : {n : ℕ} (t : Bool) → leb (length ls) most ≡ t → (u : Result (Unit {0}) Refusal) → first_refusal kind (take most ls) ≡ u → Ok n ≡ limited_read kind most ls → Accepted ls
      go true h (Ok tt) k e =
          let few = leb-true _ _ h in
          record { good = ap (first_refusal kind) (sym (take_all most ls few)) ∙ k; few = few; answer = sym (answer-all ls k few) }
      go false h (Ok tt) k e = let many = answer-many ls k (leb-false _ _ h) in absurd (cc)
      go t h (Err r) k e = let bad = answer-refused ls r _ k refl in absurd (cc)

module _ (kind : Kind) (most : ℕ) (text : List ℕ) where
  -- the lines that count of the rest of a text, behind so many
  abbrev ahead : List ℕ → ℕ → List (List ℕ)
  ahead rest lines = take (most - lines) (lines_of rest)

  pub record Passed (rest : List ℕ) (lines : ℕ) : Type 0 where
    pub few : lines + length rest ≤ length text
    pub limit : lines ≤ most
    pub refusal : first_refusal kind (ahead text 0) ≡ first_refusal kind (ahead rest lines)
    pub good : good_lines kind (ahead text 0) ≡ lines + good_lines kind (ahead rest lines)
    pub count : length (lines_of text) ≡ lines + length (lines_of rest)

  pub passed_none : (rest : List ℕ) → rest ≡ text → Passed rest 0
  passed_none rest e =
      record {
        few = omega (arith, ap length e);
        limit = omega arith;
        refusal = ap (λ (t : List ℕ). first_refusal kind (ahead t 0)) (sym e);
        good = omega (arith, ap (λ (t : List ℕ). good_lines kind (ahead t 0)) e);
        count = omega (arith, ap (λ (t : List ℕ). length (lines_of t)) e);
      }

  start : ahead text 0 ≡ take most (lines_of text)
  start =
      let e : most - 0 ≡ most = omega arith in
      ap (λ (n : ℕ). take n (lines_of text)) e

  module _ (rest : List ℕ) (lines : ℕ) (p : Passed rest lines) where
    pub passed-end : length rest ≡ 0 → converted lines ≡ limited_read kind most (lines_of text)
    passed-end h =
        let none = no_lines rest h in
        let c : length (lines_of text) ≡ lines = p.count ∙ omega (arith, ap length none) in
        let e : first_refusal kind (take most (lines_of text)) ≡ Ok tt = ap (first_refusal kind) (sym start) ∙ p.refusal ∙ ap (λ (ls : List (List ℕ)). first_refusal kind (take (most - lines) ls)) none ∙ empty (most - lines) in
        ap converted (sym c) ∙ answer-all kind most (lines_of text) e (omega (arith, p.limit))
      where
        empty : (n : ℕ) → first_refusal kind (take n []) ≡ Ok tt
        empty zero = none-refused kind
        empty (suc n) = none-refused kind

    pub passed-many : lines ≡ most → 0 < length rest → refused_line ListTooShort (lines + 1) ≡ limited_read kind most (lines_of text)
    passed-many same some =
        let zero_left : most - lines ≡ 0 = omega arith in
        let e : first_refusal kind (take most (lines_of text)) ≡ Ok tt = ap (first_refusal kind) (sym start) ∙ p.refusal ∙ ap (λ (n : ℕ). first_refusal kind (take n (lines_of rest))) zero_left ∙ none-refused kind in
        let long : most < length (lines_of text) = omega (arith, p.count, some_line rest some) in
        ap (λ (n : ℕ). refused_line ListTooShort (n + 1)) same ∙ answer-many kind most (lines_of text) e long

    module _ (line more : List ℕ) (split : lines_of rest ≡ line ∷ lines_of more) (m : lines + 1 ≤ most) where
      one : ahead rest lines ≡ line ∷ ahead more (lines + 1)
      one =
          let left : most - lines ≡ suc (most - (lines + 1)) = omega arith in
          rw (left, split)

      pub passed-bad : {r : Refusal} → Err r ≡ line_read kind line → refused_line r (lines + 1) ≡ limited_read kind most (lines_of text)
      passed-bad {r} e =
          let f : first_refusal kind (take most (lines_of text)) ≡ Err r = ap (first_refusal kind) (sym start) ∙ p.refusal ∙ ap (first_refusal kind) one ∙ bad-refusal kind line _ e in
          let g : good_lines kind (take most (lines_of text)) ≡ lines = ap (good_lines kind) (sym start) ∙ p.good ∙ omega (arith, ap (good_lines kind) one, bad-count kind line (ahead more (lines + 1)) e) in
          answer-refused kind most (lines_of text) r (lines + 1) f (omega arith)

      pub passed-good : {n : ℕ} → Ok n ≡ line_read kind line → length more < length rest → Passed more (lines + 1)
      passed-good e s =
          record {
            few = omega (arith, p.few);
            limit = m;
            refusal = p.refusal ∙ ap (first_refusal kind) one ∙ good-refusal kind line _ e;
            good = omega (arith, p.good, ap (good_lines kind) one, good-count kind line (ahead more (lines + 1)) e);
            count = omega (arith, p.count, ap length split);
          }

-- so many lines and bytes are left
pub record Left (most count : ℕ) (text rest : List ℕ) (lines seen : ℕ) : Type 0 where
  pub lines_left : lines + count ≡ most
  pub bytes_left : seen + length rest ≡ length text

pub left_none : (most count : ℕ) (text rest : List ℕ) → count ≡ most → rest ≡ text → Left most count text rest 0 0
left_none most count text rest m e = record { lines_left = omega arith; bytes_left = omega (arith, ap length e) }

-- the days put, from an entry on
module _ (kind : Kind) (text list : List ℕ) where
  pub record Put (now rest : List ℕ) (index : ℕ) : Type 0 where
    pub same : length now ≡ length list
    pub left : with_entries_from list 0 (days_of kind (lines_of text)) ≡ with_entries_from now index (days_of kind (lines_of rest))

  pub put-none : (rest : List ℕ) → rest ≡ text → Put list rest 0
  put-none rest e = record { same = refl; left = ap (λ (t : List ℕ). with_entries_from list 0 (days_of kind (lines_of t))) (sym e) }

  module _ (now rest : List ℕ) (index : ℕ) (p : Put now rest index) where
    pub put-end : length rest ≡ 0 → now ≡ with_entries_from list 0 (days_of kind (lines_of text))
    unfolding days_of with_entries_from
    put-end h = sym (p.left ∙ ap (λ (ls : List (List ℕ)). with_entries_from now index (days_of kind ls)) (no_lines rest h))

    pub put-line :
        (line more after : List ℕ) {n : ℕ} →
        lines_of rest ≡ line ∷ lines_of more →
        Ok n ≡ line_read kind line →
        after ≡ with_entry now index n →
        Put after more (index + 1)
    put-line line more after {n} split e a =
        record {
          same = ap length a ∙ with-entry-length now index n ∙ p.same;
          left = p.left ∙ ap (λ (ls : List (List ℕ)). with_entries_from now index (days_of kind ls)) split ∙ one ∙ ap (λ (d : List ℕ). with_entries_from d (index + 1) (days_of kind (lines_of more))) (sym a);
        }
      where
        one : with_entries_from now index (days_of kind (line ∷ lines_of more)) ≡ with_entries_from (with_entry now index n) (index + 1) (days_of kind (lines_of more))
        one = unfold days_of with_entries_from number_or_zero in rw (← e)

pub days-length : (kind : Kind) (ls : List (List ℕ)) → length (days_of kind ls) ≡ length ls
unfolding days_of
days-length kind [] = refl
days-length kind (l ∷ ls) = ap suc (days-length kind ls)

pub front-short : (n : ℕ) (l : List ℕ) (most : ℕ) → n ≤ most → length (take n l) ≤ most
front-short n l most h = omega (arith, length-take n l)

-- the answers of the whole, by the answer of reading the lines
module _ (kind : Kind) (most : ℕ) (text list : List ℕ) where
  pub not-read : {f : NotConverted} → Err f ≡ limited_read kind most (lines_of text) → (Err f ≡ list_answer kind most text list) × (list ≡ list_after kind most text list)
  unfolding list_after with_room
  not-read e = rw (← e) (refl, refl)

  module _ {n : ℕ} (e : Ok n ≡ limited_read kind most (lines_of text)) where
    pub no_room : capacity list < n → (too_short n ≡ list_answer kind most text list) × (list ≡ list_after kind most text list)
    unfolding list_after with_room
    no_room h = rw (← e, lt-ltb (capacity list) n h) (refl, refl)

    enough : n ≡ length (days_of kind (lines_of text))
    enough =
        let a = (accepted-lines kind most (lines_of text) e).answer in
        let all : n ≡ length (lines_of text) = cc in
        all ∙ sym (days-length kind (lines_of text))

    -- the days that were kept are copied
    pub all-copied :
        n ≤ capacity list →
        (before kept after : List ℕ) →
        kept ≡ with_entries_from before 0 (days_of kind (lines_of text)) →
        n ≤ capacity before →
        after ≡ take (length (take (4 * n) kept)) (take (4 * n) kept) ++ drop (length (take (4 * n) kept)) list →
        (Ok n ≡ list_answer kind most text list) × (after ≡ list_after kind most text list)
    unfolding list_after with_room
    all-copied h before kept after k room a =
        let copy = copied_all (days_of kind (lines_of text)) before kept list after k (omega (arith, enough)) (rw enough at a) in
        rw (← e, le-ltb (capacity list) n h) (refl, copy)

    pub all-put : n ≤ capacity list → (after : List ℕ) → after ≡ with_entries_from list 0 (days_of kind (lines_of text)) → (Ok n ≡ list_answer kind most text list) × (after ≡ list_after kind most text list)
    unfolding list_after with_room
    all-put h after a =
        rw (← e, le-ltb (capacity list) n h)
        (refl, a ∙ put_all (days_of kind (lines_of text)) list (omega (arith, enough)))

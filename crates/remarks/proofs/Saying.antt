-- What holds along the loop over a page's lines: what was said of the lines so far stands at the front of the buffer,
-- and with what is due of those ahead it is all that is said. Assumes nothing.
use Prim.Native.Nat.{ℕ, suc, ◌+◌, ◌≤◌, ◌<◌}
use mathlib.Core.Path.{◌≡◌, refl, ap, sym, ◌∙◌}
use mathlib.Core.Bool.{Bool, true, false, cond, ◌||◌}
use mathlib.Core.List.{List, [], ◌∷◌, ◌++◌, append_assoc, append-nil}
use native.Mathlib.Omega.{arith}
use native.Mathlib.Numerals.{add-one}
use borrow.Author.Tests.{ltb-false}
use lib.Dec.{ltb}
use lib.ListN.{length, length-append, length-drop, drop_of_length-le}
use Rattle.std.specs.Prelude.{is_ok}
use Rattle.std.proofs.lemmas.Bool.{cond_both}
use Rattle.page.specs.Page.{has_arcs, lines_of, page_read}
use Rattle.text.specs.Lines.{newline}
use Rattle.text.specs.Sheets.{put_at}
use Rattle.text.proofs.Sheets.{put-length}
use Rattle.words.specs.Words.{run_length, up_to, trimmed, after_first, pieces, same_bytes, small_from, unmarked, place_in}
use Rattle.words.proofs.Marks.{unmarked-shorter}
use Rattle.words.proofs.Pieces.{later_pieces, pieces-first}
use Rattle.remarks.specs.Remarks.{first_remark, second_remark, line_remarks, lines_remarks, asks, some_asks, nothing_asked, last_remark, page_remarks, remarks_of, remarks_room}
use Rattle.remarks.proofs.Putting.{put-none, put-behind}
use Rattle.remarks.proofs.Room.{remarks-fit}

-- what is due of the lines of a text from the nth on, where some line before asked or none did
abbrev pub due : ℕ → Bool → List ℕ → List ℕ
due n asked text = lines_remarks n (pieces newline text) ++ last_remark (asked || some_asks (pieces newline text))

-- ---- the lines one by one
nothing-after : (rest : List ℕ) → ltb (run_length false newline rest) (length rest) ≡ false → after_first newline rest ≡ []
unfolding after_first
nothing-after rest e =
    drop_of_length-le rest {i = suc (run_length false newline rest)} (omega (arith, ltb-false (run_length false newline rest) (length rest) e))

pub after_less : (rest : List ℕ) → 0 < length rest → length (after_first newline rest) < length rest
unfolding after_first
after_less rest some = simp length-drop (omega arith)

empty : (s : List ℕ) → length s ≡ 0 → s ≡ []
empty [] h = refl
empty (b ∷ s) h = absurd (omega arith)

-- the lines after the first are those of what is after it, for what counts no empty line
later : {A : Type 0} (g : List (List ℕ) → A) → g ([] ∷ []) ≡ g [] → (rest : List ℕ) → g (later_pieces newline rest) ≡ g (pieces newline (after_first newline rest))
unfolding later_pieces pieces
later g e rest = go (ltb (run_length false newline rest) (length rest)) refl
  where
    go : (t : Bool) → ltb (run_length false newline rest) (length rest) ≡ t → g (cond t (pieces newline (after_first newline rest)) []) ≡ g (pieces newline (after_first newline rest))
    go true h = refl
    go false h = sym e ∙ ap (λ (s : List ℕ). g (pieces newline s)) (sym (nothing-after rest h))

empty-said : (n : ℕ) → lines_remarks n ([] ∷ []) ≡ []
unfolding lines_remarks line_remarks first_remark second_remark has_arcs up_to trimmed run_length place_in same_bytes small_from
empty-said n = refl

empty-asks : some_asks ([] ∷ []) ≡ false
unfolding some_asks asks up_to trimmed run_length place_in same_bytes small_from
empty-asks = refl

none_said : (n : ℕ) → lines_remarks n [] ≡ []
unfolding lines_remarks
none_said n = refl

none-asks : some_asks [] ≡ false
unfolding some_asks
none-asks = refl

said-next : (n : ℕ) (rest : List ℕ) → lines_remarks n (pieces newline rest) ≡ line_remarks n (up_to newline rest) ++ lines_remarks (suc n) (pieces newline (after_first newline rest))
unfolding lines_remarks
said-next n rest =
    rw (pieces-first newline rest)
    (ap (λ (l : List ℕ). line_remarks n (up_to newline rest) ++ l) (later (lines_remarks (suc n)) (empty-said (suc n) ∙ sym (none_said (suc n))) rest))

asks-next : (rest : List ℕ) → some_asks (pieces newline rest) ≡ asks (up_to newline rest) || some_asks (pieces newline (after_first newline rest))
unfolding some_asks
asks-next rest =
    rw (pieces-first newline rest)
    (ap (λ (b : Bool). asks (up_to newline rest) || b) (later some_asks (empty-asks ∙ sym none-asks) rest))

or_assoc : (a b c : Bool) → a || (b || c) ≡ (a || b) || c
or_assoc true b c = refl
or_assoc false b c = refl

due-next : (n : ℕ) (asked : Bool) (rest : List ℕ) → due n asked rest ≡ line_remarks n (up_to newline rest) ++ due (suc n) (asked || asks (up_to newline rest)) (after_first newline rest)
due-next n asked rest =
    rw (said-next n rest, asks-next rest, or_assoc asked (asks (up_to newline rest)) (some_asks (pieces newline (after_first newline rest))))
    (append_assoc (line_remarks n (up_to newline rest)) _ _)

due-none : (n : ℕ) (asked : Bool) → due n asked [] ≡ last_remark asked
unfolding pieces
due-none n true = rw (empty-said n)
due-none n false = rw (empty-said n, empty-asks)

-- ---- what was read
module _ (n : ℕ) (text : List ℕ) where
  pub remarks-are : is_ok (page_read text) ≡ true → remarks_of n text ≡ page_remarks n (lines_of text)
  unfolding remarks_of
  remarks-are e = rw e

  -- all of it fits
  pub remarks-short : n + length text < 100000000000000000000 → length (remarks_of n text) ≤ remarks_room
  unfolding remarks_of
  remarks-short few =
      cond_both (is_ok (page_read text)) (page_remarks n (lines_of text)) [] (λ (said : List ℕ). length said ≤ remarks_room) (λ e. remarks-fit n text e few) (λ _. omega arith)

  pub refused-said : is_ok (page_read text) ≡ false → (b : List ℕ) → (◌≡◌ {A = ℕ} 0 (length (remarks_of n text))) × (b ≡ put_at b 0 (remarks_of n text))
  unfolding remarks_of
  refused-said e b = rw e (refl, sym (put-none b 0 refl))

-- ---- before the line `number`: rest is what is left of the text
pub record Saying (first : ℕ) (text before : List ℕ) (number at : ℕ) (asked : Bool) (rest buffer : List ℕ) : Type 0 where
  pub done : List ℕ
  pub whole : done ++ due number asked rest ≡ remarks_of first text
  pub count : at ≡ length done
  pub put : buffer ≡ put_at before 0 done
  pub room : number + length rest ≤ first + length text

module _ (first : ℕ) (text before : List ℕ) (accepted : is_ok (page_read text) ≡ true) where
  pub saying-start : Saying first text before first 0 false (unmarked text) before
  saying-start =
      record {
        done = [];
        whole = sym (remarks-are first text accepted);
        count = refl;
        put = sym (put-none before 0 refl);
        room = omega (arith, unmarked-shorter text);
      }

  module _ (few : first + length text < 100000000000000000000) (size : length before ≡ remarks_room) (number at : ℕ) (asked : Bool) (rest buffer : List ℕ) (s : Saying first text before number at asked rest buffer) where
    -- what comes next has room
    fits : (said behind : List ℕ) → due number asked rest ≡ said ++ behind → length (s.done ++ said) ≤ length before
    fits said behind e =
        omega (arith, size, remarks-short first text few, ap length (sym s.whole ∙ ap (λ (l : List ℕ). s.done ++ l) e), length-append s.done (said ++ behind), length-append said behind, length-append s.done said)

    pub same_size : length buffer ≡ length before
    same_size =
        let none = fits [] (due number asked rest) refl in
        ap length s.put ∙ put-length before 0 s.done (omega (arith, rw (append-nil s.done) at none))

    pub put_next : (said behind : List ℕ) → due number asked rest ≡ said ++ behind → put_at buffer at said ≡ put_at before 0 (s.done ++ said)
    put_next said behind e =
        let none : 0 + length s.done ≡ length s.done = omega arith in
        rw (s.put, s.count) (rw none at (put-behind before 0 s.done said (omega (arith, fits said behind e))))

    pub room_next : (said behind : List ℕ) → due number asked rest ≡ said ++ behind → at + length said ≤ length buffer
    room_next said behind e = omega (arith, fits said behind e, same_size, s.count, length-append s.done said)

    abbrev behind : List ℕ
    behind = due (suc number) (asked || asks (up_to newline rest)) (after_first newline rest)

    pub line-room : at + length (line_remarks number (up_to newline rest)) ≤ length buffer
    line-room = room_next (line_remarks number (up_to newline rest)) behind (due-next number asked rest)

    pub saying-next :
        0 < length rest →
        Saying first text before (number + 1) (at + length (line_remarks number (up_to newline rest))) (asked || asks (up_to newline rest)) (after_first newline rest) (put_at buffer at (line_remarks number (up_to newline rest)))
    saying-next some =
        let said = line_remarks number (up_to newline rest) in
        record {
          done = s.done ++ said;
          whole =
              rw (add-one number)
              (append_assoc s.done said behind
              ∙ ap (λ (l : List ℕ). s.done ++ l) (sym (due-next number asked rest))
              ∙ s.whole);
          count = omega (arith, s.count, length-append s.done said);
          put = put_next said behind (due-next number asked rest);
          room = omega (arith, s.room, after_less rest some);
        }

    none_left : length rest ≡ 0 → due number asked rest ≡ last_remark asked
    none_left e = ap (due number asked) (empty rest e) ∙ due-none number asked

    pub saying-end : length rest ≡ 0 → asked ≡ true → (at ≡ length (remarks_of first text)) × (buffer ≡ put_at before 0 (remarks_of first text))
    unfolding last_remark
    saying-end e some =
        let all : s.done ≡ remarks_of first text = sym (append-nil s.done) ∙ ap (λ (l : List ℕ). s.done ++ l) (sym (none_left e ∙ ap last_remark some)) ∙ s.whole in
        (s.count ∙ ap length all, s.put ∙ ap (put_at before 0) all)

    -- nothing was asked
    last : length rest ≡ 0 → asked ≡ false → due number asked rest ≡ nothing_asked ++ []
    unfolding last_remark
    last e none = none_left e ∙ ap last_remark none ∙ sym (append-nil nothing_asked)

    pub last-room : length rest ≡ 0 → asked ≡ false → at + length nothing_asked ≤ length buffer
    last-room e none = room_next nothing_asked [] (last e none)

    pub saying-last : length rest ≡ 0 → asked ≡ false → (at + length nothing_asked ≡ length (remarks_of first text)) × (put_at buffer at nothing_asked ≡ put_at before 0 (remarks_of first text))
    saying-last e none =
        let all : s.done ++ nothing_asked ≡ remarks_of first text = ap (λ (l : List ℕ). s.done ++ l) (sym (last e none ∙ append-nil nothing_asked)) ∙ s.whole in
        (omega (arith, s.count, length-append s.done nothing_asked, ap length all), put_next nothing_asked [] (last e none) ∙ ap (put_at before 0) all)

-- The lines put one behind another: what was put and what the rest of the list will put are the whole, by the parts of
-- the text. Assumes nothing.
use mathlib.Core.Path.{◌≡◌, refl, ap, ap₂, sym, ◌∙◌}
use mathlib.Core.List.{List, [], ◌∷◌, ◌++◌, append_assoc, append-nil}
use Prim.Native.Nat.{ℕ, ◌+◌, ◌-◌, ◌≤◌}
use native.Mathlib.Omega.{arith}
use lib.ListN.{length, take, drop, length-append, length-take, length-drop, take-append-drop, drop_of_length-le}
use lib.Seq.{take_at, drop_at, drop-drop, take-length, length-take-le}
use borrow.Rule.Slice.PartMut.{put_mid}
use Rattle.std.specs.Prelude.{Ok, Err}
use Rattle.days.specs.Days.{last_day}
use Rattle.entries.specs.Entries.{capacity, entry_at, copied_count}
use Rattle.entries.specs.Listed.{listed_from, EachDay}
use Rattle.entries.proofs.Copying.{copied-with-room}
use Rattle.entries.proofs.Listed.{no-entry, due-some}
use Rattle.text.proofs.Lending.{lent-rest}
use Rattle.date_lines.specs.declared.Kind.{Kind}
use Rattle.date_lines.specs.declared.NotConverted.{NotConverted}
use Rattle.date_lines.specs.Lines.{line_of}
use Rattle.date_lines.specs.Texts.{text_of, with_front, text_answer, text_after}
use Rattle.date_lines.proofs.Measuring.{text-length, next-listed}

-- a line put at a byte, and the others behind it, are put together
join :
    (text line others after : List ℕ) (at : ℕ) →
    at + length line ≤ length text →
    after ≡ take at text ++ with_front line (drop at text) →
    take (at + length line) after ++ with_front others (drop (at + length line) after) ≡ take at text ++ with_front (line ++ others) (drop at text)
join text line others after at h e =
    let front : length (take at text ++ line) ≡ at + length line = length-append (take at text) line ∙ ap (λ (n : ℕ). n + length line) (length-take-le at text (omega arith)) in
    let cut : after ≡ (take at text ++ line) ++ drop (length line) (drop at text) = e ∙ sym (append_assoc (take at text) line (drop (length line) (drop at text))) in
    let before : take (at + length line) after ≡ take at text ++ line = ap (take (at + length line)) cut ∙ take_at (take at text ++ line) _ (at + length line) front in
    let behind : drop (at + length line) after ≡ drop (length line) (drop at text) = ap (drop (at + length line)) cut ∙ drop_at (take at text ++ line) _ (at + length line) front in
    let rest : drop (length others) (drop (length line) (drop at text)) ≡ drop (length (line ++ others)) (drop at text) =
    drop-drop (length others) (length line) (drop at text) ∙ ap (λ (n : ℕ). drop n (drop at text)) (sym (length-append line others)) in
    ap₂ (λ (a b : List ℕ). a ++ with_front others b) before behind
    ∙ append_assoc (take at text) line (others ++ drop (length others) (drop (length line) (drop at text)))
    ∙ ap (λ (l : List ℕ). take at text ++ l)
    (sym (append_assoc line others (drop (length others) (drop (length line) (drop at text)))) ∙ ap (λ (l : List ℕ). (line ++ others) ++ l) rest)

put-length : (text line after : List ℕ) (at : ℕ) → at + length line ≤ length text → after ≡ take at text ++ with_front line (drop at text) → length after ≡ length text
put-length text line after at h e = ap length e ∙ simp (length-append, length-take, length-drop) (omega arith)

-- a line that was made is copied into the text from a byte on
pub room_for : (text made line : List ℕ) (at : ℕ) → made ≡ line → at + length line ≤ length text → length made ≤ length (take (length text - at) (drop at text))
room_for text made line at e h = rw (lent-rest text at) (simp length-drop (omega (arith, ap length e)))

-- how many bytes of it are copied, and where they end
pub made-copied : (text made line : List ℕ) (at : ℕ) → made ≡ line → at + length line ≤ length text → copied_count made (take (length text - at) (drop at text)) ≡ length made
made-copied text made line at e h = copied-with-room _ _ (room_for text made line at e h)

pub made-within :
    (text made line : List ℕ) (at : ℕ) {n : ℕ} →
    made ≡ line →
    at + length line ≤ length text →
    n ≡ copied_count made (take (length text - at) (drop at text)) →
    at + n ≤ length text
made-within text made line at e h c = omega (arith, c ∙ made-copied text made line at e h, ap length e)

pub put-made :
    (text made line part : List ℕ) (at : ℕ) {n : ℕ} →
    made ≡ line →
    at + length line ≤ length text →
    n ≡ length made →
    part ≡ take (length made) made ++ drop (length made) (take (length text - at) (drop at text)) →
    (at + n ≡ at + length line) × (put_mid at (length text - at) text part ≡ take at text ++ with_front line (drop at text))
put-made text made line part at {n} e h c p =
    let nothing : drop (length text - at) (drop at text) ≡ [] = drop_of_length-le (drop at text) {i = length text - at} (simp length-drop (omega arith)) in
    let put : part ≡ with_front line (drop at text) = p ∙ rw (lent-rest text at, take-length made, e) in
    (omega (arith, ap length e), ap (λ (l : List ℕ). take at text ++ l) (ap (λ (l : List ℕ). part ++ l) nothing ∙ append-nil part ∙ put))

module _ (kind : Kind) (list before : List ℕ) where
  abbrev ahead : ℕ → List ℕ
  ahead index = text_of kind (listed_from list index)

  pub record Filled (text : List ℕ) (at index : ℕ) : Type 0 where
    pub same : length text ≡ length before
    pub few : index ≤ capacity list
    pub each : EachDay (listed_from list index)
    pub room : at + length (ahead index) ≤ length before
    pub whole : take at text ++ with_front (ahead index) (drop at text) ≡ with_front (ahead 0) before

  pub filled_none : EachDay (listed_from list 0) → length (ahead 0) ≤ length before → Filled before 0 0
  filled_none each h = record { same = refl; few = omega arith; each = each; room = omega arith; whole = refl }

  module _ (text : List ℕ) (at index : ℕ) (f : Filled text at index) where
    module _ {due : ℕ} (e : Ok due ≡ entry_at list index) where
      abbrev line : List ℕ
      line = line_of kind due

      next : listed_from list index ≡ due ∷ listed_from list (index + 1)
      next = next-listed list index e

      long : length (ahead index) ≡ length line + length (ahead (index + 1))
      long = ap (λ (ds : List ℕ). length (text_of kind ds)) next ∙ text-length kind due (listed_from list (index + 1))

      one : text_of kind (due ∷ listed_from list (index + 1)) ≡ line ++ ahead (index + 1)
      unfolding text_of
      one = refl

      split : EachDay (due ∷ listed_from list (index + 1)) → (due ≤ last_day) × EachDay (listed_from list (index + 1))
      unfolding EachDay
      split all = all

      both : (due ≤ last_day) × EachDay (listed_from list (index + 1))
      both = split (rw next at f.each)

      pub filled-day : (due ≤ last_day) × (at + length line ≤ length text)
      filled-day = (both.0, omega (arith, f.room, f.same, long))

      pub filled_more : (after : List ℕ) (end : ℕ) → end ≡ at + length line → after ≡ take at text ++ with_front line (drop at text) → Filled after end (index + 1)
      filled_more after end n a =
          let h = (due-some list index e).there in
          record {
            same = put-length text line after at filled-day.1 a ∙ f.same;
            few = omega arith;
            each = both.1;
            room = omega (arith, f.room, long);
            whole =
                ap (λ (i : ℕ). take i after ++ with_front (ahead (index + 1)) (drop i after)) n
                ∙ join text line (ahead (index + 1)) after at filled-day.1 a
                ∙ ap (λ (l : List ℕ). take at text ++ with_front l (drop at text)) (sym (ap (text_of kind) next ∙ one))
                ∙ f.whole;
          }

    pub filled-end : capacity list ≤ index → text ≡ with_front (ahead 0) before
    unfolding text_of
    filled-end h =
        sym (take-append-drop at text)
        ∙ ap (λ (ds : List ℕ). take at text ++ with_front (text_of kind ds) (drop at text)) (sym (no-entry list index h))
        ∙ f.whole

-- the answers of the whole, by the answer of measuring
module _ (kind : Kind) (list text : List ℕ) where
  pub not-put : {f : NotConverted} → Err f ≡ text_answer kind list text → text ≡ text_after kind list text
  unfolding text_after
  not-put e = rw (← e)

  pub put_whole : {n : ℕ} → Ok n ≡ text_answer kind list text → (after : List ℕ) → after ≡ with_front (text_of kind (listed_from list 0)) text → after ≡ text_after kind list text
  unfolding text_after
  put_whole e after a = rw (← e) a

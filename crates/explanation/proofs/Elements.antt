-- What is written by name: only the condition of an element, and all other answers are as by number. Its line is put
-- into a buffer in three parts, the names of the set one behind another, and has room there.
-- Assumes nothing.
use Prim.Native.Nat.{ℕ, zero, suc, ◌+◌, ◌-◌, ◌*◌, ◌≤◌, ◌<◌}
use mathlib.Core.Path.{◌≡◌, refl, ap, sym, ◌∙◌}
use mathlib.Core.Bool.{Bool, true, false, cond}
use mathlib.Core.List.{List, [], ◌++◌, append_assoc, append-nil}
use native.Mathlib.Omega.{arith}
use Rattle.std.specs.Prelude.{Option, None}
use borrow.Author.Tests.{eqb-true, le-leb}
use lib.Dec.{eqb}
use lib.ListN.{length, take, length-append, take-append-drop}
use Rattle.catalogue.specs.Catalogue.{edition_text}
use Rattle.catalogue.proofs.DayLines.{edition-short}
use Rattle.dated.specs.Dated.{day_bytes}
use Rattle.dated.proofs.Laws.{day-short}
use Rattle.days.specs.Days.{last_day}
use Rattle.names.specs.declared.Kind.{Kind}
use Rattle.names.specs.declared.Print.{Print}
use Rattle.names.specs.declared.Print.TheVariants.{Numbers as ByNumbers, Names as ByNames, Csv}
use Rattle.names.specs.Names.{name_of}
use Rattle.names.proofs.Columns.{name-fits, column-short}
use Rattle.query.specs.Conditions.{has_number}
use Rattle.reasons.specs.Conditions.{Wanted, nothing, bound, any_of, mean_arcs, true_arcs}
use Rattle.reasons.specs.Reasons.{Numbers, no_answer}
use Rattle.remarks.proofs.Putting.{put-behind, first-room, second-room, both-put}
use Rattle.text.specs.Ascii.{ascii}
use Rattle.text.specs.declared.Line.{Line}
use Rattle.text.specs.Lines.{contents, Holds, refusal_line}
use Rattle.text.proofs.Holding.{holds-length}
use Rattle.text.specs.Sheets.{fits_at, put_at}
use Rattle.text.proofs.Sheets.{put-length}
use Rattle.explanation.specs.Explanations.{element_in, elements_in, set_names, element_kind, kind_word, names_text, element_text, unfit, weekdays_text, verdict_of, answer_line, explanation_room}
use Rattle.explanation.specs.declared.Unmet.{Unmet}
use Rattle.explanation.specs.Elements.{unmet, element_asked, element_of, element_for, element_line, element_front, element_end}
use Rattle.explanation.proofs.Fitting.{word-short}

name-short : (kind : Kind) (n : ℕ) → length (name_of kind n) ≤ 19
name-short kind n = omega (arith, name-fits kind n, column-short kind)

-- ---- which answers are written alike
no_other : {kind : Kind} {edition asked found : ℕ} → unmet kind edition asked found ≡ None → ⊥
no_other e = let z : ◌≡◌ {A = ℕ} 0 1 = cc in omega arith

-- the parts of one that does not hold
unmet-parts :
    {kind kind' : Kind} {edition asked found edition' asked' found' : ℕ} →
    unmet kind edition asked found ≡ unmet kind' edition' asked' found' →
    (kind ≡ kind') × (edition ≡ edition') × (asked ≡ asked') × (found ≡ found')
unmet-parts {kind} {kind'} {edition} {asked} {found} {edition'} {asked'} {found'} e =
    let same : ◌≡◌ {A = Unmet} (record { kind = kind; edition = edition; asked = asked; found = found }) (record { kind = kind'; edition = edition'; asked = asked'; found = found' }) = cc in
    (ap (λ (u : Unmet). u.kind) same, ap (λ (u : Unmet). u.edition) same, ap (λ (u : Unmet). u.asked) same, ap (λ (u : Unmet). u.found) same)

verdict-alike : (edition : ℕ) (w : Wanted) (k found : ℕ) → element_asked edition w k found ≡ None → verdict_of ByNames w k found ≡ verdict_of ByNumbers w k found
unfolding element_asked verdict_of
verdict-alike edition nothing k found e = refl
verdict-alike edition (bound day) k found e = refl
verdict-alike edition (any_of set) k found e = go (eqb k 3) e
  where
    go : (b : Bool) → cond b None (unmet (element_kind k) edition set found) ≡ None → unfit (cond b (weekdays_text set found) (element_text ByNames k set found)) ≡ unfit (cond b (weekdays_text set found) (element_text ByNumbers k set found))
    go true h = refl
    go false h = absurd (no_other h)
verdict-alike edition (mean_arcs arcs) k found e = refl
verdict-alike edition (true_arcs arcs) k found e = refl

-- a comma-separated table changes nothing
verdict-csv : (w : Wanted) (k found : ℕ) → verdict_of Csv w k found ≡ verdict_of ByNumbers w k found
unfolding verdict_of element_text
verdict-csv nothing k found = refl
verdict-csv (bound day) k found = refl
verdict-csv (any_of set) k found = refl
verdict-csv (mean_arcs arcs) k found = refl
verdict-csv (true_arcs arcs) k found = refl

pub csv-alike : (n : ℕ) (w : Numbers) → answer_line Csv n w ≡ answer_line ByNumbers n w
unfolding answer_line
csv-alike n w = rw (verdict-csv w.cause.asked w.cause.condition w.cause.found)

-- an answer that is no element's
module _ (n : ℕ) (w : Numbers) where
  abbrev line : List ℕ → List ℕ
  line verdict = day_bytes n ++ (verdict ++ (edition_text w.edition ++ ascii "\n"))

  abbrev verdict : Print → List ℕ
  verdict form = verdict_of form w.cause.asked w.cause.condition w.cause.found

  pub other-alike : element_for w ≡ None → answer_line ByNames n w ≡ answer_line ByNumbers n w
  unfolding element_for answer_line
  other-alike e = go (eqb w.refusal 0) e
    where
      go : (b : Bool) → cond b (element_of w.edition w.cause) None ≡ None → cond b (line (verdict ByNames)) (refusal_line w.refusal) ≡ cond b (line (verdict ByNumbers)) (refusal_line w.refusal)
      go true h = ap line (verdict-alike w.edition w.cause.asked w.cause.condition w.cause.found h)
      go false h = refl

  -- a refused one is none
  pub refused-other : {refusal : ℕ} → no_answer refusal ≡ w → None ≡ element_for w
  unfolding element_for element_asked
  refused-other {refusal} e = rw (sym e) (go (eqb refusal 0))
    where
      go : (b : Bool) → ◌≡◌ {A = Option Unmet} None (cond b None None)
      go true = refl
      go false = refl

  -- and one that is
  module _ {kind : Kind} {edition asked found : ℕ} where
    element-said : (wanted : Wanted) (k number : ℕ) → element_asked w.edition wanted k number ≡ unmet kind edition asked found → line (verdict_of ByNames wanted k number) ≡ element_line kind edition asked found n
    unfolding element_asked verdict_of element_text element_line
    element-said nothing k number e = absurd (no_other (sym e))
    element-said (bound day) k number e = absurd (no_other (sym e))
    element-said (any_of set) k number e = go (eqb k 3) e
      where
        go : (b : Bool) → cond b None (unmet (element_kind k) w.edition set number) ≡ unmet kind edition asked found → line (unfit (cond b (weekdays_text set number) (names_text (element_kind k) set number))) ≡ day_bytes n ++ (unfit (names_text kind asked found) ++ (edition_text edition ++ ascii "\n"))
        go true h = absurd (no_other (sym h))
        go false h = let s = unmet-parts h in cc (s.0, s.1, s.2, s.3)
    element-said (mean_arcs arcs) k number e = absurd (no_other (sym e))
    element-said (true_arcs arcs) k number e = absurd (no_other (sym e))

    pub unmet-said : element_for w ≡ unmet kind edition asked found → (w.refusal ≡ 0) × (answer_line ByNames n w ≡ element_line kind edition asked found n)
    unfolding element_for answer_line
    unmet-said e = go (eqb w.refusal 0) refl e
      where
        go : (b : Bool) → eqb w.refusal 0 ≡ b → cond b (element_of w.edition w.cause) None ≡ unmet kind edition asked found → (w.refusal ≡ 0) × (cond b (line (verdict ByNames)) (refusal_line w.refusal) ≡ element_line kind edition asked found n)
        go true t h = (eqb-true _ _ t, element-said w.cause.asked w.cause.condition w.cause.found h)
        go false t h = absurd (no_other (sym h))

-- ---- the line by its parts
pub held-length : {l : Line} {bs : List ℕ} → Holds l bs → l.len ≡ length (contents l)
held-length h = holds-length h ∙ sym (ap length h.whole)

pub element-parts : (kind : Kind) (edition asked found n : ℕ) → element_line kind edition asked found n ≡ element_front kind n ++ (set_names kind asked ++ element_end kind edition found)
unfolding element_line names_text element_front element_end
element-parts kind edition asked found n = parts (day_bytes n) (kind_word kind) (set_names kind asked) (name_of kind found) (edition_text edition)
  where
    parts :
        (day word names name edition : List ℕ) →
        day ++ (unfit (word ++ (ascii " asked" ++ (names ++ (ascii " found " ++ name)))) ++ (edition ++ ascii "\n"))
        ≡ (day ++ (ascii " does not fit: " ++ (word ++ ascii " asked"))) ++ (names ++ (ascii " found " ++ (name ++ (edition ++ ascii "\n"))))
    parts day word names name edition = simp append_assoc

pub front-short : (kind : Kind) (n : ℕ) → n ≤ last_day → length (element_front kind n) ≤ 49
unfolding element_front
front-short kind n h = simp length-append (omega (arith, day-short n h, word-short kind))

pub end_short : (kind : Kind) (edition found : ℕ) → length (element_end kind edition found) ≤ 37
unfolding element_end
end_short kind edition found = simp length-append (omega (arith, name-short kind found, edition-short edition))

pub one-short : (kind : Kind) (set n : ℕ) → length (element_in kind set n) ≤ 20
unfolding element_in
one-short kind set n = go (has_number set n)
  where
    go : (b : Bool) → length (cond b (ascii " " ++ name_of kind n) []) ≤ 20
    go true = omega (arith, name-short kind n)
    go false = omega arith

some-short : (kind : Kind) (set k n : ℕ) → length (elements_in kind set k n) ≤ 20 * n
unfolding elements_in
some-short kind set k zero = omega arith
some-short kind set k (suc n) = simp length-append (omega (arith, one-short kind set k, some-short kind set (k + 1) n))

pub element-room : (kind : Kind) (edition asked found n : ℕ) → n ≤ last_day → length (element_line kind edition asked found n) ≤ explanation_room
element-room kind edition asked found n h =
    rw (element-parts kind edition asked found n)
    (simp length-append (omega (arith, front-short kind n h, some-short kind asked 0 30, end_short kind edition found)))

pub counted-room : (kind : Kind) (edition asked found n r : ℕ) → n ≤ last_day → r ≡ length (element_line kind edition asked found n) → r ≤ explanation_room
counted-room kind edition asked found n r h e = omega (arith, element-room kind edition asked found n h)

-- ---- the names of a set, put one behind another: before that of number n, those from it on are left
put-nothing : (b : List ℕ) (at : ℕ) → at ≤ length b → put_at b at [] ≡ b
unfolding put_at fits_at
put-nothing b at h =
    let all : at + 0 ≡ at = omega arith in
    rw (all, le-leb at (length b) h, append-nil (take at b)) (take-append-drop at b)

module _ (kind : Kind) (set : ℕ) where
  abbrev rest : ℕ → List ℕ
  rest n = elements_in kind set n (30 - n)

  rest_more : (n : ℕ) → n < 30 → rest n ≡ element_in kind set n ++ rest (n + 1)
  unfolding elements_in
  rest_more n h = let one : 30 - n ≡ suc (30 - (n + 1)) = omega arith in rw one

  pub record Naming (before : List ℕ) (from : ℕ) (buffer : List ℕ) (at n : ℕ) : Type 0 where
    pub few : n ≤ 30
    pub size : length buffer ≡ length before
    pub room : at + length (rest n) ≡ from + length (set_names kind set)
    pub put : put_at buffer at (rest n) ≡ put_at before from (set_names kind set)

  module _ (before : List ℕ) (from : ℕ) (fits : from + length (set_names kind set) ≤ length before) where
    pub naming-start : Naming before from before from 0
    naming-start = record { few = omega arith; size = refl; room = refl; put = refl }

    module _ (buffer : List ℕ) (at n : ℕ) (left : Naming before from buffer at n) where
      pub one-room : n < 30 → at + length (element_in kind set n) ≤ length buffer
      one-room h = omega (arith, left.size, left.room, ap length (rest_more n h), length-append (element_in kind set n) (rest (n + 1)))

      pub naming-next :
          (after : List ℕ) (next : ℕ) →
          n < 30 →
          next ≡ at + length (element_in kind set n) →
          after ≡ put_at buffer at (element_in kind set n) →
          Naming before from after next (n + 1)
      naming-next after next h en ea =
          let more = ap length (rest_more n h) ∙ length-append (element_in kind set n) (rest (n + 1)) in
          record {
            few = omega arith;
            size = ap length ea ∙ put-length buffer at (element_in kind set n) (one-room h) ∙ left.size;
            room = omega (arith, left.room);
            put =
                rw (ea, en) (put-behind buffer at (element_in kind set n) (rest (n + 1)) (omega (arith, left.size, left.room, ap length (rest_more n h))))
                ∙ ap (put_at buffer at) (sym (rest_more n h))
                ∙ left.put;
          }

      pub naming-end : 30 ≤ n → (at ≡ from + length (set_names kind set)) × (buffer ≡ put_at before from (set_names kind set))
      unfolding elements_in
      naming-end h =
          let last : n ≡ 30 = omega (arith, left.few) in
          let none : rest n ≡ [] = rw last in
          (omega (arith, left.room, ap length none), sym (put-nothing buffer at (omega (arith, left.size, left.room))) ∙ ap (put_at buffer at) (sym none) ∙ left.put)

-- ---- the three parts of a line, put one behind another
module _ (kind : Kind) (edition asked found n : ℕ) (before : List ℕ) (h : n ≤ last_day) (room : explanation_room ≤ length before) (front : Line) (hf : Holds front (element_front kind n)) where
  abbrev all : List ℕ
  all = element_line kind edition asked found n

  abbrev behind : List ℕ
  behind = set_names kind asked ++ element_end kind edition found

  all_room : 0 + length all ≤ length before
  all_room = omega (arith, element-room kind edition asked found n h)

  pub front-room : 0 + length (contents front) ≤ length before
  front-room = rw hf.whole (first-room all (element_front kind n) behind (element-parts kind edition asked found n) before 0 all_room)

  module _ (next : ℕ) (after : List ℕ) (en : next ≡ 0 + length (contents front)) (ea : after ≡ put_at before 0 (contents front)) where
    behind-room : next + length behind ≤ length after
    behind-room =
        second-room all (element_front kind n) behind (element-parts kind edition asked found n) before 0 all_room next after (rw hf.whole at en) (rw hf.whole at ea)

    pub names-room : next + length (set_names kind asked) ≤ length after
    names-room = first-room behind (set_names kind asked) (element_end kind edition found) refl after next behind-room

    module _ (end : ℕ) (then : List ℕ) (ee : end ≡ next + length (set_names kind asked)) (et : then ≡ put_at after next (set_names kind asked)) (tail : Line) (ht : Holds tail (element_end kind edition found)) where
      pub tail-room : end + length (contents tail) ≤ length then
      tail-room = rw ht.whole (second-room behind (set_names kind asked) (element_end kind edition found) refl after next behind-room end then ee et)

      pub line-put : (last : ℕ) (final : List ℕ) → last ≡ end + length (contents tail) → final ≡ put_at then end (contents tail) → (last ≡ length all) × (final ≡ put_at before 0 all)
      line-put last final el ef =
          let two = both-put behind (set_names kind asked) (element_end kind edition found) refl after next behind-room end then ee et last final (rw ht.whole at el) (rw ht.whole at ef) in
          let three = both-put all (element_front kind n) behind (element-parts kind edition asked found n) before 0 all_room next after (rw hf.whole at en) (rw hf.whole at ea) last final two.0 two.1 in
          (omega (arith, three.0), three.1)

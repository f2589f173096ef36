-- The loop of `lines`: what was put so far and what the rest of the list will put are the whole piece, by induction on
-- the days due; where nothing more is put, the piece is the answer, or its refusal where it is empty. Assumes nothing.
use mathlib.Core.Path.{◌≡◌, refl, ap, ap₂, sym, ◌∙◌}
use mathlib.Core.Bool.{Bool, true, false, cond}
use mathlib.Core.List.{List, [], ◌∷◌, ◌++◌, append_assoc}
use Prim.Native.Nat.{ℕ, ◌+◌, ◌-◌, ◌≤◌, ◌<◌}
use native.Mathlib.Decide.{dec_le}
use native.Mathlib.Omega.{arith}
use borrow.Author.Tests.{lt-ltb, le-ltb}
use lib.Dec.{ltb}
use lib.ListN.{length, take, drop, length-append, take-append-drop}
use lib.Seq.{paste, length-paste, take-paste, drop-paste, drop-drop}
use Rattle.std.specs.Prelude.{Result, Ok, Err}
use Rattle.days.specs.Days.{last_day}
use Rattle.entries.specs.Listed.{listed_from}
use Rattle.days.specs.declared.refusal.Refusal.{Refusal}
use Rattle.entries.specs.Entries.{entry_at}
use Rattle.entries.proofs.Listed.{Due, due-none}
use Rattle.names.specs.declared.Print.{Print}
use Rattle.text.specs.declared.Line.{Line}
use Rattle.text.specs.Lines.{contents, Holds}
use Rattle.text.proofs.Holding.{holds-within, holds-length}
use Rattle.catalogue.specs.declared.Piece.{Piece}
use Rattle.entries.specs.declared.NotPut.{NotPut}
use Rattle.entries.specs.declared.NotPut.TheVariants.{Refused, TooShort}
use Rattle.days.specs.declared.refusal.Refusal.TheVariants.{OutOfRange}
use Rattle.catalogue.specs.Catalogue.{day_line}
use Rattle.catalogue.specs.Pieces.{day_lines, printed_days, with_front, the_piece, put_piece, piece_of, lines_piece, lines_after}
use Rattle.catalogue.proofs.Pieces.{no_lines, fits, no-day, no_room, printed-none, printed-more, printed-end, piece-none, piece-no-day, piece-no-room, piece-put}

same : (answer : Result Piece NotPut) (b : Bool) → cond b answer answer ≡ answer
same answer true = refl
same answer false = refl

-- an entry that is not read is none
pub no-more : (list : List ℕ) (k : ℕ) (due : Result ℕ Refusal) → due ≡ entry_at list k → ((d : ℕ) → due ≡ Ok d → ⊥) → listed_from list k ≡ []
no-more list k (Ok d) e none = absurd (none d refl)
no-more list k (Err r) e none = due-none list k e

-- bytes put behind those that were put are put with them
join :
    (buffer one other : List ℕ) (at : ℕ) →
    (take at buffer ++ one) ++ with_front other (drop (at + length one) buffer) ≡ take at buffer ++ with_front (one ++ other) (drop at buffer)
join buffer one other at =
    let sum : at + length one + length other ≡ at + length (one ++ other) = omega (arith, length-append one other) in
    let behind : drop (length other) (drop (at + length one) buffer) ≡ drop (length (one ++ other)) (drop at buffer) =
    drop-drop (length other) (at + length one) buffer
    ∙ ap (λ (n : ℕ). drop n buffer) sum
    ∙ sym (drop-drop (length (one ++ other)) at buffer) in
    append_assoc (take at buffer) one (with_front other (drop (at + length one) buffer))
    ∙ ap (λ (l : List ℕ). take at buffer ++ l)
    (sym (append_assoc one other (drop (length other) (drop (at + length one) buffer))) ∙ ap (λ (l : List ℕ). (one ++ other) ++ l) behind)

module _ (form : Print) (ed : ℕ) (list : List ℕ) (from : ℕ) (before : List ℕ) where
  -- the days that the whole piece prints, and those that are printed from a piece on
  abbrev all : List ℕ
  all = printed_days form ed (length before) (listed_from list from)

  abbrev rest : Piece → List ℕ
  rest piece = printed_days form ed (length before - piece.bytes) (listed_from list piece.next)

  pub record Filling (buffer : List ℕ) (piece : Piece) : Type 0 where
    pub same : length buffer ≡ length before
    pub within : piece.bytes ≤ length before
    pub count : piece.next + length (rest piece) ≡ from + length all
    pub long : piece.bytes + length (day_lines form ed (rest piece)) ≡ length (day_lines form ed all)
    pub whole : take piece.bytes buffer ++ with_front (day_lines form ed (rest piece)) (drop piece.bytes buffer) ≡ lines_after form ed list from before

  pub filling-start : (piece : Piece) → piece ≡ the_piece 0 from → Filling before piece
  filling-start piece e =
      let start : rest (the_piece 0 from) ≡ all = ap (λ (n : ℕ). printed_days form ed n (listed_from list from)) (omega arith) in
      rw e
      (record {
        same = refl;
        within = omega arith;
        count = ap (λ (ds : List ℕ). from + length ds) start;
        long = omega (arith, ap (λ (ds : List ℕ). length (day_lines form ed ds)) start);
        whole = ap (λ (ds : List ℕ). with_front (day_lines form ed ds) before) start;
      })

  -- the line due is put
  pub filling_step :
      (buffer : List ℕ) (piece : Piece) (due : ℕ) (line : Line) (after : List ℕ) →
      Filling buffer piece →
      Due list piece.next due →
      due ≤ last_day →
      Holds line (day_line form ed due) →
      line.len ≤ length before - piece.bytes →
      after ≡ paste buffer piece.bytes line.bytes line.len →
      Filling after (the_piece (piece.bytes + line.len) (piece.next + 1))
  filling_step buffer piece due line after f d h holds room e =
      record {
        same = ap length e ∙ length-paste buffer piece.bytes line.bytes line.len (omega (arith, f.same)) (holds-within holds) ∙ f.same;
        within = omega (arith, f.within);
        count = omega (arith, f.count, ap length more);
        long = omega (arith, f.long, ap length longer, length-append (day_line form ed due) (day_lines form ed (rest next)), size);
        whole = ap₂ (λ (a b : List ℕ). a ++ with_front (day_lines form ed (rest next)) b) front back ∙ joined ∙ f.whole;
      }
    where
      size : line.len ≡ length (day_line form ed due)
      size = holds-length holds

      next : Piece
      next = the_piece (piece.bytes + line.len) (piece.next + 1)

      -- one day more is printed
      more : rest piece ≡ due ∷ rest next
      more =
          ap (printed_days form ed (length before - piece.bytes)) d.listed
          ∙ printed-more form ed (length before - piece.bytes) due (listed_from list (piece.next + 1)) (fits form ed _ _ h (omega (arith, size, room)))
          ∙ ap (λ (n : ℕ). due ∷ printed_days form ed n (listed_from list (piece.next + 1))) (omega (arith, size, f.within))

      longer : day_lines form ed (rest piece) ≡ day_line form ed due ++ day_lines form ed (rest next)
      longer = ap (day_lines form ed) more ∙ (unfold day_lines in refl)

      front : take (piece.bytes + line.len) after ≡ take piece.bytes buffer ++ day_line form ed due
      front =
          ap (take (piece.bytes + line.len)) e
          ∙ take-paste buffer piece.bytes line.bytes line.len (omega (arith, f.same, f.within)) (holds-within holds)
          ∙ ap (λ (l : List ℕ). take piece.bytes buffer ++ l) (unfold contents in holds.whole)

      back : drop (piece.bytes + line.len) after ≡ drop (piece.bytes + length (day_line form ed due)) buffer
      back =
          ap (drop (piece.bytes + line.len)) e
          ∙ drop-paste buffer piece.bytes line.bytes line.len (omega (arith, f.same, f.within)) (holds-within holds)
          ∙ ap (λ (n : ℕ). drop (piece.bytes + n) buffer) size

      joined :
          (take piece.bytes buffer ++ day_line form ed due) ++ with_front (day_lines form ed (rest next)) (drop (piece.bytes + length (day_line form ed due)) buffer)
          ≡ take piece.bytes buffer ++ with_front (day_lines form ed (rest piece)) (drop piece.bytes buffer)
      joined =
          join buffer (day_line form ed due) (day_lines form ed (rest next)) piece.bytes
          ∙ ap (λ (l : List ℕ). take piece.bytes buffer ++ with_front l (drop piece.bytes buffer)) (sym longer)

  -- where nothing more is put, the buffer is as promised, and the piece is the answer unless it is empty
  module _ (buffer : List ℕ) (piece : Piece) (f : Filling buffer piece) (none : rest piece ≡ []) where
    pub filled-buffer : buffer ≡ lines_after form ed list from before
    unfolding day_lines
    filled-buffer =
        sym (take-append-drop piece.bytes buffer)
        ∙ ap (λ (ds : List ℕ). take piece.bytes buffer ++ with_front (day_lines form ed ds) (drop piece.bytes buffer)) (sym none)
        ∙ f.whole

    all-bytes : piece.bytes ≡ length (day_lines form ed all)
    unfolding day_lines
    all-bytes = omega (arith, f.long, ap (λ (ds : List ℕ). length (day_lines form ed ds)) none)

    filled : Ok piece ≡ put_piece form ed from all
    filled =
        let next : piece.next ≡ from + length all = omega (arith, f.count, ap length none) in
        ap₂ (λ (b n : ℕ). Ok (the_piece b n)) all-bytes next

    -- an empty piece has no byte
    empty : piece.next ≡ from → piece.bytes ≡ 0
    empty e = all-bytes ∙ no_lines form ed all (omega (arith, f.count, ap length none))

    answered :
        (refused : Result Piece NotPut) →
        (piece.next ≡ from → lines_piece form ed list from (length before) ≡ refused) →
        cond (ltb from piece.next) (Ok piece) refused ≡ lines_piece form ed list from (length before)
    answered refused why = go (dec_le piece.next from)
      where
        go : Dec (piece.next ≤ from) → cond (ltb from piece.next) (Ok piece) refused ≡ lines_piece form ed list from (length before)
        go (yes h) = rw (le-ltb from piece.next h) (sym (why (omega (arith, f.count, ap length none))))
        go (no h) =
            rw (lt-ltb from piece.next (omega arith))
            (filled ∙ sym (piece-put form ed (length before) from (listed_from list from) (omega (arith, f.count, ap length none))))

  -- the three ends: the list has no more entries, the entry due is no day, its line does not fit
  module _ (buffer : List ℕ) (piece : Piece) (f : Filling buffer piece) where
    pub ended-list : listed_from list piece.next ≡ [] → (Ok piece ≡ lines_piece form ed list from (length before)) × (buffer ≡ lines_after form ed list from before)
    ended-list e =
        (sym (same (Ok piece) (ltb from piece.next)) ∙ answered buffer piece f none (Ok piece) (λ n. why n), filled-buffer buffer piece f none)
      where
        none : rest piece ≡ []
        none = ap (printed_days form ed (length before - piece.bytes)) e ∙ printed-none form ed (length before - piece.bytes)

        why : piece.next ≡ from → lines_piece form ed list from (length before) ≡ Ok piece
        why n =
            ap (piece_of form ed (length before) from) (ap (listed_from list) (sym n) ∙ e)
            ∙ piece-none form ed (length before) from
            ∙ ap₂ (λ (b n : ℕ). Ok (the_piece b n)) (sym (empty buffer piece f none n)) (sym n)

    module _ (due : ℕ) (d : Due list piece.next due) where
      first : piece.next ≡ from → listed_from list from ≡ due ∷ listed_from list (piece.next + 1)
      first n = ap (listed_from list) (sym n) ∙ d.listed

      pub ended-no-day :
          last_day < due →
          (cond (ltb from piece.next) (Ok piece) (Err (Refused OutOfRange)) ≡ lines_piece form ed list from (length before)) × (buffer ≡ lines_after form ed list from before)
      ended-no-day h = (answered buffer piece f none (Err (Refused OutOfRange)) (λ n. why n), filled-buffer buffer piece f none)
        where
          none : rest piece ≡ []
          none = ap (printed_days form ed (length before - piece.bytes)) d.listed ∙ printed-end form ed _ _ _ (no-day form ed _ _ h)

          why : piece.next ≡ from → lines_piece form ed list from (length before) ≡ Err (Refused OutOfRange)
          why n = ap (piece_of form ed (length before) from) (first n) ∙ piece-no-day form ed _ _ _ _ h

      pub ended-no-room :
          (line : Line) →
          Holds line (day_line form ed due) →
          due ≤ last_day →
          length before - piece.bytes < line.len →
          (cond (ltb from piece.next) (Ok piece) (Err (TooShort line.len)) ≡ lines_piece form ed list from (length before)) × (buffer ≡ lines_after form ed list from before)
      ended-no-room line holds h room = (answered buffer piece f none (Err (TooShort line.len)) (λ n. why n), filled-buffer buffer piece f none)
        where
          size : line.len ≡ length (day_line form ed due)
          size = holds-length holds

          none : rest piece ≡ []
          none = ap (printed_days form ed (length before - piece.bytes)) d.listed ∙ printed-end form ed _ _ _ (no_room form ed _ _ h (omega (arith, size)))

          why : piece.next ≡ from → lines_piece form ed list from (length before) ≡ Err (TooShort line.len)
          why n =
              ap (piece_of form ed (length before) from) (first n)
              ∙ piece-no-room form ed _ _ _ _ h (omega (arith, size, empty buffer piece f none n))
              ∙ ap (λ (n : ℕ). Err (TooShort n)) (sym size)

-- Pieces put together: a piece is the front of the lines that are due, and the lines from the entry handed back on are
-- the rest; so calls that go on until none is left put the line of each day, in order, each once. By induction on the
-- days.
-- Assumes nothing.
use mathlib.Core.Path.{◌≡◌, refl, ap}
use mathlib.Core.Bool.{Bool, true, false, and-eq-true_iff}
use mathlib.Core.List.{List, [], ◌∷◌}
use Prim.Native.Nat.{ℕ, ◌-◌, ◌≤◌, ◌<◌}
use native.Mathlib.Omega.{arith}
use borrow.Author.Tests.{le-leb, lt-leb, leb-true}
use lib.Dec.{leb}
use lib.ListN.{length}
use Rattle.std.specs.Prelude.{Result, Ok, Err}
use Rattle.days.specs.Days.{last_day}
use Rattle.names.specs.declared.Print.{Print}
use Rattle.panchanga.specs.TrueLongitudes.{is_edition}
use Rattle.catalogue.specs.declared.Piece.{Piece}
use Rattle.entries.specs.declared.NotPut.{NotPut}
use Rattle.entries.specs.declared.NotPut.TheVariants.{Refused, TooShort}
use Rattle.days.specs.declared.refusal.Refusal.TheVariants.{OutOfRange}
use Rattle.catalogue.specs.Catalogue.{catalogue_heading, day_line}
use Rattle.entries.specs.Listed.{listed_from}
use Rattle.catalogue.specs.Pieces.{day_lines, line_fits, printed_days, with_front, the_piece, piece_number, put_piece, piece_of, lines_piece, lines_after, heading_piece, heading_after, of_edition, left_in_edition}

module _ (form : Print) (ed : ℕ) where
  abbrev line_length : ℕ → ℕ
  line_length d = length (day_line form ed d)

  -- lines of days
  pub no_lines : (ds : List ℕ) → length ds ≡ 0 → length (day_lines form ed ds) ≡ 0
  unfolding day_lines
  no_lines [] h = refl
  no_lines (d ∷ ds) h = absurd (omega arith)

  pub fits : (room d : ℕ) → d ≤ last_day → line_length d ≤ room → line_fits form ed room d ≡ true
  unfolding line_fits
  fits room d h k = rw (le-leb d last_day h, le-leb (line_length d) room k)

  pub fitting : (room d : ℕ) → line_fits form ed room d ≡ true → line_length d ≤ room
  unfolding line_fits
  fitting room d e = leb-true _ _ ((and-eq-true_iff (leb d last_day) (leb (line_length d) room)).0 e).1

  pub no-day : (room d : ℕ) → last_day < d → line_fits form ed room d ≡ false
  unfolding line_fits
  no-day room d h = rw (lt-leb d last_day h)

  pub no_room : (room d : ℕ) → d ≤ last_day → room < line_length d → line_fits form ed room d ≡ false
  unfolding line_fits
  no_room room d h k = rw (le-leb d last_day h, lt-leb (line_length d) room k)

  pub printed-none : (room : ℕ) → printed_days form ed room [] ≡ []
  unfolding printed_days
  printed-none room = refl

  pub printed-more : (room d : ℕ) (ds : List ℕ) → line_fits form ed room d ≡ true → printed_days form ed room (d ∷ ds) ≡ d ∷ printed_days form ed (room - line_length d) ds
  unfolding printed_days
  printed-more room d ds e = rw (e, printed_days)

  pub printed-end : (room d : ℕ) (ds : List ℕ) → line_fits form ed room d ≡ false → printed_days form ed room (d ∷ ds) ≡ []
  unfolding printed_days
  printed-end room d ds e = rw (e, printed_days)

  -- piece_of, case by case
  pub piece-none : (room k : ℕ) → piece_of form ed room k [] ≡ Ok (the_piece 0 k)
  unfolding piece_of
  piece-none room k = refl

  pub piece-no-day : (room k d : ℕ) (ds : List ℕ) → last_day < d → piece_of form ed room k (d ∷ ds) ≡ Err (Refused OutOfRange)
  unfolding piece_of
  piece-no-day room k d ds h = rw (lt-leb d last_day h)

  pub piece-no-room : (room k d : ℕ) (ds : List ℕ) → d ≤ last_day → room < line_length d → piece_of form ed room k (d ∷ ds) ≡ Err (TooShort (line_length d))
  unfolding piece_of
  piece-no-room room k d ds h n = rw (le-leb d last_day h, lt-leb (line_length d) room n)

  pub piece-some : (room k d : ℕ) (ds : List ℕ) → line_fits form ed room d ≡ true → piece_of form ed room k (d ∷ ds) ≡ put_piece form ed k (printed_days form ed room (d ∷ ds))
  unfolding line_fits piece_of
  piece-some room k d ds e = let both = (and-eq-true_iff (leb d last_day) (leb (line_length d) room)).0 e in rw (both.0, both.1)

  -- where a day is printed there is no refusal
  pub piece-put : (room k : ℕ) (ds : List ℕ) → 0 < length (printed_days form ed room ds) → piece_of form ed room k ds ≡ put_piece form ed k (printed_days form ed room ds)
  piece-put room k [] h = unfold printed_days piece_of in absurd (omega arith)
  piece-put room k (d ∷ ds) h = go (line_fits form ed room d) refl
    where
      go : (b : Bool) → line_fits form ed room d ≡ b → piece_of form ed room k (d ∷ ds) ≡ put_piece form ed k (printed_days form ed room (d ∷ ds))
      go true e = piece-some room k d ds e
      go false e = absurd (omega (arith, ap length (printed-end room d ds e)))

  -- by a refusal the buffer is as it was
  pub refused-kept : (list : List ℕ) (k : ℕ) (before : List ℕ) → (piece_number (lines_piece form ed list k (length before)) ≡ 0 → ⊥) → lines_after form ed list k before ≡ before
  unfolding day_lines
  refused-kept list k before refused = go (listed_from list k) refused
    where
      none : (ds : List ℕ) → printed_days form ed (length before) ds ≡ [] → with_front (day_lines form ed (printed_days form ed (length before) ds)) before ≡ before
      none ds e = rw e

      go : (ds : List ℕ) → (piece_number (piece_of form ed (length before) k ds) ≡ 0 → ⊥) → with_front (day_lines form ed (printed_days form ed (length before) ds)) before ≡ before
      go [] r = none [] (printed-none (length before))
      go (d ∷ ds) r = fit (line_fits form ed (length before) d) refl
        where
          fit : (b : Bool) → line_fits form ed (length before) d ≡ b → with_front (day_lines form ed (printed_days form ed (length before) (d ∷ ds))) before ≡ before
          fit true e = absurd (r (ap piece_number (piece-some (length before) k d ds e)))
          fit false e = none (d ∷ ds) (printed-end (length before) d ds e)

  -- the heading, put whole or refused
  module _ (found examined : ℕ) (before : List ℕ) where
    pub record Headed (piece : Result Piece NotPut) (after : List ℕ) : Type 0 where
      pub answer : heading_piece form ed found examined (length before) ≡ piece
      pub put : heading_after form ed found examined before ≡ after

    pub heading-put : length (catalogue_heading form ed found examined) ≤ length before → Headed (Ok (the_piece (length (catalogue_heading form ed found examined)) 0)) (with_front (catalogue_heading form ed found examined) before)
    unfolding heading_piece heading_after
    heading-put h = let fits = le-leb (length (catalogue_heading form ed found examined)) (length before) h in record { answer = rw fits; put = rw fits }

    pub heading-refused : length before < length (catalogue_heading form ed found examined) → Headed (Err (TooShort (length (catalogue_heading form ed found examined)))) before
    unfolding heading_piece heading_after
    heading-refused h = let long = lt-leb (length (catalogue_heading form ed found examined)) (length before) h in record { answer = rw long; put = rw long }

-- what a call hands back and leaves, where the number is an edition's
module _ (ed : ℕ) (t : is_edition ed ≡ true) where
  pub piece-given : (piece : Result Piece NotPut) → of_edition ed piece ≡ piece
  piece-given piece = rw t

  pub buffer-given : (before after : List ℕ) → left_in_edition ed before after ≡ after
  buffer-given before after = rw t

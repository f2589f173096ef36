-- THE LAW of the pieces: calls that go on from the entry handed back until none is left put the line of each listed
-- day, in order, each once, whatever the buffers are in which each line fits. A piece is the front of the lines that
-- are due, and the lines from the entry handed back on are the rest; by induction on the calls. Assumes nothing.
use mathlib.Core.Path.{◌≡◌, refl, ap, ap₂, sym, subst, ◌∙◌}
use mathlib.Core.Bool.{Bool, true, false}
use mathlib.Core.List.{List, [], ◌∷◌, ◌++◌, append_assoc}
use Prim.Native.Nat.{ℕ, zero, suc, ◌+◌, ◌-◌, ◌≤◌, ◌<◌}
use native.Mathlib.Decide.{dec_le}
use native.Mathlib.Omega.{arith}
use lib.ListN.{length, take, drop, length-append}
use lib.Seq.{take-append_seam}
use Rattle.entries.specs.Entries.{capacity, entry_at}
use Rattle.entries.specs.Listed.{entry_days, listed_from, EachDay}
use Rattle.entries.proofs.Listed.{no-days, more-days, days-length}
use Rattle.names.specs.declared.Print.{Print}
use Rattle.panchanga.specs.TrueLongitudes.{is_edition}
use Rattle.text.specs.Lines.{line_capacity}
use Rattle.std.specs.Prelude.{Result, Ok}
use Rattle.days.specs.Refusals.{number_or_zero}
use Rattle.catalogue.specs.declared.Piece.{Piece}
use Rattle.entries.specs.declared.NotPut.{NotPut}
use Rattle.catalogue.specs.Catalogue.{day_line}
use Rattle.catalogue.specs.Pieces.{day_lines, line_fits, printed_days, the_piece, piece_number, piece_bytes, piece_next, put_piece, piece_of, lines_piece, lines_after}
use Rattle.catalogue.specs.Each.{EachFits}
use Rattle.catalogue.proofs.DayLines.{line-fits, line-some}
use Rattle.catalogue.proofs.Pieces.{no_lines, fits, fitting, printed-none, printed-more, printed-end, piece-none, piece-some}

module _ (form : Print) (ed : ℕ) where
  pub lines-append : (xs ys : List ℕ) → day_lines form ed (xs ++ ys) ≡ day_lines form ed xs ++ day_lines form ed ys
  unfolding day_lines
  lines-append [] ys = refl
  lines-append (x ∷ xs) ys = ap (λ (l : List ℕ). day_line form ed x ++ l) (lines-append xs ys) ∙ sym (append_assoc (day_line form ed x) (day_lines form ed xs) (day_lines form ed ys))

  -- a buffer as long as a line takes the line of any day
  pub each_fits : is_edition ed ≡ true → (room : ℕ) (ds : List ℕ) → line_capacity ≤ room → EachDay ds → EachFits form ed room ds
  unfolding EachFits EachDay
  each_fits t room [] h all = tt
  each_fits t room (d ∷ ds) h all = (fits form ed room d all.0 (omega (arith, line-fits form ed d t all.0)), each_fits t room ds h all.1)

  -- of the n days from entry k on, the first are those of ds
  abbrev First : List ℕ → ℕ → ℕ → List ℕ → Type 0
  First list k n ds = entry_days list k n ≡ ds ++ entry_days list (k + length ds) (n - length ds)

  first-none : (list : List ℕ) (k n : ℕ) → First list k n []
  first-none list k n = ap₂ (entry_days list) (omega arith) (omega arith)

  first_more : (list : List ℕ) (k n : ℕ) (ds : List ℕ) → First list (suc k) n ds → First list k (suc n) (number_or_zero (entry_at list k) ∷ ds)
  unfolding entry_days
  first_more list k n ds h =
      let next : suc k + length ds ≡ k + suc (length ds) = omega arith in
      let left : n - length ds ≡ suc n - suc (length ds) = omega arith in
      ap (λ (l : List ℕ). number_or_zero (entry_at list k) ∷ l) (h ∙ ap₂ (λ (i m : ℕ). ds ++ entry_days list i m) next left)

  -- the days printed are the first of those due
  printed-first : (room : ℕ) (list : List ℕ) (k n : ℕ) → First list k n (printed_days form ed room (entry_days list k n))
  printed-first room list k zero = subst (First list k zero) (sym (ap (printed_days form ed room) (no-days list k) ∙ printed-none form ed room)) (first-none list k zero)
  printed-first room list k (suc n) = go (line_fits form ed room d) refl (printed-first (room - length (day_line form ed d)) list (suc k) n)
    where
      d : ℕ
      d = number_or_zero (entry_at list k)

      go :
          (b : Bool) →
          line_fits form ed room d ≡ b →
          First list (suc k) n (printed_days form ed (room - length (day_line form ed d)) (entry_days list (suc k) n)) →
          First list k (suc n) (printed_days form ed room (entry_days list k (suc n)))
      go true e h =
          subst (First list k (suc n)) (sym (ap (printed_days form ed room) (more-days list k n) ∙ printed-more form ed room d (entry_days list (suc k) n) e)) (first_more list k n (printed_days form ed (room - length (day_line form ed d)) (entry_days list (suc k) n)) h)
      go false e h =
          subst (First list k (suc n)) (sym (ap (printed_days form ed room) (more-days list k n) ∙ printed-end form ed room d (entry_days list (suc k) n) e)) (first-none list k (suc n))

  -- their lines are within the room
  printed-within : (room : ℕ) (ds : List ℕ) → length (day_lines form ed (printed_days form ed room ds)) ≤ room
  printed-within room [] = rw (printed-none form ed room) (unfold day_lines in omega arith)
  printed-within room (d ∷ ds) = go (line_fits form ed room d) refl (printed-within (room - length (day_line form ed d)) ds)
    where
      go :
          (b : Bool) →
          line_fits form ed room d ≡ b →
          length (day_lines form ed (printed_days form ed (room - length (day_line form ed d)) ds)) ≤ room - length (day_line form ed d) →
          length (day_lines form ed (printed_days form ed room (d ∷ ds))) ≤ room
      go true e h = rw (printed-more form ed room d ds e) (unfold day_lines in simp length-append (omega (arith, fitting form ed room d e)))
      go false e h = rw (printed-end form ed room d ds e) (unfold day_lines in omega arith)

  -- where each line fits there is no refusal
  pub piece-each : (room k : ℕ) (ds : List ℕ) → EachFits form ed room ds → piece_of form ed room k ds ≡ put_piece form ed k (printed_days form ed room ds)
  unfolding EachFits
  piece-each room k [] each = piece-none form ed room k ∙ ap₂ (λ (b n : ℕ). Ok (the_piece b n)) (unfold day_lines printed_days in refl) (unfold printed_days in omega arith)
  piece-each room k (d ∷ ds) each = piece-some form ed room k d ds each.0

  rest-fits : (room : ℕ) (xs ys : List ℕ) → EachFits form ed room (xs ++ ys) → EachFits form ed room ys
  unfolding EachFits
  rest-fits room [] ys each = each
  rest-fits room (x ∷ xs) ys each = rest-fits room xs ys each.1

  no_bytes : (ds : List ℕ) → length (day_lines form ed ds) ≡ 0 → ds ≡ []
  unfolding day_lines
  no_bytes [] h = refl
  no_bytes (d ∷ ds) h = absurd (omega (arith, line-some form ed d, simp length-append at h))

  all-printed : (room : ℕ) (ds : List ℕ) → EachFits form ed room ds → printed_days form ed room ds ≡ [] → ds ≡ []
  unfolding EachFits
  all-printed room [] each none = refl
  all-printed room (d ∷ ds) each none = absurd (omega (arith, ap length (sym (printed-more form ed room d ds each.0) ∙ none)))

  -- what a call tells and leaves behind, where each line due fits the buffer
  pub record Going (list : List ℕ) (k : ℕ) (before : List ℕ) (answer : Result Piece NotPut) (after : List ℕ) : Type 0 where
    pub good : piece_number answer ≡ 0
    pub within : piece_bytes answer ≤ length before
    -- the bytes put are the front of the lines due, and those from the entry handed back on are the rest
    pub lines : day_lines form ed (listed_from list k) ≡ take (piece_bytes answer) after ++ day_lines form ed (listed_from list (piece_next answer))
    pub front : length (take (piece_bytes answer) after) ≡ piece_bytes answer
    pub fits_on : (room : ℕ) → EachFits form ed room (listed_from list k) → EachFits form ed room (listed_from list (piece_next answer))
    -- nothing is put only where nothing is due, and else the next entry is a later one
    pub done : piece_bytes answer ≡ 0 → listed_from list k ≡ []
    pub on : (piece_bytes answer ≡ 0 → ⊥) → k < piece_next answer
    pub forward : k ≤ piece_next answer

  pub going : (list : List ℕ) (k : ℕ) (before : List ℕ) → EachFits form ed (length before) (listed_from list k) → Going list k before (lines_piece form ed list k (length before)) (lines_after form ed list k before)
  going list k before each =
      rw answered
      (record {
        good = refl;
        within = printed-within (length before) (listed_from list k);
        lines = ap (day_lines form ed) first ∙ lines-append printed (listed_from list (k + length printed)) ∙ ap (λ (l : List ℕ). l ++ day_lines form ed (listed_from list (k + length printed))) (sym taken);
        front = ap length taken;
        fits_on = λ room each. rest-fits room printed (listed_from list (k + length printed)) (subst (EachFits form ed room) first each);
        done = λ none. all-printed (length before) (listed_from list k) each (no_bytes printed none);
        on = λ some. later (dec_le 1 (length printed)) some;
        forward = omega arith;
      })
    where
      printed : List ℕ
      printed = printed_days form ed (length before) (listed_from list k)

      answered : lines_piece form ed list k (length before) ≡ put_piece form ed k printed
      answered = piece-each (length before) k (listed_from list k) each

      first : listed_from list k ≡ printed ++ listed_from list (k + length printed)
      first =
          printed-first (length before) list k (capacity list - k)
          ∙ ap (λ (n : ℕ). printed ++ entry_days list (k + length printed) n) (omega arith)

      taken : take (length (day_lines form ed printed)) (lines_after form ed list k before) ≡ day_lines form ed printed
      taken = take-append_seam (day_lines form ed printed) (drop (length (day_lines form ed printed)) before)

      later : Dec (1 ≤ length printed) → (length (day_lines form ed printed) ≡ 0 → ⊥) → k < k + length printed
      later (yes h) some = omega arith
      later (no h) some = absurd (some (no_lines form ed printed (omega arith)))

  -- the bytes that n calls put one after another, the first from entry k on and each other from the entry that the one
  -- before it handed back; `buffers i` is the buffer of the call behind which i are left
  pub pieces_from : List ℕ → (ℕ → List ℕ) → ℕ → ℕ → List ℕ
  pieces_from list buffers zero k = []
  pieces_from list buffers (suc n) k =
      take (piece_bytes (lines_piece form ed list k (length (buffers n)))) (lines_after form ed list k (buffers n))
      ++ pieces_from list buffers n (piece_next (lines_piece form ed list k (length (buffers n))))

  pub pieces-together :
      (list : List ℕ) (buffers : ℕ → List ℕ) (n k : ℕ) →
      ((i : ℕ) → EachFits form ed (length (buffers i)) (listed_from list k)) →
      capacity list - k ≤ n →
      pieces_from list buffers n k ≡ day_lines form ed (listed_from list k)
  unfolding pieces_from day_lines
  pieces-together list buffers zero k each enough =
      let none : capacity list - k ≡ 0 = omega arith in
      sym (ap (λ (m : ℕ). day_lines form ed (entry_days list k m)) none ∙ ap (day_lines form ed) (no-days list k))
  pieces-together list buffers (suc n) k each enough =
      ap (λ (l : List ℕ). take (piece_bytes answer) (lines_after form ed list k (buffers n)) ++ l)
      (pieces-together list buffers n (piece_next answer) (λ i. g.fits_on (length (buffers i)) (each i)) (fewer (dec_le 1 (piece_bytes answer))))
      ∙ sym g.lines
    where
      answer : Result Piece NotPut
      answer = lines_piece form ed list k (length (buffers n))

      g : Going list k (buffers n) answer (lines_after form ed list k (buffers n))
      g = going list k (buffers n) (each n)

      fewer : Dec (1 ≤ piece_bytes answer) → capacity list - piece_next answer ≤ n
      fewer (yes h) = omega (arith, g.on (λ z. omega arith))
      fewer (no h) = omega (arith, g.forward, sym (days-length list k (capacity list - k)) ∙ ap length (g.done (omega arith)))

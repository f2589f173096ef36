-- The loop of `print_days`: the output from the bytes written on begins with the lines that are still due, and a piece
-- is the front of these, by the law of the pieces. Assumes nothing.
use mathlib.Core.Bool.{true}
use mathlib.Core.Path.{◌≡◌, refl, ap, sym, ◌∙◌}
use mathlib.Core.List.{List, ◌++◌, append_assoc}
use Prim.Native.Nat.{ℕ, ◌+◌, ◌-◌, ◌≤◌, ◌<◌}
use native.Mathlib.Omega.{arith}
use lib.ListN.{length, take, drop, length-append, length-drop}
use Rattle.names.specs.declared.Print.{Print}
use Rattle.query.specs.declared.Query.{Query}
use Rattle.query.specs.Query.{refusal_of}
use Rattle.std.specs.Prelude.{Result, Ok}
use Rattle.std.specs.Result.{is_ok}
use Rattle.entries.specs.declared.NotPut.{NotPut}
use Rattle.catalogue.specs.declared.Piece.{Piece}
use Rattle.panchanga.specs.TrueLongitudes.{is_edition}
use Rattle.entries.specs.Listed.{listed_from}
use Rattle.catalogue.specs.Pieces.{day_lines, lines_piece, lines_after, of_edition, left_in_edition}
use Rattle.catalogue.proofs.Pieces.{piece-given, buffer-given}
use Rattle.catalogue.specs.Each.{EachFits}
use Rattle.catalogue.proofs.Together.{piece-each, Going, going}
use Rattle.find.specs.Output.{output_of, NextBytes}
use Rattle.find.proofs.Bounds.{output-short}
use Rattle.find.proofs.Next.{next_of, due-of, left-of}

module _ (form : Print) (q : Query) (days : List ℕ) (before : ℕ) where
  abbrev due : ℕ → List ℕ
  due next = day_lines form q.edition (listed_from days next)

  abbrev end : ℕ
  end = before + length (due 0)

  pub record Printing (room : ℕ) (buffer : List ℕ) (written next : ℕ) : Type 0 where
    pub same : length buffer ≡ room
    pub each : EachFits form q.edition room (listed_from days next)
    pub left : drop written (output_of form q) ≡ due next ++ drop end (output_of form q)
    pub sum : written + length (due next) ≡ end

  pub printing-start : (buffer : List ℕ) → EachFits form q.edition (length buffer) (listed_from days 0) → NextBytes form q before (due 0) → Printing (length buffer) buffer before 0
  printing-start buffer each n = record { same = refl; each = each; left = due-of form q before (due 0) n; sum = refl }

  -- a call for the lines due is not refused
  pub lines-there :
      (room : ℕ) (buffer : List ℕ) (written next : ℕ) →
      Printing room buffer written next →
      is_edition q.edition ≡ true →
      (answer : Result Piece NotPut) →
      answer ≡ of_edition q.edition (lines_piece form q.edition days next (length buffer)) →
      is_ok answer ≡ true
  lines-there room buffer written next p t answer told =
      rw (told ∙ piece-given q.edition t _ ∙ piece-each form q.edition (length buffer) next (listed_from days next) (rw p.same p.each))

  module _ (room : ℕ) (buffer : List ℕ) (written next : ℕ) (p : Printing room buffer written next) (piece : Piece) (after : List ℕ)
      (t : is_edition q.edition ≡ true) (told : Ok piece ≡ of_edition q.edition (lines_piece form q.edition days next (length buffer))) (put : after ≡ left_in_edition q.edition buffer (lines_after form q.edition days next buffer)) where
    pub step : Going form q.edition days next buffer (Ok piece) after
    step = rw (told ∙ piece-given q.edition t _, put ∙ buffer-given q.edition t _ _) (going form q.edition days next buffer (rw p.same p.each))

    left-now : drop written (output_of form q) ≡ take piece.bytes after ++ (due piece.next ++ drop end (output_of form q))
    left-now = p.left ∙ ap (λ (l : List ℕ). l ++ drop end (output_of form q)) step.lines ∙ append_assoc (take piece.bytes after) (due piece.next) (drop end (output_of form q))

    pub next-piece : NextBytes form q written (take piece.bytes after)
    next-piece = next_of form q written (take piece.bytes after) (due piece.next ++ drop end (output_of form q)) left-now

    -- all that is due is written
    pub printed : piece.bytes ≡ 0 → written ≡ end
    unfolding day_lines
    printed none = omega (arith, p.sum, ap (λ (ds : List ℕ). length (day_lines form q.edition ds)) (step.done none))

    -- the bytes of a piece, within the output
    length-now : length (output_of form q) - written ≡ piece.bytes + length (due piece.next ++ drop end (output_of form q))
    length-now =
        sym (length-drop written (output_of form q))
        ∙ ap length left-now
        ∙ length-append (take piece.bytes after) (due piece.next ++ drop end (output_of form q))
        ∙ ap (λ (n : ℕ). n + length (due piece.next ++ drop end (output_of form q))) step.front

    pub countable : refusal_of q ≡ 0 → (piece.bytes ≡ 0 → ⊥) → written + piece.bytes ≤ 64256160
    countable e some = omega (arith, length-now, output-short form q e)

    pub fewer : (piece.bytes ≡ 0 → ⊥) → length (due piece.next) < length (due next)
    fewer some = omega (arith, step.front, ap length step.lines ∙ length-append (take piece.bytes after) (due piece.next))

    pub printing-step : length after ≡ length buffer → Printing room after (written + piece.bytes) piece.next
    printing-step kept =
        record {
          same = kept ∙ p.same;
          each = step.fits_on room p.each;
          left =
              ap (λ (n : ℕ). drop (written + n) (output_of form q)) (sym step.front)
              ∙ left-of form q written (take piece.bytes after) (due piece.next ++ drop end (output_of form q)) left-now;
          sum = omega (arith, p.sum, step.front, ap length step.lines ∙ length-append (take piece.bytes after) (due piece.next));
        }

-- The heading that was put is the output's front: it fits, and its numbers are those of the query. Assumes nothing.
use mathlib.Core.Bool.{true}
use mathlib.Core.Path.{◌≡◌, ap, ap₂, sym, ◌∙◌}
use mathlib.Core.List.{List, ◌++◌}
use Prim.Native.Nat.{ℕ, ◌≤◌}
use native.Mathlib.Omega.{arith}
use lib.ListN.{length, take, drop}
use lib.Seq.{take-append_seam}
use Rattle.names.specs.declared.Print.{Print}
use Rattle.query.specs.declared.Query.{Query}
use Rattle.query.specs.Query.{refusal_of}
use Rattle.query.specs.SunArcs.{with_sun_arcs}
use Rattle.query.proofs.Accepted.{accepted-by}
use Rattle.panchanga.specs.TrueLongitudes.{is_edition}
use Rattle.search.specs.Days.{matching_days, visited_days}
use Rattle.text.specs.Lines.{line_capacity}
use Rattle.std.specs.Prelude.{Result, Ok}
use Rattle.std.specs.Result.{is_ok}
use Rattle.entries.specs.declared.NotPut.{NotPut}
use Rattle.catalogue.specs.declared.Piece.{Piece}
use Rattle.catalogue.specs.Catalogue.{catalogue_heading}
use Rattle.catalogue.specs.Pieces.{day_lines, with_front, the_piece, piece_bytes, heading_piece, heading_after, of_edition, left_in_edition}
use Rattle.catalogue.proofs.Pieces.{Headed, heading-put, piece-given, buffer-given}
use Rattle.find.specs.Output.{heading_of, output_of, NextBytes}
use Rattle.find.proofs.Bounds.{heading-short}
use Rattle.find.proofs.Next.{next_of}

module _ (form : Print) (q : Query) (e : refusal_of q ≡ 0) (n k : ℕ) (count : n ≡ length (matching_days q)) (visits : k ≡ length (visited_days (with_sun_arcs q))) (before : List ℕ) (room : line_capacity ≤ length before) where
  edition : is_edition q.edition ≡ true
  edition = (accepted-by q e).edition

  counted : catalogue_heading form q.edition n k ≡ heading_of form q
  counted = ap₂ (catalogue_heading form q.edition) count visits

  headed : Headed form q.edition n k before (Ok (the_piece (length (catalogue_heading form q.edition n k)) 0)) (with_front (catalogue_heading form q.edition n k) before)
  headed = heading-put form q.edition n k before (omega (arith, heading-short form q e, ap length counted))

  -- it is not refused
  pub heading-there : (answer : Result Piece NotPut) → answer ≡ of_edition q.edition (heading_piece form q.edition n k (length before)) → is_ok answer ≡ true
  heading-there answer told = rw (told ∙ piece-given q.edition edition _ ∙ headed.answer)

  module _ (piece : Piece) (after : List ℕ) (told : Ok piece ≡ of_edition q.edition (heading_piece form q.edition n k (length before))) (put : after ≡ left_in_edition q.edition before (heading_after form q.edition n k before)) where
    bytes : piece.bytes ≡ length (catalogue_heading form q.edition n k)
    bytes = ap piece_bytes (told ∙ piece-given q.edition edition _ ∙ headed.answer)

    pub heading-bytes : piece.bytes ≡ length (heading_of form q)
    heading-bytes = bytes ∙ ap length counted

    pub heading-taken : take piece.bytes after ≡ heading_of form q
    heading-taken =
        ap (λ (n : ℕ). take n after) bytes
        ∙ ap (take (length (catalogue_heading form q.edition n k))) (put ∙ buffer-given q.edition edition _ _ ∙ headed.put)
        ∙ take-append_seam (catalogue_heading form q.edition n k) (drop (length (catalogue_heading form q.edition n k)) before)
        ∙ counted

    pub heading-next : NextBytes form q 0 (take piece.bytes after)
    heading-next = next_of form q 0 (take piece.bytes after) (day_lines form q.edition (matching_days q)) (unfold output_of in ap (λ (l : List ℕ). l ++ day_lines form q.edition (matching_days q)) (sym heading-taken))

-- The heading's line put at the front of a buffer is the heading put there. Assumes nothing.
use mathlib.Core.Path.{◌≡◌, ap, ap₂, sym, ◌∙◌}
use mathlib.Core.List.{List, ◌++◌}
use Prim.Native.Nat.{ℕ, ◌+◌, ◌≤◌, ◌<◌}
use native.Mathlib.Omega.{arith}
use lib.ListN.{length, drop}
use lib.Seq.{paste}
use Rattle.std.specs.Prelude.{Ok, Err}
use Rattle.names.specs.declared.Print.{Print}
use Rattle.text.specs.declared.Line.{Line}
use Rattle.text.specs.Lines.{contents, Holds}
use Rattle.catalogue.specs.Catalogue.{catalogue_heading}
use Rattle.entries.specs.declared.NotPut.TheVariants.{TooShort}
use Rattle.catalogue.specs.Pieces.{the_piece, heading_piece, heading_after}
use Rattle.catalogue.proofs.Pieces.{heading-put, heading-refused}
use Rattle.text.proofs.Holding.{holds-length}

module _ (form : Print) (ed found examined : ℕ) (before : List ℕ) (line : Line) (holds : Holds line (catalogue_heading form ed found examined)) where
  pub line_refused :
      length before < line.len →
      (Err (TooShort line.len) ≡ heading_piece form ed found examined (length before)) × (before ≡ heading_after form ed found examined before)
  line_refused h =
      let size = holds-length holds in
      let headed = heading-refused form ed found examined before (omega arith) in
      (ap (λ (n : ℕ). Err (TooShort n)) size ∙ sym headed.answer, sym headed.put)

  pub line-put :
      line.len ≤ length before →
      (Ok (the_piece line.len 0) ≡ heading_piece form ed found examined (length before))
      × (paste before 0 line.bytes line.len ≡ heading_after form ed found examined before)
  unfolding contents
  line-put h =
      let size = holds-length holds in
      let end : 0 + line.len ≡ length (catalogue_heading form ed found examined) = omega arith in
      let headed = heading-put form ed found examined before (omega arith) in
      (ap (λ (n : ℕ). Ok (the_piece n 0)) size ∙ sym headed.answer, ap₂ (λ (l : List ℕ) (n : ℕ). l ++ drop n before) holds.whole end ∙ sym headed.put)

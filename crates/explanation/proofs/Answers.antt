-- The line for each case of the answer: a refusal's, or that of a day, since an answer that is not refused names an
-- edition.
-- Assumes nothing.
use Prim.Native.Nat.{ℕ}
use mathlib.Core.Path.{◌≡◌, sym, ap, ◌∙◌}
use mathlib.Core.Bool.{false≢true}
use mathlib.Core.List.{List, [], ◌∷◌, ◌++◌, append_assoc}
use borrow.Author.Tests.{ne_eqb}
use Rattle.catalogue.specs.Catalogue.{edition_text}
use Rattle.names.specs.declared.Print.TheVariants.{Numbers as ByNumbers}
use Rattle.panchanga.specs.TrueLongitudes.{is_edition}
use Rattle.query.specs.declared.Query.{Query}
use Rattle.reasons.specs.Conditions.{Cause}
use Rattle.reasons.specs.Reasons.{Numbers, no_answer, why_of}
use Rattle.reasons.proofs.Laws.{edition-told}
use Rattle.text.specs.declared.Line.{Line}
use Rattle.text.specs.Lines.{newline, with_byte, with_bytes, refusal_line}
use Rattle.text.proofs.Lines.{with-byte-is, with-bytes-append}
use Rattle.dated.specs.Dated.{day_bytes}
use Rattle.explanation.specs.Explanations.{verdict_text, answer_line, explanation_of}

module _ (q : Query) (n : ℕ) where
  -- 0 is no refusal
  some-refusal : (refusal : ℕ) → no_answer refusal ≡ why_of q n → refusal ≡ 0 → ⊥
  unfolding is_edition
  some-refusal refusal e z = false≢true (ap (λ (x : Numbers). is_edition x.edition) e ∙ edition-told q n (ap (λ (x : Numbers). x.refusal) (sym e) ∙ z))

  pub refused-line : (refusal : ℕ) → no_answer refusal ≡ why_of q n → explanation_of ByNumbers q n ≡ refusal_line refusal
  unfolding answer_line
  refused-line refusal e = rw (sym e, ne_eqb refusal 0 (some-refusal refusal e))

  pub told_line :
      (l : Line) (edition : ℕ) {cause : Cause} →
      record { refusal = 0; edition = edition; cause = cause } ≡ why_of q n →
      with_byte (with_bytes (with_bytes (with_bytes l (day_bytes n)) (verdict_text ByNumbers cause)) (edition_text edition)) newline ≡ with_bytes l (explanation_of ByNumbers q n)
  unfolding answer_line
  told_line l edition {cause} e = rw (sym e) (together (day_bytes n) (verdict_text ByNumbers cause) (edition_text edition))
    where
      together : (a b c : List ℕ) → with_byte (with_bytes (with_bytes (with_bytes l a) b) c) newline ≡ with_bytes l (a ++ (b ++ (c ++ (newline ∷ []))))
      together a b c = simp (with-byte-is, with-bytes-append, append_assoc)

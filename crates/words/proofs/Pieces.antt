-- Laws of pieces: the first is what is before the first separator, and the others are those of what is after it.
-- By induction on the list. Assumes nothing.
use mathlib.Core.Path.{◌≡◌, refl, ap, ◌∙◌}
use mathlib.Core.Bool.{Bool, true, false, cond, not}
use mathlib.Core.List.{List, [], ◌∷◌}
use Prim.Native.Nat.{ℕ, ◌<◌}
use native.Mathlib.Omega.{arith}
use lib.Dec.{ltb}
use lib.ListN.{length, length-drop}
use lib.Seq.{take-length}
use borrow.Author.Tests.{ltb-true, ltb-false}
use Rattle.words.specs.Words.{is_separator, run_length, up_to, after_first, in_front, pieces}
use Rattle.words.proofs.Runs.{run_on, run-stops, run-le}

pieces-at : (s b : ℕ) (bs : List ℕ) → is_separator s b ≡ true → pieces s (b ∷ bs) ≡ [] ∷ pieces s bs
unfolding pieces
pieces-at s b bs e = rw e

pieces-in : (s b : ℕ) (bs : List ℕ) → is_separator s b ≡ false → pieces s (b ∷ bs) ≡ in_front b (pieces s bs)
unfolding pieces
pieces-in s b bs e = rw e

-- a text without a separator is one piece
pub pieces-last : (s : ℕ) (bs : List ℕ) → run_length false s bs ≡ length bs → pieces s bs ≡ bs ∷ []
unfolding pieces in_front
pieces-last s [] h = refl
pieces-last s (b ∷ bs) h = go (is_separator s b) refl (λ e. pieces-last s bs e)
  where
    go : (u : Bool) → is_separator s b ≡ u → (run_length false s bs ≡ length bs → pieces s bs ≡ bs ∷ []) → pieces s (b ∷ bs) ≡ (b ∷ bs) ∷ []
    go true e ih = absurd (omega (arith, run-stops false s b bs (ap not e)))
    go false e ih = pieces-in s b bs e ∙ ap (in_front b) (ih (omega (arith, run_on false s b bs (ap not e))))

pub pieces_more :
    (s : ℕ) (bs : List ℕ) →
    run_length false s bs < length bs →
    pieces s bs ≡ up_to s bs ∷ pieces s (after_first s bs)
unfolding up_to after_first in_front
pieces_more s [] h = absurd (omega arith)
pieces_more s (b ∷ bs) h = go (is_separator s b) refl (λ e. pieces_more s bs e)
  where
    go :
        (u : Bool) →
        is_separator s b ≡ u →
        (run_length false s bs < length bs → pieces s bs ≡ up_to s bs ∷ pieces s (after_first s bs)) →
        pieces s (b ∷ bs) ≡ up_to s (b ∷ bs) ∷ pieces s (after_first s (b ∷ bs))
    go true e ih = pieces-at s b bs e ∙ rw (run-stops false s b bs (ap not e))
    go false e ih =
        let on = run_on false s b bs (ap not e) in
        pieces-in s b bs e ∙ ap (in_front b) (ih (omega arith)) ∙ rw on

pub up-to-whole : (s : ℕ) (bs : List ℕ) → run_length false s bs ≡ length bs → up_to s bs ≡ bs
unfolding up_to
up-to-whole s bs end = rw end (take-length bs)

pub after-shorter : (s : ℕ) (bs : List ℕ) → (run_length false s bs ≡ length bs → ⊥) → length (after_first s bs) < length bs
unfolding after_first
after-shorter s bs more = simp length-drop (omega (arith, run-le false s bs))

-- the pieces after the first
unfoldable pub later_pieces : ℕ → List ℕ → List (List ℕ)
later_pieces s bs = cond (ltb (run_length false s bs) (length bs)) (pieces s (after_first s bs)) []

pub pieces-first : (s : ℕ) (bs : List ℕ) → pieces s bs ≡ up_to s bs ∷ later_pieces s bs
unfolding later_pieces
pieces-first s bs = go (ltb (run_length false s bs) (length bs)) refl
  where
    go : (u : Bool) → ltb (run_length false s bs) (length bs) ≡ u → pieces s bs ≡ up_to s bs ∷ later_pieces s bs
    go true e = pieces_more s bs (ltb-true _ _ e) ∙ rw e
    go false e =
        let end : run_length false s bs ≡ length bs = omega (arith, run-le false s bs, ltb-false (run_length false s bs) (length bs) e) in
        pieces-last s bs end ∙ rw (e, up-to-whole s bs end)

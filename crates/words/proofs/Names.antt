-- The name at a place, found piece by piece: after the first separator, each name's place is one less. Assumes nothing.
use mathlib.Core.Path.{◌≡◌, refl, ap, sym, ◌∙◌}
use mathlib.Core.Bool.{Bool, true, false, ◌&&◌, and-eq-true_iff}
use mathlib.Core.List.{List, [], ◌∷◌}
use Prim.Native.Nat.{ℕ, zero, suc, ◌-◌, ◌≤◌, ◌<◌}
use native.Mathlib.Omega.{arith}
use borrow.Author.Tests.{ltb-false, leb-true}
use lib.Dec.{ltb, leb}
use lib.ListN.{length, drop_of_length-le}
use Rattle.text.specs.Lines.{space}
use Rattle.words.specs.Names.{body_names, true_names}
use Rattle.words.specs.Words.{run_length, up_to, after_first, pieces, name_at}
use Rattle.words.proofs.Pieces.{later_pieces, pieces-first}

name-first : (bs : List ℕ) → name_at (pieces space bs) 0 ≡ up_to space bs
unfolding name_at
name-first bs = rw (pieces-first space bs)

none-later : (n : ℕ) → name_at (pieces space []) n ≡ []
unfolding name_at pieces
none-later zero = refl
none-later (suc n) = refl

nothing : (bs : List ℕ) → ltb (run_length false space bs) (length bs) ≡ false → after_first space bs ≡ []
unfolding after_first
nothing bs e =
    drop_of_length-le bs {i = suc (run_length false space bs)} (omega (arith, ltb-false (run_length false space bs) (length bs) e))

name-next : (bs : List ℕ) (n : ℕ) → name_at (pieces space bs) (suc n) ≡ name_at (pieces space (after_first space bs)) n
unfolding name_at later_pieces
name-next bs n = go (ltb (run_length false space bs) (length bs)) refl
  where
    go :
        (t : Bool) →
        ltb (run_length false space bs) (length bs) ≡ t →
        name_at (pieces space bs) (suc n) ≡ name_at (pieces space (after_first space bs)) n
    go true e = rw (pieces-first space bs, e)
    go false e = rw (pieces-first space bs, e) (sym (none-later n) ∙ ap (λ s. name_at (pieces space s) n) (sym (nothing bs e)))

-- before the name that is left places on
abbrev pub Naming : List ℕ → ℕ → ℕ → List ℕ → Type 0
Naming names place left rest = name_at (pieces space rest) left ≡ name_at (pieces space names) place

pub naming-next :
    (names : List ℕ) (place left : ℕ) (rest : List ℕ) →
    Naming names place left rest →
    0 < left →
    Naming names place (left - 1) (after_first space rest)
naming-next names place zero rest p h = absurd (omega arith)
naming-next names place (suc left) rest p h =
    let back : suc left - 1 ≡ left = omega arith in
    rw back (sym (name-next rest left) ∙ p)

pub naming-end :
    (names : List ℕ) (place left : ℕ) (rest : List ℕ) →
    Naming names place left rest →
    left ≤ 0 →
    up_to space rest ≡ name_at (pieces space names) place
naming-end names place zero rest p h = sym (name-first rest) ∙ p
naming-end names place (suc left) rest p h = absurd (omega arith)

-- each of some names has at most so many bytes: one test over them all
unfoldable pub no_longer : ℕ → List (List ℕ) → Bool
no_longer most [] = true
no_longer most (n ∷ ns) = leb (length n) most && no_longer most ns

pub name-length : (most : ℕ) (ns : List (List ℕ)) → no_longer most ns ≡ true → (k : ℕ) → length (name_at ns k) ≤ most
unfolding name_at no_longer
name-length most [] e k = omega arith
name-length most (n ∷ ns) e zero = leb-true (length n) most ((and-eq-true_iff (leb (length n) most) (no_longer most ns)).0 e).0
name-length most (n ∷ ns) e (suc k) = name-length most ns ((and-eq-true_iff (leb (length n) most) (no_longer most ns)).0 e).1 k

-- the longest names of bodies have seven bytes
pub body-name-short : (b : ℕ) → length (name_at body_names b) ≤ 7
unfolding no_longer
body-name-short b = name-length 7 body_names refl b

-- and those of true places twelve
pub true-name-short : (b : ℕ) → length (name_at true_names b) ≤ 12
unfolding no_longer
true-name-short b = name-length 12 true_names refl b

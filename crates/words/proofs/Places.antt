-- The place of a word among names, found piece by piece: before each piece, the names passed are others, and the word's
-- place among those ahead is what is left to count. Assumes nothing.
use mathlib.Core.Path.{◌≡◌, refl, ap, ◌∙◌}
use mathlib.Core.Bool.{Bool, true, false, cond}
use mathlib.Core.List.{List, [], ◌∷◌, ◌++◌}
use Prim.Native.Nat.{ℕ, suc, ◌+◌, ◌≤◌, ◌<◌}
use native.Mathlib.Omega.{arith}
use lib.ListN.{length}
use Rattle.text.specs.Lines.{space}
use Rattle.words.specs.Words.{run_length, up_to, after_first, pieces, same_bytes, small, place_in}
use Rattle.words.proofs.Runs.{run-le}
use Rattle.words.proofs.Pieces.{later_pieces, pieces-first, pieces-last, pieces_more, up-to-whole, after-shorter}

place_here : (n : List ℕ) (ns : List (List ℕ)) (w : List ℕ) → same_bytes n (small w) ≡ true → place_in (n ∷ ns) w ≡ 0
unfolding place_in
place_here n ns w e = rw e

place-later : (n : List ℕ) (ns : List (List ℕ)) (w : List ℕ) → same_bytes n (small w) ≡ false → place_in (n ∷ ns) w ≡ suc (place_in ns w)
unfolding place_in
place-later n ns w e = rw e

place-nowhere : (w : List ℕ) → place_in [] w ≡ 0
unfolding place_in
place-nowhere w = refl

-- before the first name of rest: so many names were passed
pub record Placing (names word : List ℕ) (place : ℕ) (rest : List ℕ) : Type 0 where
  pub count : place + place_in (pieces space rest) word ≡ place_in (pieces space names) word
  pub room : place + length rest ≤ length names

pub placing-start : (names word : List ℕ) → Placing names word 0 names
placing-start names word = record { count = omega arith; room = omega arith }

-- what the comparison with the first name answers
pub first-same :
    (word rest got : List ℕ) (r : Bool) →
    got ≡ up_to space rest →
    r ≡ same_bytes got (small word) →
    r ≡ same_bytes (up_to space rest) (small word)
first-same word rest got r e h = h ∙ ap (λ s. same_bytes s (small word)) e

module _ (names word : List ℕ) (place : ℕ) (rest : List ℕ) (p : Placing names word place rest) where
  abbrev first : List ℕ
  first = up_to space rest

  pub placing-found : same_bytes first (small word) ≡ true → place ≡ place_in (pieces space names) word
  placing-found e =
      let here = ap (λ ps. place_in ps word) (pieces-first space rest) ∙ place_here first (later_pieces space rest) word e in
      omega (arith, p.count)

  pub placing-end :
      same_bytes first (small word) ≡ false →
      run_length false space rest ≡ length rest →
      place + 1 ≡ place_in (pieces space names) word
  placing-end e end =
      let later = place-later rest [] word (rw (up-to-whole space rest end) at e) in
      let last = ap (λ ps. place_in ps word) (pieces-last space rest end) in
      omega (arith, p.count, place-nowhere word)

  pub placing-next :
      same_bytes first (small word) ≡ false →
      (run_length false space rest ≡ length rest → ⊥) →
      Placing names word (place + 1) (after_first space rest)
  placing-next e more =
      let some : run_length false space rest < length rest = omega (arith, run-le false space rest) in
      let later = place-later first (pieces space (after_first space rest)) word e in
      let split = ap (λ ps. place_in ps word) (pieces_more space rest some) in
      record { count = omega (arith, p.count); room = omega (arith, p.room, after-shorter space rest more) }

pub place-most : (ns : List (List ℕ)) (w : List ℕ) → place_in ns w ≤ length ns
unfolding place_in
place-most [] w = omega arith
place-most (n ∷ ns) w = go (same_bytes n (small w)) (place-most ns w)
  where
    go : (t : Bool) → place_in ns w ≤ length ns → cond t 0 (suc (place_in ns w)) ≤ suc (length ns)
    go true h = omega arith
    go false h = omega arith

-- the place among the names of two lists, one behind the other
pub place-before : (ms ns : List (List ℕ)) (w : List ℕ) → place_in ms w < length ms → place_in ms w ≡ place_in (ms ++ ns) w
unfolding place_in
place-before [] ns w h = absurd (omega arith)
place-before (m ∷ ms) ns w h = go (same_bytes m (small w)) refl (place-before ms ns w)
  where
    go : (t : Bool) → same_bytes m (small w) ≡ t → (place_in ms w < length ms → place_in ms w ≡ place_in (ms ++ ns) w) → cond (same_bytes m (small w)) 0 (suc (place_in ms w)) ≡ cond (same_bytes m (small w)) 0 (suc (place_in (ms ++ ns) w))
    go true e f = rw e
    go false e f = rw e (ap suc (f (omega (arith, rw e at h))))

pub place-behind : (ms ns : List (List ℕ)) (w : List ℕ) → length ms ≤ place_in ms w → length ms + place_in ns w ≡ place_in (ms ++ ns) w
unfolding place_in
place-behind [] ns w h = omega arith
place-behind (m ∷ ms) ns w h = go (same_bytes m (small w)) refl (place-behind ms ns w)
  where
    go : (t : Bool) → same_bytes m (small w) ≡ t → (length ms ≤ place_in ms w → length ms + place_in ns w ≡ place_in (ms ++ ns) w) → suc (length ms) + place_in ns w ≡ cond (same_bytes m (small w)) 0 (suc (place_in (ms ++ ns) w))
    go true e f = absurd (omega (arith, rw e at h))
    go false e f = rw e (omega (arith, f (omega (arith, rw e at h))))

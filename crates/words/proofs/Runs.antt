-- Laws of the run at the front of a list: it is within the list, and it grows byte by byte. Each by the list's first
-- byte.
-- Assumes nothing.
use mathlib.Core.Path.{◌≡◌, refl, ap, sym, ◌∙◌}
use mathlib.Core.Bool.{Bool, true, false, cond, not}
use mathlib.Core.List.{List, [], ◌∷◌}
use Prim.Native.Nat.{ℕ, suc, ◌+◌, ◌≤◌}
use native.Mathlib.Omega.{arith}
use native.Mathlib.Numerals.{one-add}
use lib.Dec.{ltb}
use lib.ListN.{length, drop, drop_of_length-le}
use Rattle.std.specs.Prelude.{Option, Some, None}
use Rattle.std.specs.List.{position_or_len}
use Rattle.std.specs.Option.{unwrap_or}
use borrow.Author.Tests.{ltb-false}
use Rattle.words.specs.Words.{in_run, run_length, after_first}

pub run_on : (t : Bool) (s b : ℕ) (bs : List ℕ) → in_run t s b ≡ true → run_length t s (b ∷ bs) ≡ suc (run_length t s bs)
unfolding run_length
run_on t s b bs e = rw e

pub run-stops : (t : Bool) (s b : ℕ) (bs : List ℕ) → in_run t s b ≡ false → run_length t s (b ∷ bs) ≡ 0
unfolding run_length
run-stops t s b bs e = rw e

pub run_none : (t : Bool) (s : ℕ) → run_length t s [] ≡ 0
unfolding run_length
run_none t s = refl

pub run-le : (t : Bool) (s : ℕ) (bs : List ℕ) → run_length t s bs ≤ length bs
run-le t s [] = omega (arith, run_none t s)
run-le t s (b ∷ bs) = go (in_run t s b) refl (run-le t s bs)
  where
    go : (u : Bool) → in_run t s b ≡ u → run_length t s bs ≤ length bs → run_length t s (b ∷ bs) ≤ suc (length bs)
    go true e le = omega (arith, run_on t s b bs e)
    go false e le = omega (arith, run-stops t s b bs e)

-- the run ends at the first byte that does not belong to it
position-run : (t : Bool) (s : ℕ) (bs : List ℕ) → position_or_len (λ b. not (in_run t s b)) bs ≡ run_length t s bs
unfolding run_length
position-run t s [] = refl
position-run t s (b ∷ bs) = go (in_run t s b) refl (position-run t s bs)
  where
    go : (u : Bool) → in_run t s b ≡ u → position_or_len (λ b. not (in_run t s b)) bs ≡ run_length t s bs → position_or_len (λ b. not (in_run t s b)) (b ∷ bs) ≡ run_length t s (b ∷ bs)
    go true e ih = rw (e, one-add) (ap suc ih)
    go false e ih = rw e

pub run-found :
    (t : Bool) (s : ℕ) (bs : List ℕ) (o : Option ℕ) →
    o ≡ cond (ltb (position_or_len (λ b. not (in_run t s b)) bs) (length bs)) (Some (position_or_len (λ b. not (in_run t s b)) bs)) None →
    unwrap_or o (length bs) ≡ run_length t s bs
run-found t s bs o e = go (ltb (run_length t s bs) (length bs)) refl (rw (position-run t s bs) at e)
  where
    go : (u : Bool) → ltb (run_length t s bs) (length bs) ≡ u → o ≡ cond u (Some (run_length t s bs)) None → unwrap_or o (length bs) ≡ run_length t s bs
    go true l e = rw e
    go false l e = rw e (omega (arith, run-le t s bs, ltb-false (run_length t s bs) (length bs) l))

-- where the run ends before the list, a separator follows it
pub separator-within : (t : Bool) (s : ℕ) (bs : List ℕ) (n : ℕ) → n ≡ run_length t s bs → (n ≡ length bs → ⊥) → n + 1 ≤ length bs
separator-within t s bs n e h = omega (arith, run-le t s bs)

-- and where there is none, there is nothing after it
pub nothing-after : (s : ℕ) (bs : List ℕ) (n : ℕ) → n ≡ run_length false s bs → n ≡ length bs → drop n bs ≡ after_first s bs
unfolding after_first
nothing-after s bs n e h = drop_of_length-le bs {i = n} (omega arith) ∙ sym (drop_of_length-le bs {i = suc (run_length false s bs)} (omega arith))

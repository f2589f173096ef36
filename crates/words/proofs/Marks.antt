-- A text without its byte order mark: the library's comparison of lists is the meaning's. Assumes nothing.
use mathlib.Core.Path.{◌≡◌, refl, ap}
use mathlib.Core.Bool.{Bool, true, false, cond, ◌&&◌}
use mathlib.Core.List.{List, [], ◌∷◌}
use Prim.Native.Nat.{ℕ, ◌+◌, ◌≤◌}
use native.Mathlib.Omega.{arith}
use denote.Ref.{Bor}
use lib.Dec.{eqb}
use lib.ListN.{length, take, drop, length-drop}
use lib.Pointwise.{pointwise}
use Rattle.std.specs.Prelude.{Option, Some, None}
use Rattle.std.specs.Option.{MatchOption, unwrap_or}
use Rattle.words.specs.Words.{same_bytes, unmarked}

pointwise-same : (s t : List ℕ) → pointwise eqb s t ≡ same_bytes s t
unfolding same_bytes
pointwise-same [] [] = refl
pointwise-same [] (b ∷ t) = refl
pointwise-same (a ∷ s) [] = refl
pointwise-same (a ∷ s) (b ∷ t) = ap (λ r. eqb a b && r) (pointwise-same s t)

abbrev mark : List ℕ
mark = 239 ∷ 187 ∷ 191 ∷ []

-- what is left without the mark, or else all
pub mark-stripped :
    (t : Bor (List ℕ)) (o : Option (Bor (List ℕ))) →
    MatchOption o (pointwise eqb (take 3 t.now) mark ≡ false) (λ x. (pointwise eqb (take 3 t.now) mark ≡ true) × (x.now ≡ drop 3 t.now) × (length x.now + 3 ≡ length t.now)) →
    (unwrap_or o t).now ≡ unmarked t.now
unfolding unmarked
mark-stripped t None e = rw (← pointwise-same (take 3 t.now) mark, e)
mark-stripped t (Some x) e = rw (← pointwise-same (take 3 t.now) mark, e.0, e.1)

pub unmarked-shorter : (t : List ℕ) → length (unmarked t) ≤ length t
unfolding unmarked
unmarked-shorter t = go (same_bytes (take 3 t) (239 ∷ 187 ∷ 191 ∷ []))
  where
    go : (u : Bool) → length (cond u (drop 3 t) t) ≤ length t
    go true = simp length-drop (omega arith)
    go false = omega arith

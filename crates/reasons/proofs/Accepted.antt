-- A question that is not refused: its edition, its day and its query are not, by the tests in their order.
-- Assumes nothing.
use Prim.Native.Nat.{ℕ, ◌≤◌}
use mathlib.Core.Path.{◌≡◌, refl}
use mathlib.Core.Bool.{Bool, true, false, cond}
use native.Mathlib.Omega.{arith}
use lib.Dec.{leb}
use borrow.Author.Tests.{leb-true}
use Rattle.days.specs.Days.{last_day}
use Rattle.panchanga.specs.TrueLongitudes.{is_edition}
use Rattle.query.specs.declared.Query.{Query}
use Rattle.query.specs.Query.{refusal_of}
use Rattle.reasons.specs.Reasons.{refusal_on}

pub record AcceptedQuestion (q : Query) (n : ℕ) : Type 0 where
  pub edition : is_edition q.edition ≡ true
  pub day : n ≤ last_day
  pub query : refusal_of q ≡ 0

pub accepted-question : (q : Query) (n : ℕ) → refusal_on q n ≡ 0 → AcceptedQuestion q n
unfolding refusal_on
accepted-question q n r = go (is_edition q.edition) (leb n last_day) refl refl r
  where
    go : (t u : Bool) → is_edition q.edition ≡ t → leb n last_day ≡ u → cond t (cond u (refusal_of q) 2) 14 ≡ 0 → AcceptedQuestion q n
    go true true e f h = record { edition = e; day = leb-true _ _ f; query = h }
    go true false e f h = absurd (omega arith)
    go false u e f h = absurd (omega arith)

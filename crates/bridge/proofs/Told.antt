-- What is told of the query of the bytes, and for another length: a number of a search, and why a day is not listed.
-- Assumes nothing.
use mathlib.Core.Bool.{Bool, true, false, cond}
use mathlib.Core.List.{List}
use mathlib.Core.Path.{◌≡◌, refl}
use Prim.Native.Nat.{ℕ}
use lib.Dec.{eqb}
use lib.ListN.{length}
use Rattle.std.specs.Prelude.{Ok, Err}
use Rattle.days.specs.declared.refusal.Refusal.{Refusal}
use Rattle.days.specs.declared.refusal.Refusal.TheVariants.{BadInput}
use Rattle.days.specs.Refusals.{bad_input, refusal_number, part_or_zero, and_then}
use Rattle.search.specs.declared.Found.{Found}
use Rattle.search.specs.Search.{unless_refused, found_in, measured_of}
use Rattle.search.proofs.Told.{measured-part}
use Rattle.query.specs.declared.Query.{Query}
use Rattle.reasons.specs.Reasons.{no_answer, why_of}
use Rattle.bridge.specs.Answers.{bridge_why}
use Rattle.bridge.specs.Bytes.{query_bytes, query_from, query_read}

pub told : (bytes : List ℕ) (part : Found → ℕ) → part_or_zero part (and_then (query_read bytes) measured_of) ≡ cond (eqb (length bytes) query_bytes) (unless_refused (query_from bytes) (part (found_in (query_from bytes)))) 0
unfolding query_read
told bytes part = go (eqb (length bytes) query_bytes)
  where
    go : (t : Bool) → part_or_zero part (and_then (cond t (Ok (query_from bytes)) (Err BadInput)) measured_of) ≡ cond t (unless_refused (query_from bytes) (part (found_in (query_from bytes)))) 0
    go true = measured-part (query_from bytes) part
    go false = refl

module _ (bytes : List ℕ) (day : ℕ) where
  pub why-read : {q : Query} → Ok q ≡ query_read bytes → bridge_why bytes day ≡ why_of q day
  unfolding query_read bridge_why
  why-read {q} e = go (eqb (length bytes) query_bytes) e
    where
      go : (t : Bool) → Ok q ≡ cond t (Ok (query_from bytes)) (Err BadInput) → cond t (why_of (query_from bytes) day) (no_answer bad_input) ≡ why_of q day
      go true e = cc
      go false e = absurd cc

  pub why-unread : {r : Refusal} → Err r ≡ query_read bytes → bridge_why bytes day ≡ no_answer (refusal_number r)
  unfolding query_read bridge_why
  why-unread {r} e = go (eqb (length bytes) query_bytes) e
    where
      go : (t : Bool) → Err r ≡ cond t (Ok (query_from bytes)) (Err BadInput) → cond t (why_of (query_from bytes) day) (no_answer bad_input) ≡ no_answer (refusal_number r)
      go true e = absurd cc
      go false e = let is : r ≡ BadInput = cc in rw is

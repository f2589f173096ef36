-- The loop that puts the days on which signs are passed: what is left to put, put behind what is there, gives the list
-- that is meant.
-- Assumes nothing.
use mathlib.Core.Path.{◌≡◌, refl, sym, ap, ap₂, ◌∙◌}
use mathlib.Core.List.{List}
use Prim.Native.Nat.{ℕ, suc, ◌+◌, ◌-◌, ◌≤◌, ◌<◌}
use native.Mathlib.Omega.{arith}
use lib.ListN.{length}
use Rattle.entries.specs.Entries.{with_entry, with_entries_from}
use Rattle.entries.proofs.Laws.{with-entry-length}
use Rattle.zodiac.specs.Passed.{day_by, days_by}

-- i days are put
pub record Filling (t : List ℕ) (signs count : ℕ) (before list : List ℕ) (i : ℕ) : Type 0 where
  pub few : i ≤ count
  pub size : length list ≡ length before
  pub put : with_entries_from list i (days_by t (signs + i) (count - i)) ≡ with_entries_from before 0 (days_by t signs count)

module _ (t : List ℕ) (signs count : ℕ) (before : List ℕ) where
  pub filling-start : Filling t signs count before before 0
  filling-start =
      let s : signs + 0 ≡ signs = omega arith in
      let m : count - 0 ≡ count = omega arith in
      record { few = omega arith; size = refl; put = ap₂ (λ (k n : ℕ). with_entries_from before 0 (days_by t k n)) s m }

  module _ (list : List ℕ) (i : ℕ) (f : Filling t signs count before list i) where
    one_more : i < count → with_entries_from (with_entry list i (day_by t (signs + i))) (i + 1) (days_by t (signs + (i + 1)) (count - (i + 1))) ≡ with_entries_from list i (days_by t (signs + i) (count - i))
    unfolding days_by with_entries_from
    one_more h =
        let more : count - i ≡ suc (count - (i + 1)) = omega arith in
        let next : suc (signs + i) ≡ signs + (i + 1) = omega arith in
        sym
        (ap (λ (m : ℕ). with_entries_from list i (days_by t (signs + i) m)) more
        ∙ ap (λ (s : ℕ). with_entries_from (with_entry list i (day_by t (signs + i))) (i + 1) (days_by t s (count - (i + 1)))) next)

    pub filling-next : (day : ℕ) (after : List ℕ) → i < count → day ≡ day_by t (signs + i) → after ≡ with_entry list i day → Filling t signs count before after (i + 1)
    filling-next day after h e w =
        let w' : after ≡ with_entry list i (day_by t (signs + i)) = w ∙ ap (with_entry list i) e in
        record {
          few = omega arith;
          size = ap length w ∙ with-entry-length list i day ∙ f.size;
          put = rw w' (one_more h ∙ f.put);
        }

    pub filling-end : count ≤ i → list ≡ with_entries_from before 0 (days_by t signs count)
    unfolding days_by with_entries_from
    filling-end h =
        let none : count - i ≡ 0 = omega arith in
        sym (ap (λ (m : ℕ). with_entries_from list i (days_by t (signs + i) m)) none) ∙ f.put

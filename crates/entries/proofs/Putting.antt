-- Entries put one after another from an entry on: all of them where there is room, and the first ones where there is
-- not; by induction on the days.
-- Assumes nothing.
use Prim.Native.Nat.{ℕ, ◌+◌, ◌*◌, ◌≤◌}
use mathlib.Core.Path.{◌≡◌, refl, ap, ap₂, sym, ◌∙◌}
use mathlib.Core.List.{List, [], ◌∷◌, ◌++◌, append_assoc, append-nil}
use native.Mathlib.Omega.{arith}
use borrow.Author.Tests.{le-ltb}
use lib.ListN.{length, take, drop, take-append-drop, length-append, length-drop}
use lib.Seq.{take_at, take-length, drop-length, length-take-le}
use Rattle.entries.specs.Entries.{entries, capacity, with_entry, with_entries, with_entries_from}
use Rattle.entries.proofs.Laws.{entries-length, entries_next, with-entry-length, with-entries-length}

-- the days of two lists put one after another
pub put-append : (l : List ℕ) (k : ℕ) (xs ys : List ℕ) → with_entries_from l k (xs ++ ys) ≡ with_entries_from (with_entries_from l k xs) (k + length xs) ys
unfolding with_entries_from
put-append l k [] ys = ap (λ (i : ℕ). with_entries_from l i ys) (omega arith)
put-append l k (x ∷ xs) ys =
    put-append (with_entry l k x) (k + 1) xs ys ∙ ap (λ (i : ℕ). with_entries_from (with_entries_from (with_entry l k x) (k + 1) xs) i ys) (omega arith)

-- where the list has no entry k, nothing is put from there on
put-none : (l : List ℕ) (k : ℕ) (ds : List ℕ) → capacity l ≤ k → with_entries_from l k ds ≡ l
unfolding with_entries_from with_entry
put-none l k [] h = refl
put-none l k (d ∷ ds) h = rw (le-ltb k (capacity l) h) (put-none l (k + 1) ds (omega arith))

-- behind the entries of the days that are there, where there is room
pub put-behind : (done ds l : List ℕ) → length done + length ds ≤ capacity l → with_entries_from (with_entries done l) (length done) ds ≡ with_entries (done ++ ds) l
unfolding with_entries_from
put-behind done [] l h = ap (λ (t : List ℕ). with_entries t l) (sym (append-nil done))
put-behind done (d ∷ ds) l h =
    let n : length (done ++ (d ∷ [])) ≡ length done + 1 = length-append done (d ∷ []) in
    let one : with_entry (with_entries done l) (length done) d ≡ with_entries (done ++ (d ∷ [])) l =
    entries_next done d (with_entries done l) l (length done) refl (omega arith) refl ∙ ap (λ (k : ℕ). entries (done ++ (d ∷ [])) ++ drop (4 * k) l) (sym n) in
    ap₂ (λ (m : List ℕ) (k : ℕ). with_entries_from m k ds) one (sym n)
    ∙ put-behind (done ++ (d ∷ [])) ds l (omega (arith, n))
    ∙ ap (λ (t : List ℕ). with_entries t l) (append_assoc done (d ∷ []) ds)

-- from the first entry on, where there is room for all
pub put_all : (ds l : List ℕ) → length ds ≤ capacity l → with_entries_from l 0 ds ≡ with_entries ds l
unfolding entries
put_all ds l h = put-behind [] ds l (omega arith)

-- the first n of the days, where n is all that there is room for
put_first : (ds l : List ℕ) (n : ℕ) → n ≤ length ds → capacity l ≡ n → with_entries_from l 0 ds ≡ with_entries (take n ds) l
put_first ds l n h c =
    let front : length (take n ds) ≡ n = length-take-le n ds h in
    ap (with_entries_from l 0) (sym (take-append-drop n ds))
    ∙ put-append l 0 (take n ds) (drop n ds)
    ∙ ap₂ (λ (m : List ℕ) (k : ℕ). with_entries_from m k (drop n ds)) (put_all (take n ds) l (omega arith)) (omega arith)
    ∙ put-none (with_entries (take n ds) l) (length (take n ds)) (drop n ds) (omega (arith, with-entries-length (take n ds) l (omega arith)))

-- what is put leaves a list as long as it was
pub put-length : (l : List ℕ) (k : ℕ) (ds : List ℕ) → length (with_entries_from l k ds) ≡ length l
unfolding with_entries_from
put-length l k [] = refl
put-length l k (d ∷ ds) = put-length (with_entry l k d) (k + 1) ds ∙ with-entry-length l k d

-- entries copied to the front of another list
front-copied : (ds front l m : List ℕ) → front ≡ entries ds → m ≡ take (length front) front ++ drop (length front) l → m ≡ with_entries ds l
front-copied ds front l m e c =
    c ∙ ap₂ (λ (s : List ℕ) (k : ℕ). s ++ drop k l) (take-length front ∙ e) (ap length e ∙ entries-length ds)

pub copied-length : (front l m : List ℕ) → m ≡ take (length front) front ++ drop (length front) l → length front ≤ length l → length m ≡ length l
copied-length front l m c h = ap length c ∙ rw (take-length front) (simp (length-append, length-drop) (omega arith))

-- the days that were put, copied
pub copied_all :
    (ds before kept l m : List ℕ) →
    kept ≡ with_entries_from before 0 ds →
    length ds ≤ capacity before →
    m ≡ take (length (take (4 * length ds) kept)) (take (4 * length ds) kept) ++ drop (length (take (4 * length ds) kept)) l →
    m ≡ with_entries ds l
copied_all ds before kept l m e h c =
    front-copied ds (take (4 * length ds) kept) l m
    (ap (take (4 * length ds)) (e ∙ put_all ds before h) ∙ take_at (entries ds) (drop (4 * length ds) before) (4 * length ds) (entries-length ds))
    c

-- the first ones, where there was room for no more, copied, and the others put behind them
pub copied-and-put :
    (ds before kept l m m' : List ℕ) (n : ℕ) →
    kept ≡ with_entries_from before 0 ds →
    length before ≡ 4 * n →
    n ≤ length ds →
    length ds ≤ capacity l →
    m ≡ take (length kept) kept ++ drop (length kept) l →
    m' ≡ with_entries_from m n (drop n ds) →
    m' ≡ with_entries ds l
copied-and-put ds before kept l m m' n e size h f c p =
    let first : length (take n ds) ≡ n = length-take-le n ds h in
    let full : kept ≡ entries (take n ds) =
    e ∙ put_first ds before n h (omega arith) ∙ ap (λ (t : List ℕ). entries (take n ds) ++ t) (nothing-behind (4 * length (take n ds)) before (omega arith)) ∙ append-nil (entries (take n ds)) in
    p
    ∙ ap₂ (λ (t : List ℕ) (k : ℕ). with_entries_from t k (drop n ds)) (front-copied (take n ds) kept l m full c) (sym first)
    ∙ put-behind (take n ds) (drop n ds) l (omega (arith, length-drop n ds))
    ∙ ap (λ (t : List ℕ). with_entries t l) (take-append-drop n ds)
  where
    nothing-behind : (k : ℕ) (t : List ℕ) → k ≡ length t → drop k t ≡ []
    nothing-behind k t r = ap (λ (i : ℕ). drop i t) r ∙ drop-length t

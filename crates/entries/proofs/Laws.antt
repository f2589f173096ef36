-- The entries of a list of days: four bytes each, one more entry written behind those that are there, and what was
-- written read back; by the lengths of the parts. Assumes nothing.
use Prim.Native.Nat.{ℕ, zero, suc, ◌+◌, ◌*◌, ◌/◌, ◌%◌, ◌≤◌, ◌<◌}
use mathlib.Core.Path.{◌≡◌, refl, ap, ap₂, sym, ◌∙◌}
use mathlib.Core.Bool.{Bool, true, false, cond}
use mathlib.Core.List.{List, [], ◌∷◌, ◌++◌, append_assoc, append-nil}
use native.Mathlib.Omega.{arith}
use lib.Dec.{ltb}
use borrow.Author.Tests.{lt-ltb, ltb-true}
use lib.ListN.{length, get_or, take, drop, set, length-append, length-take, length-drop}
use lib.Seq.{take_at, drop_at, drop-drop}
use Rattle.std.specs.Prelude.{Ok}
use Rattle.entries.specs.Entries.{entry, entries, capacity, with_entry, with_entries, entry_day, entry_at}

pub entry_length : (d : ℕ) → length (entry d) ≡ 4
unfolding entry
entry_length d = refl

pub entries-length : (ds : List ℕ) → length (entries ds) ≡ 4 * length ds
unfolding entries
entries-length [] = refl
entries-length (d ∷ ds) = length-append (entry d) (entries ds) ∙ omega (arith, entry_length d, entries-length ds)

pub entries-snoc : (ds : List ℕ) (d : ℕ) → entries (ds ++ (d ∷ [])) ≡ entries ds ++ entry d
unfolding entries
entries-snoc [] d = append-nil (entry d)
entries-snoc (x ∷ ds) d = ap (λ (l : List ℕ). entry x ++ l) (entries-snoc ds d) ∙ sym (append_assoc (entry x) (entries ds) (entry d))

-- an entry, and the days' entries, leave a list as long as it was
pub with-entry-length : (l : List ℕ) (k d : ℕ) → length (with_entry l k d) ≡ length l
unfolding with_entry
with-entry-length l k d = go (ltb k (capacity l)) refl
  where
    go : (b : Bool) → ltb k (capacity l) ≡ b → length (cond b (take (4 * k) l ++ (entry d ++ drop (4 * k + 4) l)) l) ≡ length l
    go true e = simp (length-append, length-take, length-drop) (omega (arith, entry_length d, ltb-true k (capacity l) e))
    go false e = refl

pub with-entries-length : (ds l : List ℕ) → length ds ≤ capacity l → length (with_entries ds l) ≡ length l
with-entries-length ds l h = simp (length-append, length-drop) (omega (arith, entries-length ds))

-- the next entry, put behind those that are there
pub entries_next :
    (done : List ℕ) (d : ℕ) (m l : List ℕ) (i : ℕ) →
    length done ≡ i →
    i < capacity l →
    m ≡ entries done ++ drop (4 * i) l →
    with_entry m i d ≡ entries (done ++ (d ∷ [])) ++ drop (4 * (i + 1)) l
unfolding with_entry
entries_next done d m l i s h e =
    let n : length (entries done) ≡ 4 * i = omega (arith, entries-length done) in
    let front : take (4 * i) m ≡ entries done = ap (take (4 * i)) e ∙ take_at (entries done) (drop (4 * i) l) (4 * i) n in
    let four : 4 * i + 4 ≡ 4 * (i + 1) = omega arith in
    let back : drop (4 * i + 4) m ≡ drop (4 * (i + 1)) l =
    sym (drop-drop 4 (4 * i) m)
    ∙ ap (λ (t : List ℕ). drop 4 t) (ap (drop (4 * i)) e ∙ drop_at (entries done) (drop (4 * i) l) (4 * i) n)
    ∙ drop-drop 4 (4 * i) l
    ∙ ap (λ (k : ℕ). drop k l) four in
    let whole : length m ≡ length l = ap length e ∙ simp (length-append, length-drop) (omega arith) in
    rw (lt-ltb i (capacity m) (omega arith))
    (ap₂ (λ (a b : List ℕ). a ++ (entry d ++ b)) front back
    ∙ sym (append_assoc (entries done) (entry d) (drop (4 * (i + 1)) l))
    ∙ ap (λ (t : List ℕ). t ++ drop (4 * (i + 1)) l) (sym (entries-snoc done d)))

-- four bytes, put one after another
pub put_four :
    (i : ℕ) (l : List ℕ) (a b c d : ℕ) →
    i + 4 ≤ length l →
    set (set (set (set l i a) (i + 1) b) (i + 2) c) (i + 3) d ≡ take i l ++ (a ∷ b ∷ c ∷ d ∷ drop (i + 4) l)
put_four zero [] a b c d h = absurd (omega arith)
put_four zero (x ∷ []) a b c d h = absurd (omega arith)
put_four zero (x ∷ y ∷ []) a b c d h = absurd (omega arith)
put_four zero (x ∷ y ∷ z ∷ []) a b c d h = absurd (omega arith)
put_four zero (x ∷ y ∷ z ∷ w ∷ l) a b c d h = refl
put_four (suc i) [] a b c d h = absurd (omega arith)
put_four (suc i) (x ∷ l) a b c d h =
    let one : suc i + 1 ≡ suc (i + 1) = omega arith in
    let two : suc i + 2 ≡ suc (i + 2) = omega arith in
    let three : suc i + 3 ≡ suc (i + 3) = omega arith in
    let four : suc i + 4 ≡ suc (i + 4) = omega arith in
    rw (one, two, three, four) (ap (λ (t : List ℕ). x ∷ t) (put_four i l a b c d (omega arith)))

-- without days nothing is written
pub no-entries : (ds l : List ℕ) → length ds ≡ 0 → l ≡ with_entries ds l
unfolding entries
no-entries [] l e = refl
no-entries (d ∷ ds) l e = absurd (omega arith)

-- what was written is read back
four_bytes : (d : ℕ) → d < 4294967296 → d % 256 + 256 * (d / 256 % 256) + 65536 * (d / 65536 % 256) + 16777216 * (d / 16777216 % 256) ≡ d
four_bytes d s =
    let a : d / 65536 ≡ d / 256 / 256 = omega arith in
    let b : d / 16777216 ≡ d / 65536 / 256 = omega arith in
    let x : d / 256 ≡ 256 * (d / 65536) + d / 256 % 256 = omega (arith, a) in
    let y : d / 65536 ≡ 256 * (d / 16777216) + d / 65536 % 256 = omega (arith, b) in
    let z : d / 16777216 % 256 ≡ d / 16777216 = omega arith in
    omega (arith, x, y, z)

later : (d : ℕ) (l : List ℕ) (k : ℕ) → entry_day (entry d ++ l) (suc k) ≡ entry_day l k
unfolding entry_day entry
later d l k =
    let z : 4 * suc k ≡ suc (suc (suc (suc (4 * k)))) = omega arith in
    let o : 4 * suc k + 1 ≡ suc (suc (suc (suc (4 * k + 1)))) = omega arith in
    let t : 4 * suc k + 2 ≡ suc (suc (suc (suc (4 * k + 2)))) = omega arith in
    let h : 4 * suc k + 3 ≡ suc (suc (suc (suc (4 * k + 3)))) = omega arith in
    rw (o, t, h, z)

pub read-entry : (ds l : List ℕ) (k : ℕ) → k < length ds → get_or ds k 0 < 4294967296 → entry_day (entries ds ++ l) k ≡ get_or ds k 0
unfolding entries
read-entry [] l k h s = absurd (omega arith)
read-entry (d ∷ ds) l zero h s = unfold entry_day entry in four_bytes d s
read-entry (d ∷ ds) l (suc k) h s =
    ap (λ (t : List ℕ). entry_day t (suc k)) (append_assoc (entry d) (entries ds) l) ∙ later d (entries ds ++ l) k ∙ read-entry ds l k (omega arith) s

pub entries-read :
    (ds l : List ℕ) (k : ℕ) → length ds ≤ capacity l → k < length ds → get_or ds k 0 < 4294967296 → entry_at (with_entries ds l) k ≡ Ok (get_or ds k 0)
unfolding entry_at
entries-read ds l k fits h s =
    let whole = with-entries-length ds l fits in
    rw (lt-ltb k (capacity (with_entries ds l)) (omega arith), read-entry ds (drop (4 * length ds) l) k h s)

-- What paper 02 says of almanac files: what is written is read back, exactly the days of the span; a file that is read
-- has the bytes that writing its days gives, so that nothing else passes; and a file that is read is refused where one
-- byte is another. Block by block, by the laws of a block.
-- Assumes nothing.
use Prim.Native.Nat.{ℕ, zero, suc, ◌+◌, ◌-◌, ◌*◌, ◌/◌, ◌%◌, ◌≤◌, ◌<◌}
use mathlib.Core.Path.{◌≡◌, refl, ap, ap₂, sym, ◌∙◌}
use mathlib.Core.Bool.{true≢false}
use mathlib.Core.List.{List, [], ◌∷◌, ◌++◌}
use native.Mathlib.Omega.{arith}
use native.Mathlib.Decide.{dec_le}
use lib.ListN.{length, get_or, take, drop, set, take-append-drop, length-take, length-drop, length-set, get_or-append, get_or-eq_default}
use lib.Seq.{take_at, drop_at, get_or-take, get_or-drop, take-set-lt, drop-set-add, length-take-le}
use borrow.Author.Tests.{le-leb, eq-eqb}
use Rattle.entries.specs.Entries.{entry_day}
use Rattle.blocks.specs.Blocks.{days_in, block_of, block_refusal, checksum_holds}
use Rattle.blocks.proofs.Laying.{block-long}
use Rattle.blocks.proofs.Laws.{Sound, sound, Bytes, held_first, only-block, put-sound, change-found}
use Rattle.std.specs.Prelude.{Result, Ok, Err}
use Rattle.days.specs.declared.refusal.Refusal.{Refusal}
use Rattle.days.specs.Refusals.{and_then}
use Rattle.almanac.specs.declared.Reading.{Reading}
use Rattle.almanac.specs.Files.{blocks_for, blocks_from, almanac_of}
use Rattle.almanac.specs.Reading.{the_days, count_in, first_in, length_holds, first_bad, days_unless, reading_of}
use Rattle.almanac.proofs.Writing.{blocks-length}
use Rattle.almanac.proofs.Answers.{Whole, whole, good-block}

entry-left : (b rest : List ℕ) (k : ℕ) → 4 * k + 3 < length b → entry_day (b ++ rest) k ≡ entry_day b k
unfolding entry_day
entry-left b rest k h =
    rw (
      get_or-append b rest 0 (4 * k) (omega arith),
      get_or-append b rest 0 (4 * k + 1) (omega arith),
      get_or-append b rest 0 (4 * k + 2) (omega arith),
      get_or-append b rest 0 (4 * k + 3) (omega arith),
    )

some_in : (n : ℕ) → 1 ≤ n → 1 ≤ days_in n 0
unfolding days_in
some_in n h = omega arith

module _ (first count : ℕ) (some : 1 ≤ count) (fits : first + count ≤ 401600) where
  none-bad : (i k : ℕ) → i + k ≤ blocks_for count → first_bad first count i k (blocks_from first count i k) ≡ Ok tt
  unfolding first_bad blocks_from
  none-bad i zero h = refl
  none-bad i (suc k) h =
      let here : take 512 (block_of first count i ++ blocks_from first count (suc i) k) ≡ block_of first count i = take_at (block_of first count i) (blocks_from first count (suc i) k) 512 (block-long first count i) in
      let rest : drop 512 (block_of first count i ++ blocks_from first count (suc i) k) ≡ blocks_from first count (suc i) k = drop_at (block_of first count i) (blocks_from first count (suc i) k) 512 (block-long first count i) in
      let good : block_refusal first count i (take 512 (block_of first count i ++ blocks_from first count (suc i) k)) ≡ Ok tt = ap (block_refusal first count i) here ∙ put-sound first count i fits (omega arith) in
      ap₂ (λ (r : Result (Unit {0}) Refusal) (l : List ℕ). and_then r (λ _. first_bad first count (suc i) k l)) good rest ∙ none-bad (suc i) k (omega arith)

  first-sound : Sound first count 0 (block_of first count 0)
  first-sound = sound first count 0 (block_of first count 0) (put-sound first count 0 fits (omega arith))

  file-starts : almanac_of first count ≡ block_of first count 0 ++ blocks_from first count 1 (blocks_for count - 1)
  unfolding almanac_of blocks_from
  file-starts = let one : blocks_for count ≡ suc (blocks_for count - 1) = omega arith in ap (blocks_from first count 0) one

  file-long : length (almanac_of first count) ≡ 512 * blocks_for count
  unfolding almanac_of
  file-long = blocks-length first count 0 (blocks_for count)

  count-back : count_in (almanac_of first count) ≡ count
  count-back =
      ap (λ (f : List ℕ). entry_day f 1) file-starts
      ∙ entry-left (block_of first count 0) (blocks_from first count 1 (blocks_for count - 1)) 1 (omega (arith, block-long first count 0))
      ∙ first-sound.count-is

  first_back : first_in (almanac_of first count) ≡ first
  first_back =
      ap (λ (f : List ℕ). entry_day f 2) file-starts
      ∙ entry-left (block_of first count 0) (blocks_from first count 1 (blocks_for count - 1)) 2 (omega (arith, block-long first count 0))
      ∙ held_first (block_of first count 0) (first + 9 * 0) (days_in count 0) first-sound.held (some_in count some)
      ∙ omega arith

  file-good : first_bad first count 0 (blocks_for count) (almanac_of first count) ≡ Ok tt
  unfolding almanac_of
  file-good = none-bad 0 (blocks_for count) (omega arith)

  -- WHAT IS WRITTEN IS READ BACK
  pub written_read : reading_of (almanac_of first count) ≡ the_days first count
  unfolding reading_of length_holds days_unless
  written_read =
      rw (
        first_back,
        count-back,
        le-leb 512 (length (almanac_of first count)) (omega (arith, file-long)),
        eq-eqb (length (almanac_of first count)) (512 * blocks_for count) file-long,
        file-good,
      )

-- bytes of a part are bytes
bytes-front : (n : ℕ) (f : List ℕ) → Bytes f → Bytes (take n f)
bytes-front n f u i = go (dec_le (suc i) n)
  where
    go : Dec (suc i ≤ n) → get_or (take n f) i 0 < 256
    go (yes h) = omega (arith, get_or-take n f i 0 h, u i)
    go (no h) = omega (arith, get_or-eq_default (take n f) 0 {n = i} (omega (arith, length-take n f)))

bytes-behind : (n : ℕ) (f : List ℕ) → Bytes f → Bytes (drop n f)
bytes-behind n f u i = omega (arith, get_or-drop n f i 0, u (n + i))

all-written : (first count i k : ℕ) (f : List ℕ) → Bytes f → length f ≡ 512 * k → first_bad first count i k f ≡ Ok tt → f ≡ blocks_from first count i k
unfolding first_bad blocks_from
all-written first count i zero [] u l e = refl
all-written first count i zero (x ∷ f) u l e = absurd (omega arith)
all-written first count i (suc k) f u l e = go (block_refusal first count i (take 512 f)) refl e (all-written first count (suc i) k (drop 512 f) (bytes-behind 512 f u) (omega (arith, length-drop 512 f)))
  where
    go :
        (t : Result (Unit {0}) Refusal) →
        block_refusal first count i (take 512 f) ≡ t →
        and_then t (λ _. first_bad first count (suc i) k (drop 512 f)) ≡ Ok tt →
        (first_bad first count (suc i) k (drop 512 f) ≡ Ok tt → drop 512 f ≡ blocks_from first count (suc i) k) →
        f ≡ block_of first count i ++ blocks_from first count (suc i) k
    go (Ok tt) t e deeper =
        let s : Sound first count i (take 512 f) = sound first count i (take 512 f) t in
        sym (take-append-drop 512 f) ∙ ap₂ ◌++◌ (only-block first count i (take 512 f) (bytes-front 512 f u) (length-take-le 512 f (omega arith)) s) (deeper e)
    go (Err r) t e deeper = absurd cc

-- NOTHING ELSE PASSES: a file that is read is the one that writing its days gives
pub read-written : (f : List ℕ) {r : Reading} → Bytes f → Ok r ≡ reading_of f → f ≡ almanac_of (first_in f) (count_in f)
unfolding almanac_of
read-written f u e =
    let w : Whole f = whole f e in
    all-written (first_in f) (count_in f) 0 (blocks_for (count_in f)) f u w.length-is w.none-bad

-- A CHANGED BYTE IS REFUSED, wherever it stands
pub change-refused : (f : List ℕ) (p v : ℕ) {r r' : Reading} → p < length f → (v ≡ get_or f p 0 → ⊥) → Ok r ≡ reading_of f → Ok r' ≡ reading_of (set f p v) → ⊥
change-refused f p v h n e e' =
    let w : Whole f = whole f e in
    let w' : Whole (set f p v) = whole (set f p v) e' in
    let j : ℕ = p / 512 in
    let q : ℕ = p % 512 in
    let at : p ≡ 512 * j + q = omega arith in
    let b : List ℕ = take 512 (drop (512 * j) f) in
    let long : length b ≡ 512 = length-take-le 512 (drop (512 * j) f) (omega (arith, length-drop (512 * j) f, w.length-is)) in
    let same : take 512 (drop (512 * j) (set f p v)) ≡ set b q v =
    ap (λ (i : ℕ). take 512 (drop (512 * j) (set f i v))) at ∙ ap (take 512) (drop-set-add (512 * j) f q v) ∙ take-set-lt 512 (drop (512 * j) f) q v (omega arith) in
    let old : get_or b q 0 ≡ get_or f p 0 = get_or-take 512 (drop (512 * j) f) q 0 (omega arith) ∙ get_or-drop (512 * j) f q 0 ∙ ap (λ (i : ℕ). get_or f i 0) (sym at) in
    let s : Sound (first_in f) (count_in f) j b = sound (first_in f) (count_in f) j b (good-block (first_in f) (count_in f) (blocks_for (count_in f)) f w.none-bad j (omega (arith, w.length-is))) in
    let s' : Sound (first_in (set f p v)) (count_in (set f p v)) j (take 512 (drop (512 * j) (set f p v))) =
    sound (first_in (set f p v)) (count_in (set f p v)) j (take 512 (drop (512 * j) (set f p v)))
    (good-block (first_in (set f p v)) (count_in (set f p v)) (blocks_for (count_in (set f p v))) (set f p v) w'.none-bad j (omega (arith, w'.length-is, length-set f p v))) in
    true≢false (sym s'.summed ∙ ap checksum_holds same ∙ change-found b q v long (omega arith) (λ z. n (z ∙ old)) s.summed)

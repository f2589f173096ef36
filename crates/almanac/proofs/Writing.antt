-- The blocks of a file put one after another: after each the bytes are the blocks so far, and behind them what was
-- there.
-- Assumes nothing.
use Prim.Native.Nat.{ℕ, zero, suc, ◌+◌, ◌-◌, ◌*◌, ◌≤◌, ◌<◌}
use mathlib.Core.Path.{◌≡◌, refl, ap, ap₂, sym, ◌∙◌}
use mathlib.Core.List.{List, [], ◌++◌, append_assoc, append-nil}
use native.Mathlib.Omega.{arith}
use native.Mathlib.Numerals.{add-one}
use lib.ListN.{length, take, drop, length-append, length-drop, drop_of_length-le}
use lib.Seq.{take_at, take_all, drop_at, drop-drop}
use Rattle.blocks.specs.Blocks.{block_of, block_after}
use Rattle.blocks.proofs.Laying.{block-long}
use Rattle.blocks.proofs.Answers.{is-put}
use Rattle.almanac.specs.Files.{blocks_for, blocks_from, almanac_of}
use Rattle.almanac.specs.Parts.{with_file}

blocks-snoc : (first count i k : ℕ) → blocks_from first count i (suc k) ≡ blocks_from first count i k ++ block_of first count (i + k)
unfolding blocks_from
blocks-snoc first count i zero = let here : i ≡ i + 0 = omega arith in append-nil (block_of first count i) ∙ ap (block_of first count) here
blocks-snoc first count i (suc k) =
    let at : suc i + k ≡ i + suc k = omega arith in
    ap (λ (t : List ℕ). block_of first count i ++ t) (blocks-snoc first count (suc i) k ∙ ap (λ (j : ℕ). blocks_from first count (suc i) k ++ block_of first count j) at)
    ∙ sym (append_assoc (block_of first count i) (blocks_from first count (suc i) k) (block_of first count (i + suc k)))

pub blocks-length : (first count i k : ℕ) → length (blocks_from first count i k) ≡ 512 * k
unfolding blocks_from
blocks-length first count i zero = refl
blocks-length first count i (suc k) =
    length-append (block_of first count i) (blocks_from first count (suc i) k) ∙ omega (arith, block-long first count i, blocks-length first count (suc i) k)

one_more : (first count i : ℕ) → blocks_from first count 0 (i + 1) ≡ blocks_from first count 0 i ++ block_of first count i
one_more first count i =
    let here : 0 + i ≡ i = omega arith in
    ap (blocks_from first count 0) (add-one i) ∙ blocks-snoc first count 0 i ∙ ap (λ (j : ℕ). blocks_from first count 0 i ++ block_of first count j) here

-- the first i blocks of a file, and behind them what was there
abbrev pub Written : ℕ → ℕ → List ℕ → List ℕ → ℕ → Type 0
Written first count l₀ l i = l ≡ blocks_from first count 0 i ++ drop (512 * i) l₀

pub written_start : (first count : ℕ) (l : List ℕ) → Written first count l l 0
unfolding blocks_from
written_start first count l = refl

module _ (first count : ℕ) (l₀ : List ℕ) (fits : first + count ≤ 401600) (room : 512 * blocks_for count ≤ length l₀) where
  -- one block more, put behind them
  pub written_next :
      (l p m : List ℕ) (i : ℕ) →
      i < blocks_for count →
      Written first count l₀ l i →
      p ≡ block_after first count i (drop (512 * i) l) →
      m ≡ take (512 * i) l ++ p →
      Written first count l₀ m (i + 1)
  written_next l p m i h w e g =
      let front : take (512 * i) l ≡ blocks_from first count 0 i = ap (take (512 * i)) w ∙ take_at (blocks_from first count 0 i) (drop (512 * i) l₀) (512 * i) (blocks-length first count 0 i) in
      let back : drop (512 * i) l ≡ drop (512 * i) l₀ = ap (drop (512 * i)) w ∙ drop_at (blocks_from first count 0 i) (drop (512 * i) l₀) (512 * i) (blocks-length first count 0 i) in
      let put : block_after first count i (drop (512 * i) l₀) ≡ block_of first count i ++ drop 512 (drop (512 * i) l₀) =
      sym (is-put first count i (drop (512 * i) l₀) (block_of first count i ++ drop 512 (drop (512 * i) l₀)) (omega (arith, length-drop (512 * i) l₀)) fits (omega arith) refl) in
      let at : 512 * i + 512 ≡ 512 * (i + 1) = omega arith in
      g
      ∙ ap₂ ◌++◌ front (e ∙ ap (block_after first count i) back ∙ put ∙ ap (λ (t : List ℕ). block_of first count i ++ t) (drop-drop 512 (512 * i) l₀ ∙ ap (λ (k : ℕ). drop k l₀) at))
      ∙ sym (append_assoc (blocks_from first count 0 i) (block_of first count i) (drop (512 * (i + 1)) l₀))
      ∙ ap (λ (t : List ℕ). t ++ drop (512 * (i + 1)) l₀) (sym (one_more first count i))

  pub written-length : (l : List ℕ) (i : ℕ) → i ≤ blocks_for count → Written first count l₀ l i → length l ≡ length l₀
  written-length l i h w =
      ap length w ∙ length-append (blocks_from first count 0 i) (drop (512 * i) l₀) ∙ omega (arith, blocks-length first count 0 i, length-drop (512 * i) l₀)

  pub written-end : (l : List ℕ) (i : ℕ) → i ≤ blocks_for count → blocks_for count ≤ i → Written first count l₀ l i → l ≡ with_file first count l₀
  unfolding almanac_of
  written-end l i h k w = let all : i ≡ blocks_for count = omega arith in w ∙ ap (λ (j : ℕ). blocks_from first count 0 j ++ drop (512 * j) l₀) all

  -- the same, where the rest of the bytes was lent
  pub written-lent :
      (l p : List ℕ) (i : ℕ) →
      i < blocks_for count →
      Written first count l₀ l i →
      p ≡ block_after first count i (take (length l - 512 * i) (drop (512 * i) l)) →
      Written first count l₀ (take (512 * i) l ++ (p ++ drop (length l - 512 * i) (drop (512 * i) l))) (i + 1)
  written-lent l p i h w e =
      let long : length l ≡ length l₀ = written-length l i (omega arith) w in
      let all : take (length l - 512 * i) (drop (512 * i) l) ≡ drop (512 * i) l = take_all (length l - 512 * i) (drop (512 * i) l) (omega (arith, length-drop (512 * i) l)) in
      let none : drop (length l - 512 * i) (drop (512 * i) l) ≡ [] = drop_of_length-le (drop (512 * i) l) {i = length l - 512 * i} (omega (arith, length-drop (512 * i) l)) in
      written_next l p (take (512 * i) l ++ (p ++ drop (length l - 512 * i) (drop (512 * i) l))) i h w (e ∙ ap (block_after first count i) all)
      (ap (λ (t : List ℕ). take (512 * i) l ++ (p ++ t)) none ∙ ap (λ (t : List ℕ). take (512 * i) l ++ t) (append-nil p))

-- one block, where there is one and room for it
pub after_is : (first count index : ℕ) (l : List ℕ) → first + count ≤ 401600 → index < blocks_for count → 512 ≤ length l → block_after first count index l ≡ block_of first count index ++ drop 512 l
after_is first count index l f i h = sym (is-put first count index l (block_of first count index ++ drop 512 l) h f (omega arith) refl)

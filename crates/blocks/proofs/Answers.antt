-- What is answered, case by case: a block that is put or not, and why a block is refused.
-- Assumes nothing.
use Prim.Native.Nat.{ℕ, ◌+◌, ◌-◌, ◌*◌, ◌≤◌, ◌<◌}
use mathlib.Core.Path.{◌≡◌, ap, sym, ◌∙◌}
use mathlib.Core.Bool.{Bool, true, false, ◌&&◌}
use mathlib.Core.List.{List, ◌++◌}
use native.Mathlib.Omega.{arith}
use native.Mathlib.Decide.{dec_le}
use lib.Dec.{leb, ltb}
use lib.ListN.{length, take, drop}
use borrow.Author.Tests.{le-leb, lt-leb, lt-ltb, le-ltb, eq-eqb, ne_eqb}
use Rattle.std.specs.Prelude.{Ok, Err}
use Rattle.days.specs.declared.refusal.Refusal.TheVariants.{BadLength, BadChecksum, BadIndex, NotZero, BadDay}
use Rattle.entries.specs.Entries.{entry_day}
use Rattle.blocks.specs.Blocks.{block_of, is_block, block_after, checksum, days_in, all_zero, days_hold, checksum_holds, block_refusal}

pub no_block : (first count index : ℕ) → (first + count ≤ 401600 → 9 * index < count → ⊥) → is_block first count index ≡ false
unfolding is_block
no_block first count index h = go (dec_le (first + count) 401600)
  where
    go : Dec (first + count ≤ 401600) → (leb (first + count) 401600 && ltb (9 * index) count) ≡ false
    go (yes k) = rw (le-leb _ _ k, le-ltb (9 * index) count (omega (arith, h k)))
    go (no k) = rw (lt-leb (first + count) 401600 (omega arith))

pub a_block : (first count index : ℕ) → first + count ≤ 401600 → 9 * index < count → is_block first count index ≡ true
unfolding is_block
a_block first count index h k = rw (le-leb _ _ h, lt-ltb _ _ k)

-- whether there are days in a block, and that they are within the file's
pub some-days : (count index n : ℕ) → n ≡ days_in count index → (n ≡ 0 → ⊥) → 9 * index < count
unfolding days_in
some-days count index n e h = go (dec_le count (9 * index))
  where
    go : Dec (count ≤ 9 * index) → 9 * index < count
    go (yes k) = absurd (h (e ∙ omega arith))
    go (no k) = omega arith

pub no-days : (count index n : ℕ) → n ≡ days_in count index → n ≡ 0 → 9 * index < count → ⊥
unfolding days_in
no-days count index n e z k = omega arith

pub days-fit : (first count index n : ℕ) → n ≡ days_in count index → 9 * index < count → first + count ≤ 401600 → first + 9 * index + n ≤ 401600
unfolding days_in
days-fit first count index n e k h = omega arith

module _ (first count index : ℕ) (l : List ℕ) where
  pub no_room : length l < 512 → l ≡ block_after first count index l
  unfolding block_after
  no_room h = rw (lt-leb 512 (length l) h)

  pub not-put : 512 ≤ length l → (first + count ≤ 401600 → 9 * index < count → ⊥) → l ≡ block_after first count index l
  unfolding block_after
  not-put h k = rw (le-leb 512 (length l) h, no_block first count index k)

  pub is-put : (m : List ℕ) → 512 ≤ length l → first + count ≤ 401600 → 9 * index < count → m ≡ block_of first count index ++ drop 512 l → m ≡ block_after first count index l
  unfolding block_after
  is-put m h k i e = e ∙ rw (le-leb 512 (length l) h, a_block first count index k i)

-- a test of so many days, as many as stand in the block
pub zeros-are : (b : List ℕ) (count index n : ℕ) (t v : Bool) → n ≡ days_in count index → t ≡ all_zero (take (508 - (8 + 52 * n)) (drop (8 + 52 * n) b)) → t ≡ v → all_zero (take (508 - (8 + 52 * days_in count index)) (drop (8 + 52 * days_in count index) b)) ≡ v
zeros-are b count index n t v d e f = sym (e ∙ ap (λ (m : ℕ). all_zero (take (508 - (8 + 52 * m)) (drop (8 + 52 * m) b))) d) ∙ f

pub days-are : (b : List ℕ) (day count index n : ℕ) (t v : Bool) → n ≡ days_in count index → t ≡ days_hold b 0 day n → t ≡ v → days_hold b 0 day (days_in count index) ≡ v
days-are b day count index n t v d e f = sym (e ∙ ap (days_hold b 0 day) d) ∙ f

module _ (first count index : ℕ) (b : List ℕ) where
  pub short-block : length b < 512 → Err BadLength ≡ block_refusal first count index b
  unfolding block_refusal
  short-block h = rw (lt-leb 512 (length b) h)

  module _ (h : 512 ≤ length b) where
    pub bad-checksum : (entry_day b 127 ≡ checksum (take 508 b) → ⊥) → Err BadChecksum ≡ block_refusal first count index b
    unfolding block_refusal checksum_holds
    bad-checksum k = rw (le-leb 512 (length b) h, ne_eqb _ _ k)

    module _ (k : entry_day b 127 ≡ checksum (take 508 b)) where
      pub bad-index : (entry_day b 0 ≡ index → ⊥) → Err BadIndex ≡ block_refusal first count index b
      unfolding block_refusal checksum_holds
      bad-index i = rw (le-leb 512 (length b) h, eq-eqb _ _ k, ne_eqb _ _ i)

      module _ (i : entry_day b 0 ≡ index) where
        pub bad-count : (entry_day b 1 ≡ count → ⊥) → Err BadIndex ≡ block_refusal first count index b
        unfolding block_refusal checksum_holds
        bad-count n = rw (le-leb 512 (length b) h, eq-eqb _ _ k, eq-eqb _ _ i, ne_eqb _ _ n)

        module _ (n : entry_day b 1 ≡ count) where
          pub not_zeros : all_zero (take (508 - (8 + 52 * days_in count index)) (drop (8 + 52 * days_in count index) b)) ≡ false → Err NotZero ≡ block_refusal first count index b
          unfolding block_refusal checksum_holds
          not_zeros z = rw (le-leb 512 (length b) h, eq-eqb _ _ k, eq-eqb _ _ i, eq-eqb _ _ n, z)

          module _ (z : all_zero (take (508 - (8 + 52 * days_in count index)) (drop (8 + 52 * days_in count index) b)) ≡ true) where
            pub bad-days : days_hold b 0 (first + 9 * index) (days_in count index) ≡ false → Err BadDay ≡ block_refusal first count index b
            unfolding block_refusal checksum_holds
            bad-days d = rw (le-leb 512 (length b) h, eq-eqb _ _ k, eq-eqb _ _ i, eq-eqb _ _ n, z, d)

            pub good-block : days_hold b 0 (first + 9 * index) (days_in count index) ≡ true → Ok tt ≡ block_refusal first count index b
            unfolding block_refusal checksum_holds
            good-block d = rw (le-leb 512 (length b) h, eq-eqb _ _ k, eq-eqb _ _ i, eq-eqb _ _ n, z, d)

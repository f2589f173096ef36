-- THE LAW OF READING BLOCK BY BLOCK: what is said after all pieces of a file is what the file means. By induction on
-- the pieces that are left: they are as many whole blocks as the count still demands, or the length is wrong.
-- Assumes nothing.
use Prim.Native.Nat.{ℕ, zero, suc, ◌+◌, ◌-◌, ◌*◌, ◌≤◌, ◌<◌, min}
use mathlib.Core.Path.{◌≡◌, refl, ap, ap₂, sym, ◌∙◌}
use mathlib.Core.Bool.{Bool, true, false, cond, ◌&&◌}
use mathlib.Core.List.{List, ◌++◌}
use native.Mathlib.Omega.{arith}
use native.Mathlib.Decide.{dec_le}
use lib.Dec.{ltb, eqb}
use lib.ListN.{length, take, drop, length-append, length-take, length-drop, drop_of_length-le}
use lib.Seq.{get_or-take, length-take-le, take_all, take_at, drop_at}
use borrow.Author.Tests.{le-leb, lt-leb, lt-ltb, le-ltb, eq-eqb, ne_eqb, eqb-true, eqb-false}
use Rattle.std.specs.Prelude.{Result, Ok, Err}
use Rattle.days.specs.declared.refusal.Refusal.{Refusal}
use Rattle.days.specs.declared.refusal.Refusal.TheVariants.{BadLength}
use Rattle.days.specs.Refusals.{and_then}
use Rattle.entries.specs.Entries.{entry_day}
use Rattle.blocks.specs.Blocks.{block_refusal}
use Rattle.almanac.specs.declared.Reader.{Reader}
use Rattle.almanac.specs.declared.Reading.{Reading}
use Rattle.almanac.specs.Files.{blocks_for}
use Rattle.almanac.specs.Reading.{no_days, count_in, first_in, length_holds, first_bad, days_unless, reading_of, start, opened, taken, broken_off, next, ended, through, pieces, gone_through}

-- tests that agree
eqb_same : (a b c d : ℕ) → (a ≡ b → c ≡ d) → (c ≡ d → a ≡ b) → eqb a b ≡ eqb c d
eqb_same a b c d f g = go (eqb a b) refl
  where
    go : (t : Bool) → eqb a b ≡ t → t ≡ eqb c d
    go true e = sym (eq-eqb c d (f (eqb-true a b e)))
    go false e = sym (ne_eqb c d (λ k. eqb-false a b e (g k)))

-- a broken state stays so
stays-broken : (k : ℕ) (r : Reader) (f : List ℕ) → r.broken ≡ true → ended (through r k f) ≡ no_days BadLength
unfolding through next ended
stays-broken zero r f e = rw e
stays-broken (suc k) r f e = stays-broken k (next r (take 512 f)) (drop 512 f) (rw e)

-- the next piece, case by case
module _ (r : Reader) (b : List ℕ) (u : r.broken ≡ false) where
  by-test : (t : Bool) → (eqb (length b) 512 && ltb (opened r b).blocks (blocks_for (opened r b).count)) ≡ t → next r b ≡ cond t (taken (opened r b) b) (broken_off r)
  unfolding next
  by-test t e = ap₂ (λ (s v : Bool). cond s r (cond v (taken (opened r b) b) (broken_off r))) u e

  pub no_block : (length b ≡ 512 → ⊥) → next r b ≡ broken_off r
  no_block h = by-test false (ap (λ (v : Bool). v && ltb (opened r b).blocks (blocks_for (opened r b).count)) (ne_eqb (length b) 512 h))

  pub too_many : length b ≡ 512 → blocks_for (opened r b).count ≤ (opened r b).blocks → next r b ≡ broken_off r
  too_many h k = by-test false (ap₂ ◌&&◌ (eq-eqb (length b) 512 h) (le-ltb (opened r b).blocks (blocks_for (opened r b).count) k))

  pub one_more : length b ≡ 512 → (opened r b).blocks < blocks_for (opened r b).count → next r b ≡ taken (opened r b) b
  one_more h k = by-test true (ap₂ ◌&&◌ (eq-eqb (length b) 512 h) (lt-ltb (opened r b).blocks (blocks_for (opened r b).count) k))

pub opened-before : (r : Reader) (b : List ℕ) → (r.blocks ≡ 0 → ⊥) → opened r b ≡ r
unfolding opened
opened-before r b h = rw (ne_eqb r.blocks 0 h)

pub next-broken : (r : Reader) (b : List ℕ) → r.broken ≡ true → next r b ≡ r
unfolding next
next-broken r b u = rw u

module _ (r : Reader) (b : List ℕ) (u : r.broken ≡ false) (h : length b ≡ 512) (o : Reader) (k : ℕ) (e : o ≡ opened r b) (f : k ≡ blocks_for o.count) where
  pub no-more-due : k ≤ o.blocks → next r b ≡ broken_off r
  no-more-due l = too_many r b u h (omega (arith, f, ap (λ (x : Reader). x.blocks) e, ap (λ (x : Reader). blocks_for x.count) e))

  pub one-due : o.blocks < k → next r b ≡ taken o b
  one-due l = one_more r b u h (omega (arith, f, ap (λ (x : Reader). x.blocks) e, ap (λ (x : Reader). blocks_for x.count) e)) ∙ ap (λ (x : Reader). taken x b) (sym e)

-- the refusal of the first bad block, where one may have been bad before
unfoldable bad_after : Result (Unit {0}) Refusal → ℕ → ℕ → ℕ → ℕ → List ℕ → Result (Unit {0}) Refusal
bad_after sound first count index k f = and_then sound (λ _. first_bad first count index k f)

-- what is said at the end, after a state and so many blocks that the count still demands
unfoldable outcome : Reader → List ℕ → Result Reading Refusal
outcome r f =
    let left : ℕ = blocks_for r.count - r.blocks in
    cond (eqb (length f) (512 * left)) (days_unless (bad_after r.sound r.first r.count r.blocks left f) r.first r.count) (no_days BadLength)

bad-none : (sound : Result (Unit {0}) Refusal) (first count index : ℕ) (f : List ℕ) → bad_after sound first count index 0 f ≡ sound
unfolding bad_after first_bad
bad-none (Ok tt) first count index f = refl
bad-none (Err r) first count index f = refl

bad-step :
    (sound : Result (Unit {0}) Refusal) (first count index k : ℕ) (f : List ℕ) →
    bad_after (and_then sound (λ _. block_refusal first count index (take 512 f))) first count (index + 1) k (drop 512 f) ≡ bad_after sound first count index (suc k) f
unfolding bad_after first_bad
bad-step (Ok tt) first count index k f =
    let one : index + 1 ≡ suc index = omega arith in
    ap (λ (i : ℕ). and_then (block_refusal first count index (take 512 f)) (λ _. first_bad first count i k (drop 512 f))) one
bad-step (Err r) first count index k f = refl

-- one block more: what is said of the rest
outcome-step : (r : Reader) (f : List ℕ) → 512 ≤ length f → r.blocks < blocks_for r.count → outcome (taken r (take 512 f)) (drop 512 f) ≡ outcome r f
unfolding outcome taken
outcome-step r f h k =
    let K : ℕ = blocks_for r.count in
    let left : K - r.blocks ≡ suc (K - (r.blocks + 1)) = omega arith in
    let same : eqb (length (drop 512 f)) (512 * (K - (r.blocks + 1))) ≡ eqb (length f) (512 * (K - r.blocks)) =
    eqb_same (length (drop 512 f)) (512 * (K - (r.blocks + 1))) (length f) (512 * (K - r.blocks)) (λ e. omega (arith, length-drop 512 f)) (λ e. omega (arith, length-drop 512 f)) in
    let bad : bad_after (and_then r.sound (λ _. block_refusal r.first r.count r.blocks (take 512 f))) r.first r.count (r.blocks + 1) (K - (r.blocks + 1)) (drop 512 f)
    ≡ bad_after r.sound r.first r.count r.blocks (K - r.blocks) f =
    bad-step r.sound r.first r.count r.blocks (K - (r.blocks + 1)) f
    ∙ ap (λ (m : ℕ). bad_after r.sound r.first r.count r.blocks m f) (sym left) in
    ap₂ (λ (t : Bool) (x : Result (Unit {0}) Refusal). cond t (days_unless x r.first r.count) (no_days BadLength)) same bad

-- from the first block on
record Going (r : Reader) : Type 0 where
  unbroken : r.broken ≡ false
  begun : 1 ≤ r.blocks
  within : r.blocks ≤ blocks_for r.count

taken-goes : (s : Reader) (b : List ℕ) → s.broken ≡ false → s.blocks < blocks_for s.count → Going (taken s b)
unfolding taken
taken-goes s b u m = record { unbroken = u; begun = omega arith; within = omega arith }

outcome-off : (r : Reader) (f : List ℕ) → (length f ≡ 512 * (blocks_for r.count - r.blocks) → ⊥) → outcome r f ≡ no_days BadLength
unfolding outcome
outcome-off r f h = rw (ne_eqb (length f) (512 * (blocks_for r.count - r.blocks)) h)

ended-there : (r : Reader) (f : List ℕ) → Going r → length f ≡ 0 → ended r ≡ outcome r f
unfolding ended outcome
ended-there r f g h = go (dec_le (blocks_for r.count) r.blocks)
  where
    go : Dec (blocks_for r.count ≤ r.blocks) → ended r ≡ outcome r f
    go (yes k) =
        let none : blocks_for r.count - r.blocks ≡ 0 = omega arith in
        rw (g.unbroken, ne_eqb r.blocks 0 (λ z. omega (arith, g.begun)), eq-eqb r.blocks (blocks_for r.count) (omega (arith, g.within)), none, eq-eqb (length f) 0 h, bad-none r.sound r.first r.count r.blocks f)
    go (no k) =
        rw (
          g.unbroken,
          ne_eqb r.blocks 0 (λ z. omega (arith, g.begun)),
          ne_eqb r.blocks (blocks_for r.count) (λ z. omega arith),
          ne_eqb (length f) (512 * (blocks_for r.count - r.blocks)) (λ z. omega arith),
        )

finish : (k : ℕ) (r : Reader) (f : List ℕ) → pieces (length f) ≡ k → Going r → ended (through r k f) ≡ outcome r f
unfolding through
finish zero r f p g = ended-there r f g (omega arith)
finish (suc k) r f p g = go (finish k (taken r (take 512 f)) (drop 512 f)) (dec_le 512 (length f)) (dec_le (blocks_for r.count) r.blocks)
  where
    old : opened r (take 512 f) ≡ r
    old = opened-before r (take 512 f) (λ z. omega (arith, g.begun))

    off : next r (take 512 f) ≡ broken_off r → (length f ≡ 512 * (blocks_for r.count - r.blocks) → ⊥) → ended (through (next r (take 512 f)) k (drop 512 f)) ≡ outcome r f
    off e h = ap (λ (s : Reader). ended (through s k (drop 512 f))) e ∙ stays-broken k (broken_off r) (drop 512 f) refl ∙ sym (outcome-off r f h)

    go :
        (pieces (length (drop 512 f)) ≡ k → Going (taken r (take 512 f)) → ended (through (taken r (take 512 f)) k (drop 512 f)) ≡ outcome (taken r (take 512 f)) (drop 512 f)) →
        Dec (512 ≤ length f) →
        Dec (blocks_for r.count ≤ r.blocks) →
        ended (through (next r (take 512 f)) k (drop 512 f)) ≡ outcome r f
    go deeper (no h) d = off (no_block r (take 512 f) g.unbroken (λ e. omega (arith, length-take 512 f))) (λ e. omega arith)
    go deeper (yes h) (yes m) =
        off (too_many r (take 512 f) g.unbroken (length-take-le 512 f h) (rw old m)) (λ e. omega arith)
    go deeper (yes h) (no m) =
        let step : next r (take 512 f) ≡ taken r (take 512 f) = one_more r (take 512 f) g.unbroken (length-take-le 512 f h) (rw old (omega arith)) ∙ ap (λ (s : Reader). taken s (take 512 f)) old in
        ap (λ (s : Reader). ended (through s k (drop 512 f))) step
        ∙ deeper (omega (arith, length-drop 512 f)) (taken-goes r (take 512 f) g.unbroken (omega arith))
        ∙ outcome-step r f h (omega arith)

-- the first block
entry-front : (f : List ℕ) (n k : ℕ) → 4 * k + 3 < n → entry_day (take n f) k ≡ entry_day f k
unfolding entry_day
entry-front f n k h =
    rw (get_or-take n f (4 * k) 0 (omega arith), get_or-take n f (4 * k + 1) 0 (omega arith), get_or-take n f (4 * k + 2) 0 (omega arith), get_or-take n f (4 * k + 3) 0 (omega arith))

abbrev begun : List ℕ → Reader
begun f = record { broken = false; blocks = 0; count = count_in f; first = first_in f; sound = Ok tt; block = 0 }

opened-first : (f : List ℕ) → opened start (take 512 f) ≡ begun f
unfolding opened
opened-first f =
    ap₂ (λ (n d : ℕ). record { broken = false; blocks = 0; count = n; first = d; sound = Ok tt; block = 0 }) (entry-front f 512 1 (omega arith)) (entry-front f 512 2 (omega arith))

outcome-all : (f : List ℕ) → 512 ≤ length f → outcome (begun f) f ≡ reading_of f
unfolding outcome reading_of length_holds bad_after
outcome-all f h = let all : blocks_for (count_in f) - 0 ≡ blocks_for (count_in f) = omega arith in rw (all, le-leb 512 (length f) h)

-- a length that does not hold
reading-off : (f : List ℕ) → (512 ≤ length f → length f ≡ 512 * blocks_for (count_in f) → ⊥) → reading_of f ≡ no_days BadLength
unfolding reading_of length_holds
reading-off f h = go (dec_le 512 (length f))
  where
    go : Dec (512 ≤ length f) → reading_of f ≡ no_days BadLength
    go (yes k) = rw (le-leb 512 (length f) k, ne_eqb (length f) (512 * blocks_for (count_in f)) (h k))
    go (no k) = rw (lt-leb 512 (length f) (omega arith))

ended-start : ended start ≡ no_days BadLength
unfolding ended
ended-start = refl

from_start : (k : ℕ) (f : List ℕ) → pieces (length f) ≡ k → ended (through start k f) ≡ reading_of f
unfolding through
from_start zero f p = ended-start ∙ sym (reading-off f (λ h e. omega arith))
from_start (suc k) f p = go (dec_le 512 (length f)) (dec_le (blocks_for (count_in f)) 0)
  where
    off : next start (take 512 f) ≡ broken_off start → (512 ≤ length f → length f ≡ 512 * blocks_for (count_in f) → ⊥) → ended (through (next start (take 512 f)) k (drop 512 f)) ≡ reading_of f
    off e h = ap (λ (s : Reader). ended (through s k (drop 512 f))) e ∙ stays-broken k (broken_off start) (drop 512 f) refl ∙ sym (reading-off f h)

    go : Dec (512 ≤ length f) → Dec (blocks_for (count_in f) ≤ 0) → ended (through (next start (take 512 f)) k (drop 512 f)) ≡ reading_of f
    go (no h) d = off (no_block start (take 512 f) refl (λ e. omega (arith, length-take 512 f))) (λ l e. omega arith)
    go (yes h) (yes m) = off (too_many start (take 512 f) refl (length-take-le 512 f h) (rw (opened-first f) m)) (λ l e. omega arith)
    go (yes h) (no m) =
        let step : next start (take 512 f) ≡ taken (begun f) (take 512 f) =
        one_more start (take 512 f) refl (length-take-le 512 f h) (rw (opened-first f) (omega arith)) ∙ ap (λ (s : Reader). taken s (take 512 f)) (opened-first f) in
        ap (λ (s : Reader). ended (through s k (drop 512 f))) step
        ∙ finish k (taken (begun f) (take 512 f)) (drop 512 f) (omega (arith, length-drop 512 f)) (taken-goes (begun f) (take 512 f) refl (omega arith))
        ∙ outcome-step (begun f) f h (omega arith)
        ∙ outcome-all f h

-- THE LAW
pub read_through : (f : List ℕ) → ended (gone_through f) ≡ reading_of f
unfolding gone_through
read_through f = from_start (pieces (length f)) f refl

-- the next piece of a file, of the bytes that are left: going on from there is going through all
abbrev pub Gone : List ℕ → Reader → List ℕ → Type 0
Gone f r left = through r (pieces (length left)) left ≡ gone_through f

pub gone-start : (f left : List ℕ) (r : Reader) → r ≡ start → left ≡ f → Gone f r left
unfolding gone_through
gone-start f left r e a = ap₂ (λ (s : Reader) (l : List ℕ). through s (pieces (length l)) l) e a

module _ (left piece rest : List ℕ) (parts : left ≡ piece ++ rest) (size : length piece ≡ min 512 (length left)) where
  piece_is : take 512 left ≡ piece
  piece_is = go (dec_le 512 (length left))
    where
      go : Dec (512 ≤ length left) → take 512 left ≡ piece
      go (yes k) = ap (take 512) parts ∙ take_at piece rest 512 (omega arith)
      go (no k) =
          take_all 512 left (omega arith) ∙ sym (take_all (length left) left (omega arith)) ∙ ap (take (length left)) parts ∙ take_at piece rest (length left) (omega arith)

  rest-is : drop 512 left ≡ rest
  rest-is = go (dec_le 512 (length left))
    where
      go : Dec (512 ≤ length left) → drop 512 left ≡ rest
      go (yes k) = ap (drop 512) parts ∙ drop_at piece rest 512 (omega arith)
      go (no k) =
          drop_of_length-le left {i = 512} (omega arith)
          ∙ sym (drop_of_length-le left {i = length left} (omega arith))
          ∙ ap (drop (length left)) parts
          ∙ drop_at piece rest (length left) (omega arith)

  pub gone-on : (f : List ℕ) (r s : Reader) → 0 < length left → s ≡ next r piece → Gone f r left → Gone f s rest
  unfolding through
  gone-on f r s h n g =
      let one : pieces (length left) ≡ suc (pieces (length rest)) = omega (arith, ap length parts, length-append piece rest) in
      ap₂ (λ (x : Reader) (l : List ℕ). through x (pieces (length rest)) l) (n ∙ ap (next r) (sym piece_is)) (sym rest-is)
      ∙ sym (ap (λ (k : ℕ). through r k left) one)
      ∙ g

pub gone-end : (f left : List ℕ) (r : Reader) → length left ≡ 0 → Gone f r left → r ≡ gone_through f
unfolding through
gone-end f left r h g = let none : pieces (length left) ≡ 0 = omega arith in sym (ap (λ (k : ℕ). through r k left) none) ∙ g

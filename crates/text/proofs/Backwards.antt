-- What holds along the loop that writes a number's digits from the last to the first: the digits of what is left of the
-- number, and after them those written, are the number's. Assumes nothing.
use Prim.Native.Nat.{ℕ, zero, suc, ◌-◌, ◌/◌, ◌%◌, ◌^◌, ◌≤◌, ◌<◌}
use mathlib.Core.Path.{◌≡◌, ap, sym, ◌∙◌}
use mathlib.Core.List.{List, [], ◌∷◌, ◌++◌, append-nil, append_assoc}
use native.Mathlib.Omega.{arith}
use native.Mathlib.Nat.{pow-succ'}
use lib.ListN.{length, take, drop, set, replicate, length-set}
use lib.Seq.{set_split, drop_at, length-take-le}
use Rattle.text.specs.Decimal.{digit_byte, digits_of}
use Rattle.text.proofs.Printing.{digits-one, digits_more}

-- before the digit at from is written: rest is what is left of n
pub record Written (n : ℕ) (bytes : List ℕ) (from rest : ℕ) : Type 0 where
  pub split : digits_of n ≡ digits_of rest ++ drop (suc from) bytes
  pub size : length bytes ≡ 20
  pub room : from ≤ 19
  pub small : rest < 10 ^ suc from

pub written_start : (n : ℕ) → n < 100000000000000000000 → Written n (replicate 20 0) 19 n
written_start n h =
    record { split = sym (append-nil (digits_of n)); size = omega arith; room = omega arith; small = h }

drop-set : (i : ℕ) (l : List ℕ) (a : ℕ) → i < length l → drop i (set l i a) ≡ a ∷ drop (suc i) l
drop-set i l a h =
    ap (drop i) (set_split l i a h) ∙ drop_at (take i l) (a ∷ drop (suc i) l) i (length-take-le i l (omega arith))

pub written-room : (n : ℕ) (bytes : List ℕ) (from rest : ℕ) → Written n bytes from rest → 10 ≤ rest → 1 ≤ from
written-room n bytes zero rest w h = absurd (omega (arith, w.small))
written-room n bytes (suc from) rest w h = omega arith

pub written_next :
    (n : ℕ) (bytes : List ℕ) (from rest : ℕ) →
    Written n bytes from rest →
    10 ≤ rest →
    Written n (set bytes from (digit_byte (rest % 10))) (from - 1) (rest / 10)
written_next n bytes zero rest w h = absurd (omega (arith, w.small))
written_next n bytes (suc from) rest w h =
    let back : suc from - 1 ≡ from = omega arith in
    let last = digit_byte (rest % 10) in
    rw back
    (record {
      split =
          w.split
          ∙ rw (digits_more rest h, drop-set (suc from) bytes last (omega arith))
          (append_assoc (digits_of (rest / 10)) (last ∷ []) (drop (suc (suc from)) bytes));
      size = length-set bytes (suc from) last ∙ w.size;
      room = omega arith;
      small = omega (arith, w.small, pow-succ' 10 (suc from));
    })

pub written-end :
    (n : ℕ) (bytes : List ℕ) (from rest : ℕ) →
    Written n bytes from rest →
    rest < 10 →
    drop from (set bytes from (digit_byte rest)) ≡ digits_of n
written-end n bytes from rest w h =
    drop-set from bytes (digit_byte rest) (omega arith) ∙ sym (w.split ∙ rw (digits-one rest h))

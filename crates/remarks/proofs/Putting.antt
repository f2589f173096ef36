-- Bytes put into a buffer behind others: both are put at once. Assumes nothing.
use Prim.Native.Nat.{ℕ, ◌+◌, ◌≤◌}
use mathlib.Core.Path.{◌≡◌, ap, sym, ◌∙◌}
use mathlib.Core.List.{List, [], ◌++◌, append_assoc}
use native.Mathlib.Omega.{arith}
use borrow.Author.Tests.{le-leb}
use lib.ListN.{length, take, drop, length-append}
use lib.Seq.{length-take-le, drop-append-add, drop-drop}
use Rattle.text.specs.Sheets.{fits_at, put_at}
use Rattle.text.proofs.Sheets.{put_front, put-length}
use Rattle.remarks.specs.Remarks.{remarks_room}

put_is : (b : List ℕ) (at : ℕ) (xs : List ℕ) → at + length xs ≤ length b → put_at b at xs ≡ (take at b ++ xs) ++ drop (at + length xs) b
unfolding put_at fits_at
put_is b at xs h = rw (le-leb (at + length xs) (length b) h)

pub put-none : (b : List ℕ) (at : ℕ) → at ≡ 0 → put_at b at [] ≡ b
put-none b at e = rw (e, put_is b 0 [] (omega arith))

module _ (b : List ℕ) (at : ℕ) (xs ys : List ℕ) (h : at + length (xs ++ ys) ≤ length b) where
  fits : at + length xs + length ys ≤ length b
  fits = omega (arith, length-append xs ys)

  -- behind the first bytes the buffer is as it was
  behind : drop (at + length xs + length ys) (put_at b at xs) ≡ drop (at + length (xs ++ ys)) b
  behind =
      let long : length (take at b ++ xs) ≡ at + length xs = length-append (take at b) xs ∙ ap (λ (n : ℕ). n + length xs) (length-take-le at b (omega (arith, fits))) in
      let all : at + length xs + length ys ≡ at + length (xs ++ ys) = omega (arith, length-append xs ys) in
      ap (drop (at + length xs + length ys)) (put_is b at xs (omega (arith, fits)))
      ∙ ap (λ (n : ℕ). drop (n + length ys) ((take at b ++ xs) ++ drop (at + length xs) b)) (sym long)
      ∙ drop-append-add (take at b ++ xs) (drop (at + length xs) b) (length ys)
      ∙ drop-drop (length ys) (at + length xs) b
      ∙ ap (λ (n : ℕ). drop n b) all

  pub put-behind : put_at (put_at b at xs) (at + length xs) ys ≡ put_at b at (xs ++ ys)
  put-behind =
      let first : at + length xs ≤ length b = omega (arith, fits) in
      put_is (put_at b at xs) (at + length xs) ys (omega (arith, fits, put-length b at xs first))
      ∙ ap (λ (l : List ℕ). (l ++ ys) ++ drop (at + length xs + length ys) (put_at b at xs)) (put_front b at xs first)
      ∙ ap (λ (l : List ℕ). ((take at b ++ xs) ++ ys) ++ l) behind
      ∙ ap (λ (l : List ℕ). l ++ drop (at + length (xs ++ ys)) b) (append_assoc (take at b) xs ys)
      ∙ sym (put_is b at (xs ++ ys) h)

-- one behind the other, and how many bytes there are then
module _ (all xs ys : List ℕ) (e : all ≡ xs ++ ys) (b : List ℕ) (at : ℕ) (room : at + length all ≤ length b) where
  pub first-room : at + length xs ≤ length b
  first-room = omega (arith, ap length e, length-append xs ys)

  module _ (next : ℕ) (after : List ℕ) (en : next ≡ at + length xs) (ea : after ≡ put_at b at xs) where
    pub second-room : next + length ys ≤ length after
    second-room = omega (arith, ap length e, length-append xs ys, ap length ea ∙ put-length b at xs first-room)

    pub both-put : (end : ℕ) (last : List ℕ) → end ≡ next + length ys → last ≡ put_at after next ys → (end ≡ at + length all) × (last ≡ put_at b at all)
    both-put end last eend el = (
      omega (arith, ap length e, length-append xs ys),
      el ∙ rw (ea, en) (put-behind b at xs ys (omega (arith, ap length e))) ∙ ap (put_at b at) (sym e),
    )

-- what was put at the front of a program's buffer can be lent
module _ (said before after : List ℕ) (bytes : ℕ) (e : bytes ≡ length said) (put : after ≡ put_at before 0 said) (size : length before ≡ remarks_room) (fits : bytes ≤ remarks_room) where
  pub said_fits : bytes ≤ length after
  said_fits = omega (arith, ap length put ∙ put-length before 0 said (omega arith))

  pub said-front : take bytes after ≡ said
  said-front =
      let none : 0 + length said ≡ length said = omega arith in
      rw (e, put) (rw none at (put_front before 0 said (omega arith)))

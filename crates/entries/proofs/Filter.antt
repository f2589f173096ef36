-- Days that fail a test may be left out of a filtered run of days, at its front and at its end; by induction on the
-- run.
-- Assumes nothing.
use Prim.Native.Nat.{ℕ, zero, suc, ◌+◌, ◌-◌, ◌≤◌, ◌<◌}
use mathlib.Core.Path.{◌≡◌, refl, sym, ap, ap₂, ◌∙◌}
use mathlib.Core.Bool.{Bool, true, false, cond}
use mathlib.Core.List.{List, [], ◌∷◌}
use native.Mathlib.Omega.{arith}
use lib.ListN.{length}
use Rattle.days.specs.Days.{days_from}
use Rattle.entries.specs.Runs.{filtered}

pub filtered-at : (p : ℕ → Bool) (a m b n : ℕ) → a ≡ b → m ≡ n → filtered p (days_from a m) ≡ filtered p (days_from b n)
filtered-at p a m b n e f = ap (filtered p) (ap₂ days_from e f)

pub filtered-cons : (p : ℕ → Bool) (x : ℕ) (xs ys : List ℕ) → filtered p xs ≡ filtered p ys → filtered p (x ∷ xs) ≡ filtered p (x ∷ ys)
unfolding filtered
filtered-cons p x xs ys e = rw e

pub filtered-in : (p : ℕ → Bool) (x : ℕ) (xs : List ℕ) → p x ≡ true → filtered p (x ∷ xs) ≡ x ∷ filtered p xs
unfolding filtered
filtered-in p x xs e = rw e

pub filtered-out : (p : ℕ → Bool) (x : ℕ) (xs : List ℕ) → p x ≡ false → filtered p (x ∷ xs) ≡ filtered p xs
unfolding filtered
filtered-out p x xs e = rw e

pub filtered-nil : (p : ℕ → Bool) → filtered p [] ≡ []
unfolding filtered
filtered-nil p = refl

pub filtered-front : (p : ℕ → Bool) (j a n : ℕ) → ((i : ℕ) → i < j → p (a + i) ≡ false) → filtered p (days_from a n) ≡ filtered p (days_from (a + j) (n - j))
unfolding filtered days_from
filtered-front p zero a n h = filtered-at p a n (a + 0) (n - 0) (omega arith) (omega arith)
filtered-front p (suc j) a zero h = filtered-at p (a + suc j) 0 (a + suc j) (0 - suc j) refl (omega arith)
filtered-front p (suc j) a (suc n) h =
    filtered-out p a (days_from (suc a) n) (ap p (omega arith) ∙ h 0 (omega arith))
    ∙ filtered-front p j (suc a) n (λ i l. ap p (omega arith) ∙ h (suc i) (omega arith))
    ∙ filtered-at p (suc a + j) (n - j) (a + suc j) (suc n - suc j) (omega arith) (omega arith)

pub filtered-none : (p : ℕ → Bool) (a n : ℕ) → ((i : ℕ) → i < n → p (a + i) ≡ false) → filtered p (days_from a n) ≡ []
unfolding days_from
filtered-none p a n h = filtered-front p n a n h ∙ filtered-at p (a + n) (n - n) (a + n) 0 refl (omega arith) ∙ filtered-nil p

pub filtered-end : (p : ℕ → Bool) (a m n : ℕ) → m ≤ n → ((i : ℕ) → m ≤ i → i < n → p (a + i) ≡ false) → filtered p (days_from a n) ≡ filtered p (days_from a m)
unfolding days_from
filtered-end p a zero n l h = filtered-none p a n (λ i k. h i (omega arith) k) ∙ sym (filtered-none p a 0 (λ i k. absurd (omega arith)))
filtered-end p a (suc m) zero l h = absurd (omega arith)
filtered-end p a (suc m) (suc n) l h =
    filtered-cons p a (days_from (suc a) n) (days_from (suc a) m)
    (filtered-end p (suc a) m n (omega arith) (λ i k r. ap p (omega arith) ∙ h (suc i) (omega arith) (omega arith)))

pub filtered-short : (p : ℕ → Bool) (a n : ℕ) → length (filtered p (days_from a n)) ≤ n
unfolding filtered days_from
filtered-short p a zero = omega arith
filtered-short p a (suc n) = go (p a) (filtered-short p (suc a) n)
  where
    go : (b : Bool) → length (filtered p (days_from (suc a) n)) ≤ n → length (cond b (a ∷ filtered p (days_from (suc a) n)) (filtered p (days_from (suc a) n))) ≤ suc n
    go true h = omega arith
    go false h = omega arith

-- Lists of days that ascend, so that each stands once; what a filtered run of days has; and runs that are joined. By
-- induction on the days.
-- Assumes nothing.
use Prim.Native.Nat.{ℕ, zero, suc, ◌+◌, ◌≤◌, ◌<◌}
use mathlib.Core.Path.{◌≡◌, refl, ap, sym, subst, ◌∙◌}
use mathlib.Core.Bool.{Bool, true, false, cond}
use mathlib.Core.List.{List, [], ◌∷◌, ◌++◌}
use mathlib.Core.Logic.{◌⊎◌, inl, inr}
use native.Mathlib.Omega.{arith}
use native.Mathlib.Decide.{dec_le}
use lib.ListN.{length, get_or}
use Rattle.days.specs.Days.{days_from}
use Rattle.entries.specs.Runs.{filtered}

-- each element is at least a, and below those behind it
unfoldable pub Ascending : ℕ → List ℕ → Type 0
Ascending a [] = Unit {0}
Ascending a (x ∷ xs) = (a ≤ x) × Ascending (suc x) xs

-- a list has x
unfoldable pub Has : ℕ → List ℕ → Type 0
Has x [] = ⊥
Has x (y ∷ ys) = (x ≡ y) ⊎ Has x ys

-- a list has each element at most once, where it ascends
pub low : (a x : ℕ) (xs : List ℕ) → Ascending a xs → Has x xs → a ≤ x
unfolding Ascending Has
low a x [] u x4 = elim x4 [ ]
low a x (y ∷ ys) u (inl e) = omega (arith, u.0)
low a x (y ∷ ys) u (inr h) = omega (arith, u.0, low (suc y) x ys u.1 h)

pub once : (a x : ℕ) (xs : List ℕ) → Ascending a (x ∷ xs) → Has x xs → ⊥
unfolding Ascending
once a x xs u h = omega (arith, low (suc x) x xs u.1 h)

pub weaken : (a b : ℕ) (xs : List ℕ) → a ≤ b → Ascending b xs → Ascending a xs
unfolding Ascending
weaken a b [] h u = tt
weaken a b (x ∷ xs) h u = (omega (arith, u.0), u.1)

pub days-ascend : (p : ℕ → Bool) (a n : ℕ) → Ascending a (filtered p (days_from a n))
unfolding Ascending filtered days_from
days-ascend p a zero = tt
days-ascend p a (suc n) = go (p a) (days-ascend p (suc a) n)
  where
    go : (b : Bool) → Ascending (suc a) (filtered p (days_from (suc a) n)) → Ascending a (cond b (a ∷ filtered p (days_from (suc a) n)) (filtered p (days_from (suc a) n)))
    go true u = (omega arith, u)
    go false u = weaken a (suc a) (filtered p (days_from (suc a) n)) (omega arith) u

-- an element of a filtered run of days is one of these days and passes the test, and back
abbrev pub Inside : (ℕ → Bool) → ℕ → ℕ → ℕ → Type 0
Inside p x a n = (a ≤ x) × (x < a + n) × (p x ≡ true)

pub listed : (p : ℕ → Bool) (x a n : ℕ) → Has x (filtered p (days_from a n)) → Inside p x a n
unfolding Has filtered days_from
listed p x a zero h = absurd h
listed p x a (suc n) h = go (p a) refl h (λ k. let l = listed p x (suc a) n k in (omega (arith, l.0), omega (arith, l.1), l.2))
  where
    go : (b : Bool) → p a ≡ b → Has x (cond b (a ∷ filtered p (days_from (suc a) n)) (filtered p (days_from (suc a) n))) → (Has x (filtered p (days_from (suc a) n)) → Inside p x a (suc n)) → Inside p x a (suc n)
    go true e (inl k) deeper = (omega arith, omega arith, ap p k ∙ e)
    go true e (inr k) deeper = deeper k
    go false e k deeper = deeper k

pub has-filtered : (p : ℕ → Bool) (x : ℕ) → p x ≡ true → (xs : List ℕ) → Has x xs → Has x (filtered p xs)
unfolding Has filtered
has-filtered p x t [] x'' = elim x'' [ ]
has-filtered p x t (y ∷ ys) (inl e) = subst (λ (b : Bool). Has x (cond b (y ∷ filtered p ys) (filtered p ys))) (sym (ap p (sym e) ∙ t)) (inl e)
has-filtered p x t (y ∷ ys) (inr h) = go (p y) (has-filtered p x t ys h)
  where
    go : (b : Bool) → Has x (filtered p ys) → Has x (cond b (y ∷ filtered p ys) (filtered p ys))
    go true k = inr k
    go false k = k

pub filtered-has : (p : ℕ → Bool) (x : ℕ) (xs : List ℕ) → Has x (filtered p xs) → Has x xs
unfolding Has filtered
filtered-has p x [] h = elim h [ ]
filtered-has p x (y ∷ ys) h = go (p y) h (λ k. filtered-has p x ys k)
  where
    go : (b : Bool) → Has x (cond b (y ∷ filtered p ys) (filtered p ys)) → (Has x (filtered p ys) → Has x ys) → Has x (y ∷ ys)
    go true (inl e) deeper = inl e
    go true (inr k) deeper = inr (deeper k)
    go false k deeper = inr (deeper k)

pub in-days : (x a n : ℕ) → a ≤ x → x < a + n → Has x (days_from a n)
unfolding Has days_from
in-days x a zero h k = absurd (omega arith)
in-days x a (suc n) h k = go (dec_le (suc a) x) (λ l. in-days x (suc a) n l (omega arith))
  where
    go : Dec (suc a ≤ x) → (suc a ≤ x → Has x (days_from (suc a) n)) → Has x (a ∷ days_from (suc a) n)
    go (yes l) deeper = inr (deeper l)
    go (no l) deeper = inl (omega arith)

pub has-at : (k : ℕ) (xs : List ℕ) → k < length xs → Has (get_or xs k 0) xs
unfolding Has
has-at k [] h = absurd (omega arith)
has-at zero (x ∷ xs) h = inl refl
has-at (suc k) (x ∷ xs) h = inr (has-at k xs (omega arith))

pub days-join : (a m n : ℕ) → days_from a (m + n) ≡ days_from a m ++ days_from (a + m) n
unfolding days_from
days-join a zero n =
    let count : 0 + n ≡ n = omega arith in
    let here : a ≡ a + 0 = omega arith in
    ap (days_from a) count ∙ ap (λ (b : ℕ). days_from b n) here
days-join a (suc m) n =
    let count : suc m + n ≡ suc (m + n) = omega arith in
    let later : suc a + m ≡ a + suc m = omega arith in
    ap (days_from a) count ∙ ap (λ (l : List ℕ). a ∷ l) (days-join (suc a) m n ∙ ap (λ (b : ℕ). days_from (suc a) m ++ days_from b n) later)

pub filtered-join : (p : ℕ → Bool) (xs ys : List ℕ) → filtered p (xs ++ ys) ≡ filtered p xs ++ filtered p ys
unfolding filtered
filtered-join p [] ys = refl
filtered-join p (x ∷ xs) ys = go (p x) (filtered-join p xs ys)
  where
    go :
        (b : Bool) →
        filtered p (xs ++ ys) ≡ filtered p xs ++ filtered p ys →
        cond b (x ∷ filtered p (xs ++ ys)) (filtered p (xs ++ ys)) ≡ cond b (x ∷ filtered p xs) (filtered p xs) ++ filtered p ys
    go true h = ap (λ (l : List ℕ). x ∷ l) h
    go false h = h

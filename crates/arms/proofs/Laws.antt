-- The orders case by case, of any longitude below a circle: which is refused, and what place and follow give where they
-- are not.
-- Assumes nothing.
use mathlib.Core.Bool.{Bool, true, false, cond}
use mathlib.Core.Path.{◌≡◌, refl, sym, ap, ◌∙◌, subst}
use Prim.Native.Nat.{ℕ, ◌<◌, ◌≤◌}
use native.Mathlib.Decide.{dec_le}
use native.Mathlib.Omega.{arith}
use borrow.Author.Tests.{le-leb, lt-leb, lt-ltb, le-ltb, eq-eqb, ne_eqb}
use lib.Dec.{leb, ltb, eqb}
use lib.IntN.{pos}
use lib.Ieee.{Float, round}
use Rattle.days.specs.Days.{last_day}
use Rattle.std.specs.Prelude.{Result, Ok, Err}
use Rattle.days.specs.declared.refusal.Refusal.{Refusal}
use Rattle.days.specs.declared.refusal.Refusal.TheVariants.{OutOfRange, NoSuchBody}
use Rattle.days.specs.Refusals.{accepted, out_of_range, no_such_body, refusal_number}
use Rattle.longitudes.specs.Longitudes.{circle}
use Rattle.arms.specs.declared.Order.TheVariants.{Hold, Go, Run}
use Rattle.arms.specs.declared.Order.{Order}
use Rattle.arms.specs.Parts.{body_on}
use Rattle.arms.specs.Degrees.{degrees_of}
use Rattle.arms.specs.Orders.{AnswerNumbers, no_degrees, order_number, order_value, answer_numbers, order_refusal, Longitude, angle_on, rate_on, held, place_of, follow_of}
use Rattle.arms.specs.Ranges.{IsAngle, ExactAngle, IsRate, IsTrueRate}
use Rattle.arms.proofs.Ranges.{angle-range, exact, rate-range, true-rate-range}

pub day-refused : (day body : ℕ) → last_day < day → order_refusal day body ≡ out_of_range
unfolding order_refusal
day-refused day body h = rw (lt-leb _ _ h)

pub body_refused : (day body : ℕ) → day ≤ last_day → 8 < body → order_refusal day body ≡ no_such_body
unfolding order_refusal
body_refused day body h k = rw (le-leb _ _ h, lt-leb _ _ k)

pub none-refused : (day body : ℕ) → day ≤ last_day → body ≤ 8 → order_refusal day body ≡ accepted
unfolding order_refusal
none-refused day body h k = rw (le-leb _ _ h, le-leb _ _ k)

-- where nothing is refused there is such a day and such a body
pub in-ranges : (day body : ℕ) → order_refusal day body ≡ accepted → (day ≤ last_day) × (body ≤ 8)
in-ranges day body e = go (dec_le day last_day) (dec_le body 8)
  where
    go : Dec (day ≤ last_day) → Dec (body ≤ 8) → (day ≤ last_day) × (body ≤ 8)
    go (no h) k = absurd (omega (arith, day-refused day body (omega arith)))
    go (yes h) (no k) = absurd (omega (arith, body_refused day body h (omega arith)))
    go (yes h) (yes k) = (h, k)

-- what the code finds of a day and a body is so
pub record Checked (day body n : ℕ) : Type 0 where
  pub accepted : order_refusal day body ≡ accepted
  pub number : n ≡ body

pub order-checked : (day body : ℕ) {n : ℕ} → Ok n ≡ body_on day body → Checked day body n
unfolding body_on order_refusal
order-checked day body {n} e = go (leb day last_day) (leb body 8) refl refl e
  where
    is : order_refusal day body ≡ accepted → n ≡ body → Checked day body n
    is a b = record { accepted = a; number = b }

    go : (t u : Bool) → leb day last_day ≡ t → leb body 8 ≡ u → Ok n ≡ cond t (cond u (Ok body) (Err NoSuchBody)) (Err OutOfRange) → Checked day body n
    go true true et eu e = is (rw (et, eu)) cc
    go true false et eu e = absurd cc
    go false u et eu e = absurd cc

pub record Refused (day body : ℕ) (r : Refusal) : Type 0 where
  pub number : refusal_number r ≡ order_refusal day body
  pub not_accepted : order_refusal day body ≡ accepted → ⊥

pub order-refused : (day body : ℕ) {r : Refusal} → Err r ≡ body_on day body → Refused day body r
unfolding body_on order_refusal
order-refused day body {r} e = go (leb day last_day) (leb body 8) refl refl e
  where
    is : {s : Refusal} (n : ℕ) → r ≡ s → refusal_number s ≡ n → (n ≡ accepted → ⊥) → order_refusal day body ≡ n → Refused day body r
    is n i f p o = record { number = ap refusal_number i ∙ f ∙ sym o; not_accepted = λ z. p (sym o ∙ z) }

    go : (t u : Bool) → leb day last_day ≡ t → leb body 8 ≡ u → Err r ≡ cond t (cond u (Ok body) (Err NoSuchBody)) (Err OutOfRange) → Refused day body r
    go true true et eu e = absurd cc
    go true false et eu e = let i : r ≡ NoSuchBody = cc in is no_such_body i refl (λ z. absurd (omega arith)) (rw (et, eu))
    go false u et eu e = let i : r ≡ OutOfRange = cc in is out_of_range i refl (λ z. absurd (omega arith)) (rw et)

none_is : degrees_of (pos 0) ≡ no_degrees
unfolding degrees_of round
none_is = refl

hold-angle : IsAngle no_degrees
hold-angle = subst IsAngle none_is (angle-range 0 (omega arith))

pub hold-rate : IsRate no_degrees
hold-rate = subst IsRate none_is (rate-range (pos 0) (omega arith))

pub hold-true-rate : IsTrueRate no_degrees
hold-true-rate = subst IsTrueRate none_is (true-rate-range (pos 0) (omega arith))

-- ---- place

-- what it promises of its answer
abbrev pub Placed : Longitude → ℕ → ℕ → Result Order Refusal → Type 0
Placed at day body a =
    (answer_numbers a ≡ place_of at day body) × (IsAngle (answer_numbers a).value × ExactAngle at day body (answer_numbers a).value)

module _ (at : Longitude) (day body : ℕ) where
  pub place-held : {r : Refusal} → Refused day body r → Placed at day body (Err r)
  unfolding place_of
  place-held f = (rw (f.number, ne_eqb _ _ f.not_accepted), (hold-angle, λ z. absurd (f.not_accepted z)))

  pub place-goes : order_refusal day body ≡ accepted → at day body < circle → (x : Float) → x ≡ angle_on at day body → Placed at day body (Ok (Go x))
  unfolding place_of order_number order_value
  place-goes e small x f =
      (rw (f, eq-eqb _ _ e), (subst IsAngle (sym f) (angle-range _ small), λ z m. subst (λ (y : Float). ExactAngle at day body y) (sym f) (λ u v. exact _ small v) z m))

-- ---- follow; P is the range of its rates

abbrev pub Followed : Longitude → (Float → Type 0) → ℕ → ℕ → Result Order Refusal → Type 0
Followed at P day body a = (answer_numbers a ≡ follow_of at day body) × P (answer_numbers a).value

module _ (at : Longitude) (P : Float → Type 0) (day body : ℕ) where
  pub follow-held : P no_degrees → {r : Refusal} → Refused day body r → Followed at P day body (Err r)
  unfolding follow_of
  follow-held p f = (rw (f.number, ne_eqb _ _ f.not_accepted), p)

  -- on the last day
  pub follow-ends : P no_degrees → order_refusal day body ≡ accepted → last_day ≤ day → Followed at P day body (Ok Hold)
  unfolding follow_of order_number order_value
  follow-ends p e k = (rw (eq-eqb _ _ e, le-ltb _ _ k), p)

  pub follow-runs : order_refusal day body ≡ accepted → day < last_day → (x : Float) → x ≡ rate_on at day body → P (rate_on at day body) → Followed at P day body (Ok (Run x))
  unfolding follow_of order_number order_value
  follow-runs e k x f p = (rw (f, eq-eqb _ _ e, lt-ltb _ _ k), subst P (sym f) p)

-- ---- whether an order is refused, and which it is, hangs on no longitude

abbrev pub Alike : AnswerNumbers → AnswerNumbers → Type 0
Alike a b = (a.refusal ≡ b.refusal) × (a.order ≡ b.order)

pub place-alike : (at other : Longitude) (day body : ℕ) → Alike (place_of at day body) (place_of other day body)
unfolding place_of
place-alike at other day body = go (eqb (order_refusal day body) accepted)
  where
    gone : Longitude → AnswerNumbers
    gone l = record { refusal = accepted; order = 1; value = angle_on l day body }

    go : (t : Bool) → Alike (cond t (gone at) (held (order_refusal day body))) (cond t (gone other) (held (order_refusal day body)))
    go true = (refl, refl)
    go false = (refl, refl)

pub follow-alike : (at other : Longitude) (day body : ℕ) → Alike (follow_of at day body) (follow_of other day body)
unfolding follow_of
follow-alike at other day body = go (eqb (order_refusal day body) accepted) (ltb day last_day)
  where
    run : Longitude → AnswerNumbers
    run l = record { refusal = accepted; order = 2; value = rate_on l day body }

    go : (t u : Bool) → Alike (cond t (cond u (run at) (held accepted)) (held (order_refusal day body))) (cond t (cond u (run other) (held accepted)) (held (order_refusal day body)))
    go true true = (refl, refl)
    go true false = (refl, refl)
    go false u = (refl, refl)

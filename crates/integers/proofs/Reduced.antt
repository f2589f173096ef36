-- Reduction in naturals: of an integer a − b, t whole turns are put on first, so that what is reduced is a natural.
-- Assumes nothing.
use mathlib.Core.Path.{◌≡◌, sym, ap, ◌∙◌}
use Prim.Native.Nat.{ℕ, suc, ◌+◌, ◌*◌, ◌-◌, ◌/◌, ◌%◌, ◌<◌}
use native.Mathlib.Omega.{arith}
use native.Mathlib.Nat.{add-mul-div_right, add-mul-mod_self_right, div-add-mod', mod-add-div', mod-lt, mod-eq_of_lt, mul-le-mul_right, lt_of_mul-lt-mul_right}
use lib.IntN.{ℤ, pos, negsuc, ◌+ℤ◌}
use Rattle.integers.specs.Integers.{floor_over, reduced}
use Rattle.integers.proofs.Less.{Less, less-add}

pub reduced-small : (z : ℤ) (m : ℕ) → 0 < m → reduced z m < m
unfolding reduced
reduced-small (pos n) m h = mod-lt n h
reduced-small (negsuc n) m h = omega arith

-- where x + y + 1 is s times q, the quotients are s less one together
quotients : (x y s q : ℕ) → 0 < q → x + suc y ≡ s * q → x / q + suc (y / q) ≡ s
quotients x y s q h e =
    let dx = div-add-mod' x q in
    let dy = div-add-mod' y q in
    let mx = mod-lt x h in
    let my = mod-lt y h in
    let low : x / q + y / q < s = lt_of_mul-lt-mul_right q (omega arith) in
    let high : s < x / q + y / q + 2 = lt_of_mul-lt-mul_right q (omega arith) in
    omega arith

-- and the remainders q less one
remainders : (x y s q : ℕ) → 0 < q → x + suc y ≡ s * q → x % q + suc (y % q) ≡ q
remainders x y s q h e =
    omega (arith, ap (λ (t : ℕ). t * q) (quotients x y s q h e), div-add-mod' x q, div-add-mod' y q)

pub less-reduced : (z : ℤ) (a b N m t : ℕ) → 0 < m → Less z a b → a + t * m ≡ b + N → reduced z m ≡ N % m
unfolding reduced
less-reduced (pos n) a b N m t hm h e =
    let w : N ≡ n + t * m = omega arith in
    sym (ap (λ (x : ℕ). x % m) w ∙ add-mul-mod_self_right n t m)
less-reduced (negsuc n) a b N m t hm h e =
    let w : N + suc n ≡ t * m = omega arith in
    omega (arith, remainders N n t m hm w)

-- the same of the floor of an integer over q
pub floor-reduced : (z : ℤ) (a b N q m t : ℕ) → 0 < q → 0 < m → Less z a b → a + t * m * q ≡ b + N → reduced (floor_over z q) m ≡ N / q % m
unfolding floor_over reduced
floor-reduced (pos n) a b N q m t hq hm h e =
    let w : N ≡ n + t * m * q = omega arith in
    sym (ap (λ (x : ℕ). x / q % m) w ∙ ap (λ (x : ℕ). x % m) (add-mul-div_right n (t * m) hq) ∙ add-mul-mod_self_right (n / q) t m)
floor-reduced (negsuc n) a b N q m t hq hm h e =
    let w : N + suc n ≡ t * m * q = omega arith in
    let v : N / q + suc (n / q) ≡ t * m = quotients N n (t * m) q hq w in
    omega (arith, remainders (N / q) (n / q) t m hm v)

-- the remainder by m × q: that of the quotient by q, q times, and the remainder by q
remainder_by : (n q m : ℕ) → 0 < q → 0 < m → n % (m * q) ≡ n / q % m * q + n % q
remainder_by n q m hq hm =
    ap (λ (x : ℕ). x % (m * q)) (sym split) ∙ add-mul-mod_self_right rest (n / q / m) (m * q) ∙ mod-eq_of_lt small
  where
    rest : ℕ
    rest = n / q % m * q + n % q

    split : rest + n / q / m * (m * q) ≡ n
    split = omega (arith, div-add-mod' n q, ap (λ (x : ℕ). x * q) (div-add-mod' (n / q) m))

    small : rest < m * q
    small = omega (arith, mod-lt n hq, mul-le-mul_right {m = suc (n / q % m)} {n = m} q (mod-lt (n / q) hm))

-- an integer reduced by m × q: its floor over q reduced by m, q times, and what was left over
pub floor-left : (z : ℤ) (q m : ℕ) → 0 < q → 0 < m → reduced (floor_over z q) m * q + reduced z q ≡ reduced z (m * q)
unfolding floor_over reduced
floor-left (pos n) q m hq hm = sym (remainder_by n q m hq hm)
floor-left (negsuc n) q m hq hm =
    let x : suc (n / q % m) + (m - suc (n / q % m)) ≡ m = omega (arith, mod-lt (n / q) hm) in
    omega (arith, remainder_by n q m hq hm, mod-lt n hq, ap (λ (t : ℕ). t * q) x)

-- an integer is what it reduces to and whole turns, forwards or back
record Turns (z : ℤ) (m : ℕ) : Type 0 where
  on : ℕ
  back : ℕ
  whole : Less z (reduced z m + on * m) (back * m)

turned : (z : ℤ) (m : ℕ) → 0 < m → Turns z m
unfolding reduced
turned (pos n) m h = record { on = n / m; back = 0; whole = omega (arith, mod-add-div' n m) }
turned (negsuc n) m h = record { on = 0; back = suc (n / m); whole = omega (arith, mod-add-div' n m, mod-lt n h) }

-- a sum reduces to the sum of what its two parts reduce to, reduced
pub reduced-sum : (z y : ℤ) (m : ℕ) → 0 < m → reduced (z +ℤ y) m ≡ (reduced z m + reduced y m) % m
reduced-sum z y m h =
    let s = turned z m h in
    let t = turned y m h in
    less-reduced (z +ℤ y) (reduced z m + s.on * m + (reduced y m + t.on * m)) (s.back * m + t.back * m)
    (reduced z m + reduced y m + (s.on + t.on) * m) m (s.back + t.back) h
    (less-add z y (reduced z m + s.on * m) (s.back * m) (reduced y m + t.on * m) (t.back * m) s.whole t.whole) (omega arith)
    ∙ add-mul-mod_self_right (reduced z m + reduced y m) (s.on + t.on) m

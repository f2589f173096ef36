-- One turn of each loop of a block: a number, a zero or a day put, a number compared, a byte summed; by the
-- definition's own step.
-- Assumes nothing.
use Prim.Native.Nat.{ℕ, suc, ◌+◌, ◌-◌, ◌*◌, ◌≤◌, ◌<◌}
use mathlib.Core.Path.{◌≡◌, refl, ap, ap₂, sym, ◌∙◌}
use mathlib.Core.Bool.{Bool, true, false, ◌&&◌}
use mathlib.Core.List.{List, [], ◌∷◌, ◌++◌}
use native.Mathlib.Omega.{arith}
use native.Mathlib.Numerals.{add-one}
use native.Mathlib.Nat.{mul-le-mul}
use lib.Dec.{eqb}
use lib.ListN.{length, get_or, take, drop, replicate, length-append, drop_of_length-le}
use borrow.Author.Tests.{eq-eqb, ne_eqb, le-leb, lt-leb, lt-ltb}
use lib.Seq.{drop-cons, take-suc, length-take-le}
use Rattle.std.specs.Prelude.{Ok}
use Rattle.days.specs.Days.{last_day, days_from, pair_at}
use Rattle.entries.specs.Entries.{capacity, entry_day, entry_at, with_entry, with_entries_from}
use Rattle.entries.proofs.Putting.{put-append}
use Rattle.longitudes.proofs.Table.{nine-long}
use Rattle.records.specs.Records.{record_on}
use Rattle.blocks.specs.Blocks.{weighted, checksum, day_numbers, has_numbers, day_holds, days_hold}
use Rattle.blocks.specs.Parts.{numbers_of}

-- numbers of a list, from its number i on, put at entry k + i
pub put_next : (l : List ℕ) (k i : ℕ) (xs : List ℕ) → i < length xs → with_entries_from (with_entry l (k + i) (get_or xs i 0)) (k + (i + 1)) (drop (i + 1) xs) ≡ with_entries_from l (k + i) (drop i xs)
unfolding with_entries_from
put_next l k i xs h =
    let at : k + (i + 1) ≡ k + i + 1 = omega arith in
    ap₂ (λ (j : ℕ) (t : List ℕ). with_entries_from (with_entry l (k + i) (get_or xs i 0)) j t) at (ap (λ (j : ℕ). drop j xs) (add-one i))
    ∙ sym (ap (with_entries_from l (k + i)) (drop-cons xs i 0 h))

-- zeros up to entry n, put at entry i
pub put-zero : (l : List ℕ) (i n : ℕ) → i < n → with_entries_from (with_entry l i 0) (i + 1) (replicate (n - (i + 1)) 0) ≡ with_entries_from l i (replicate (n - i) 0)
unfolding with_entries_from
put-zero l i n h =
    let one : n - i ≡ suc (n - (i + 1)) = omega arith in
    sym (ap (λ (m : ℕ). with_entries_from l i (replicate m 0)) one)

pub day-long : (n : ℕ) → length (day_numbers n) ≡ 13
unfolding day_numbers record_on
day-long n = simp length-append (omega (arith, nine-long (pair_at n)))

-- the numbers of days, from the one in place i on
pub put-day :
    (l : List ℕ) (day i n : ℕ) →
    i < n →
    with_entries_from (with_entries_from l (2 + 13 * i) (day_numbers (day + i))) (2 + 13 * (i + 1)) (numbers_of (days_from (day + (i + 1)) (n - (i + 1))))
    ≡ with_entries_from l (2 + 13 * i) (numbers_of (days_from (day + i) (n - i)))
unfolding numbers_of days_from
put-day l day i n h =
    let one : n - i ≡ suc (n - (i + 1)) = omega arith in
    let later : day + (i + 1) ≡ suc (day + i) = omega arith in
    let at : 2 + 13 * (i + 1) ≡ 2 + 13 * i + length (day_numbers (day + i)) = omega (arith, day-long (day + i)) in
    rw (one, later, at) (sym (put-append l (2 + 13 * i) (day_numbers (day + i)) (numbers_of (days_from (suc (day + i)) (n - (i + 1))))))

-- a number that agrees, and one that does not
has_here : (b : List ℕ) (k i : ℕ) (xs : List ℕ) → i < length xs → has_numbers b (k + i) (drop i xs) ≡ (eqb (entry_day b (k + i)) (get_or xs i 0) && has_numbers b (suc (k + i)) (drop (suc i) xs))
unfolding has_numbers
has_here b k i xs h = ap (has_numbers b (k + i)) (drop-cons xs i 0 h)

pub has-next : (b : List ℕ) (k i : ℕ) (xs : List ℕ) → i < length xs → entry_day b (k + i) ≡ get_or xs i 0 → has_numbers b (k + (i + 1)) (drop (i + 1) xs) ≡ has_numbers b (k + i) (drop i xs)
has-next b k i xs h e =
    let at : k + (i + 1) ≡ suc (k + i) = omega arith in
    ap₂ (has_numbers b) at (ap (λ (j : ℕ). drop j xs) (add-one i)) ∙ sym (has_here b k i xs h ∙ rw (eq-eqb _ _ e))

pub has-not : (b : List ℕ) (k i : ℕ) (xs : List ℕ) → i < length xs → (entry_day b (k + i) ≡ get_or xs i 0 → ⊥) → has_numbers b (k + i) (drop i xs) ≡ false
has-not b k i xs h n = has_here b k i xs h ∙ rw (ne_eqb _ _ n)

pub has-none : (b : List ℕ) (k i : ℕ) (xs : List ℕ) → length xs ≤ i → has_numbers b k (drop i xs) ≡ true
unfolding has_numbers
has-none b k i xs h = rw (drop_of_length-le xs h)

-- a byte more in the sum, whose bound grows by the largest byte at the last position
weighted-snoc : (p : ℕ) (xs : List ℕ) (x : ℕ) → weighted p (xs ++ (x ∷ [])) ≡ weighted p xs + x * (p + length xs)
unfolding weighted
weighted-snoc p [] x = let z : p + 0 ≡ p = omega arith in rw z (omega arith)
weighted-snoc p (y ∷ xs) x =
    let at : suc p + length xs ≡ p + suc (length xs) = omega arith in
    rw (weighted-snoc (suc p) xs x, at) (omega arith)

pub sum-next : (b : List ℕ) (i : ℕ) → i < length b → checksum (take (i + 1) b) ≡ checksum (take i b) + get_or b i 0 * (i + 1)
unfolding checksum
sum-next b i h =
    let at : 1 + i ≡ i + 1 = omega arith in
    ap (λ (j : ℕ). weighted 1 (take j b)) (add-one i)
    ∙ ap (weighted 1) (take-suc b i 0 h)
    ∙ weighted-snoc 1 (take i b) (get_or b i 0)
    ∙ ap (λ (m : ℕ). weighted 1 (take i b) + get_or b i 0 * m) (ap (λ (m : ℕ). 1 + m) (length-take-le i b (omega arith)) ∙ at)

pub sum-none : (b : List ℕ) → checksum (take 0 b) ≡ 0
unfolding checksum weighted
sum-none [] = refl
sum-none (x ∷ b) = refl

-- a product of a byte and a position
pub product_small : (x p : ℕ) → x < 256 → p ≤ 508 → x * p ≤ 129540
product_small x p h k = mul-le-mul {n₂ = 255} {m₂ = 508} (omega arith) k

-- a day more that is held, and one that is not
days-here : (b : List ℕ) (day i n : ℕ) → i < n → days_hold b i (day + i) (n - i) ≡ (day_holds b i (day + i) && days_hold b (i + 1) (day + (i + 1)) (n - (i + 1)))
unfolding days_hold
days-here b day i n h =
    let one : n - i ≡ suc (n - (i + 1)) = omega arith in
    let later : day + (i + 1) ≡ suc (day + i) = omega arith in
    rw (one, later, add-one i)

module _ (b : List ℕ) (day i n : ℕ) (h : i < n) where
  pub day-past : last_day < day + i → days_hold b i (day + i) (n - i) ≡ false
  unfolding day_holds
  day-past k = days-here b day i n h ∙ rw (lt-leb _ _ k)

  pub day-held : (t : Bool) → day + i ≤ last_day → t ≡ has_numbers b (2 + 13 * i) (day_numbers (day + i)) → t ≡ true → days_hold b (i + 1) (day + (i + 1)) (n - (i + 1)) ≡ days_hold b i (day + i) (n - i)
  unfolding day_holds
  day-held t k e f = sym (days-here b day i n h ∙ rw (le-leb _ _ k, sym e, f))

  pub day-not : (t : Bool) → day + i ≤ last_day → t ≡ has_numbers b (2 + 13 * i) (day_numbers (day + i)) → t ≡ false → days_hold b i (day + i) (n - i) ≡ false
  unfolding day_holds
  day-not t k e f = days-here b day i n h ∙ rw (le-leb _ _ k, sym e, f)

pub days-none : (b : List ℕ) (place day i n : ℕ) → n ≤ i → days_hold b place day (n - i) ≡ true
unfolding days_hold
days-none b place day i n h = let z : n - i ≡ 0 = omega arith in rw z

-- the start of each loop, what a turn keeps, and what its end says
pub has-start : (b : List ℕ) (k : ℕ) (xs : List ℕ) → has_numbers b (k + 0) xs ≡ has_numbers b k xs
has-start b k xs = let at : k + 0 ≡ k = omega arith in ap (λ (j : ℕ). has_numbers b j xs) at

pub put-start : (l : List ℕ) (k : ℕ) (xs : List ℕ) → with_entries_from l (k + 0) xs ≡ with_entries_from l k xs
put-start l k xs = let at : k + 0 ≡ k = omega arith in ap (λ (j : ℕ). with_entries_from l j xs) at

pub put-again :
    (l m l₀ : List ℕ) (k i : ℕ) (xs : List ℕ) →
    i < length xs →
    m ≡ with_entry l (k + i) (get_or xs i 0) →
    with_entries_from l (k + i) (drop i xs) ≡ with_entries_from l₀ k xs →
    with_entries_from m (k + (i + 1)) (drop (i + 1) xs) ≡ with_entries_from l₀ k xs
put-again l m l₀ k i xs h e inv = ap (λ (t : List ℕ). with_entries_from t (k + (i + 1)) (drop (i + 1) xs)) e ∙ put_next l k i xs h ∙ inv

pub put-end : (l l₀ : List ℕ) (k i : ℕ) (xs : List ℕ) → length xs ≤ i → with_entries_from l (k + i) (drop i xs) ≡ with_entries_from l₀ k xs → l ≡ with_entries_from l₀ k xs
unfolding with_entries_from
put-end l l₀ k i xs h inv = sym (ap (with_entries_from l (k + i)) (drop_of_length-le xs h)) ∙ inv

pub zero-again :
    (l m l₀ : List ℕ) (k i n : ℕ) →
    i < n →
    m ≡ with_entry l i 0 →
    with_entries_from l i (replicate (n - i) 0) ≡ with_entries_from l₀ k (replicate (n - k) 0) →
    with_entries_from m (i + 1) (replicate (n - (i + 1)) 0) ≡ with_entries_from l₀ k (replicate (n - k) 0)
zero-again l m l₀ k i n h e inv = ap (λ (t : List ℕ). with_entries_from t (i + 1) (replicate (n - (i + 1)) 0)) e ∙ put-zero l i n h ∙ inv

pub zero-end : (l l₀ : List ℕ) (k i n : ℕ) → n ≤ i → with_entries_from l i (replicate (n - i) 0) ≡ with_entries_from l₀ k (replicate (n - k) 0) → l ≡ with_entries_from l₀ k (replicate (n - k) 0)
unfolding with_entries_from
zero-end l l₀ k i n h inv = let z : n - i ≡ 0 = omega arith in sym (ap (λ (m : ℕ). with_entries_from l i (replicate m 0)) z) ∙ inv

-- the bytes are those with all of the days, where those from place i on are put too
abbrev pub DaysPut : ℕ → ℕ → List ℕ → List ℕ → ℕ → Type 0
DaysPut day n l₀ l i = with_entries_from l (2 + 13 * i) (numbers_of (days_from (day + i) (n - i))) ≡ with_entries_from l₀ 2 (numbers_of (days_from day n))

pub days-start : (l : List ℕ) (day n : ℕ) → DaysPut day n l l 0
days-start l day n =
    let here : day + 0 ≡ day = omega arith in
    let all : n - 0 ≡ n = omega arith in
    ap₂ (λ (d m : ℕ). with_entries_from l 2 (numbers_of (days_from d m))) here all

pub days-again : (l m l₀ xs : List ℕ) (day i n : ℕ) → i < n → xs ≡ day_numbers (day + i) → m ≡ with_entries_from l (2 + 13 * i) xs → DaysPut day n l₀ l i → DaysPut day n l₀ m (i + 1)
days-again l m l₀ xs day i n h x e inv =
    ap (λ (t : List ℕ). with_entries_from t (2 + 13 * (i + 1)) (numbers_of (days_from (day + (i + 1)) (n - (i + 1))))) (e ∙ ap (with_entries_from l (2 + 13 * i)) x) ∙ put-day l day i n h ∙ inv

pub days-end : (l l₀ : List ℕ) (day i n : ℕ) → n ≤ i → DaysPut day n l₀ l i → l ≡ with_entries_from l₀ 2 (numbers_of (days_from day n))
unfolding with_entries_from numbers_of days_from
days-end l l₀ day i n h inv = let z : n - i ≡ 0 = omega arith in sym (ap (λ (m : ℕ). with_entries_from l (2 + 13 * i) (numbers_of (days_from (day + i) m))) z) ∙ inv

-- whether the places from place i on hold their days is whether all do
abbrev pub DaysLeft : ℕ → ℕ → List ℕ → ℕ → Type 0
DaysLeft day n b i = days_hold b i (day + i) (n - i) ≡ days_hold b 0 day n

pub left-start : (b : List ℕ) (day n : ℕ) → DaysLeft day n b 0
left-start b day n =
    let here : day + 0 ≡ day = omega arith in
    let all : n - 0 ≡ n = omega arith in
    ap₂ (days_hold b 0) here all

pub sum-again : (b : List ℕ) (i s x : ℕ) → i < length b → s ≡ checksum (take i b) → x ≡ get_or b i 0 → s + x * (i + 1) ≡ checksum (take (i + 1) b)
sum-again b i s x h e f = ap₂ (λ (a y : ℕ). a + y * (i + 1)) e f ∙ sym (sum-next b i h)

pub sum-all : (b : List ℕ) (i s n : ℕ) → i ≤ n → n ≤ i → s ≡ checksum (take i b) → s ≡ checksum (take n b)
sum-all b i s n h k e = let at : i ≡ n = omega arith in e ∙ ap (λ (j : ℕ). checksum (take j b)) at

-- the number of an entry that is there
pub entry_found : (b : List ℕ) (k : ℕ) → 4 * k + 4 ≤ length b → entry_at b k ≡ Ok (entry_day b k)
unfolding entry_at
entry_found b k h = rw (lt-ltb k (capacity b) (omega arith))

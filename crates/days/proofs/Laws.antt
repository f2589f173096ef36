-- The laws of days and pairs: a number and its pair are one day, the weekday by the pair, and the step case by case; by
-- arithmetic on 4016 C + A.
-- Assumes nothing.
use mathlib.Core.Bool.{Bool, true, false, cond, ◌&&◌, false≢true}
use mathlib.Core.Path.{◌≡◌, refl, sym, ap, ◌∙◌}
use Prim.Native.Nat.{ℕ, ◌+◌, ◌*◌, ◌/◌, ◌%◌, ◌<◌, ◌≤◌}
use native.Mathlib.Decide.{dec_le}
use native.Mathlib.Omega.{arith}
use lib.Dec.{ltb, leb}
use borrow.Author.Tests.{ltb-true, leb-true, lt-ltb, le-leb, lt-leb}
use Rattle.days.specs.declared.Day.{Day}
use Rattle.std.specs.Prelude.{Result, Ok, Err}
use Rattle.days.specs.declared.refusal.Refusal.{Refusal}
use Rattle.days.specs.declared.refusal.Refusal.TheVariants.{OutOfRange, LastBeforeFirst}
use Rattle.days.specs.Refusals.{result_number}
use Rattle.days.specs.Days.{cycle_days, cycles, last_day, count, weekday_on, pair_at, in_range, answer_on, answer_over, check_span, day_of, next_of, refused_span_or, span_refusal}

-- what a pair in range keeps to
pub in-range : (d : Day) → in_range d ≡ true → (d.cycle < cycles) × (d.within < cycle_days)
unfolding in_range
in-range d e = go (ltb d.cycle cycles) refl e
  where
    go : (t : Bool) → ltb d.cycle cycles ≡ t → (t && ltb d.within cycle_days) ≡ true → (d.cycle < cycles) × (d.within < cycle_days)
    go true h k = (ltb-true d.cycle cycles h, ltb-true d.within cycle_days k)
    go false h k = absurd (false≢true k)

pub range-in : (d : Day) → d.cycle < cycles → d.within < cycle_days → in_range d ≡ true
unfolding in_range
range-in d h k = rw (lt-ltb _ _ h, lt-ltb _ _ k)

-- the pair of a day's number is in range
pub pair-in-range : (n : ℕ) → n ≤ last_day → in_range (pair_at n) ≡ true
pair-in-range n h = range-in (pair_at n) (omega arith) (omega arith)

pub day-of : (n : ℕ) → n ≤ last_day → day_of n ≡ Ok (pair_at n)
unfolding day_of
day-of n h = rw (le-leb _ _ h)

pub past-last : (n : ℕ) → last_day < n → day_of n ≡ Err OutOfRange
unfolding day_of
past-last n h = rw (lt-leb _ _ h)

-- what a span that is not refused keeps to, and back
pub record Span (first last : ℕ) : Type 0 where
  pub ordered : first ≤ last
  pub ends : last ≤ last_day

pub span-accepted : (first last : ℕ) → span_refusal first last ≡ 0 → Span first last
unfolding span_refusal
span-accepted first last e = go (leb first last_day) (leb last last_day) (leb first last) refl refl e
  where
    go : (a b o : Bool) → leb last last_day ≡ b → leb first last ≡ o → ◌≡◌ {A = ℕ} (cond (a && b) (cond o 0 5) 2) 0 → Span first last
    go true true true h k e = record { ordered = leb-true _ _ k; ends = leb-true _ _ h }
    go true true false h k e = absurd (omega arith)
    go true false o h k e = absurd (omega arith)
    go false b o h k e = absurd (omega arith)

pub accepts-span : (first last : ℕ) → first ≤ last → last ≤ last_day → span_refusal first last ≡ 0
unfolding span_refusal
accepts-span first last h k = rw (le-leb first last_day (omega arith), le-leb _ _ k, le-leb _ _ h)

-- what stands behind a span's refusal is told only of a span that is not refused
pub span-refused : (first last else : ℕ) → (span_refusal first last ≡ 0 → ⊥) → refused_span_or first last else ≡ span_refusal first last
unfolding span_refusal
span-refused first last else n = go (leb first last_day && leb last last_day) (leb first last) n
  where
    go : (a o : Bool) → (◌≡◌ {A = ℕ} (cond a (cond o 0 5) 2) 0 → ⊥) → cond a (cond o else 5) 2 ≡ cond a (cond o 0 5) 2
    go true true n = absurd (n refl)
    go true false n = refl
    go false o n = refl

pub span-given : (first last else : ℕ) → span_refusal first last ≡ 0 → refused_span_or first last else ≡ else
span-given first last else e = let s = span-accepted first last e in rw (le-leb first last_day (omega (arith, s.ordered, s.ends)), le-leb _ _ s.ends, le-leb _ _ s.ordered)

-- an answer over a span has the number of the span's refusal, or else its own
pub over-number : {A : Type 0} (first last : ℕ) (answer : Result A Refusal) → result_number (answer_over first last answer) ≡ refused_span_or first last (result_number answer)
unfolding answer_over result_number
over-number first last answer = go (leb first last_day && leb last last_day) (leb first last)
  where
    go : (a o : Bool) → result_number (cond a (cond o answer (Err LastBeforeFirst)) (Err OutOfRange)) ≡ cond a (cond o (result_number answer) 5) 2
    go true true = refl
    go true false = refl
    go false o = refl

-- `check_span` refuses the spans that `span_refusal` does, with the refusal of that number
pub check-number : (first last : ℕ) → result_number (check_span first last) ≡ span_refusal first last
unfolding result_number span_refusal
check-number first last = over-number first last (Ok tt)

-- a span that is not refused
pub checked : (first last : ℕ) → Ok tt ≡ check_span first last → Span first last
unfolding result_number
checked first last e = span-accepted first last (sym (check-number first last) ∙ ap result_number (sym e))

pub over-span : {A : Type 0} {first last : ℕ} (answer : Result A Refusal) → Span first last → answer_over first last answer ≡ answer
unfolding answer_over
over-span {first = first} answer s = rw (le-leb first last_day (omega (arith, s.ordered, s.ends)), le-leb _ _ s.ends, le-leb _ _ s.ordered)

-- an answer over a span that is refused is that refusal
pub over-refused : {A : Type 0} (first last : ℕ) (answer : Result A Refusal) {r : Refusal} → Err r ≡ check_span first last → Err r ≡ answer_over first last answer
unfolding answer_over
over-refused first last answer e = go (leb first last_day && leb last last_day) (leb first last) e
  where
    go : {r : Refusal} (a o : Bool) → Err r ≡ cond a (cond o (Ok (tt {0})) (Err LastBeforeFirst)) (Err OutOfRange) → Err r ≡ cond a (cond o answer (Err LastBeforeFirst)) (Err OutOfRange)
    go true true e = absurd cc
    go true false e = cc
    go false o e = cc

-- what is told of a day: given for a day in range, and refused for any other
pub given : {A : Type 0} (f : Day → A) (d : Day) → in_range d ≡ true → answer_on f d ≡ Ok (f d)
unfolding answer_on
given f d e = rw e

pub refused : {A : Type 0} (f : Day → A) (d : Day) → in_range d ≡ false → answer_on f d ≡ Err OutOfRange
unfolding answer_on
refused f d e = rw e

-- and back: what is given is told of a day in range, and what is refused is no day
pub record Told {A : Type 0} (f : Day → A) (d : Day) (a : A) : Type 0 where
  pub range : in_range d ≡ true
  pub value : a ≡ f d

pub told : {A : Type 0} (f : Day → A) (d : Day) {a : A} → Ok a ≡ answer_on f d → Told f d a
unfolding answer_on
told f d {a} e = go (in_range d) refl e
  where
    go : (t : Bool) → in_range d ≡ t → Ok a ≡ cond t (Ok (f d)) (Err OutOfRange) → Told f d a
    go true r e = record { range = r; value = cc }
    go false r e = absurd cc

pub record Untold (d : Day) (r : Refusal) : Type 0 where
  pub range : in_range d ≡ false
  pub refusal : r ≡ OutOfRange

pub untold : {A : Type 0} (f : Day → A) (d : Day) {r : Refusal} → Err r ≡ answer_on f d → Untold d r
unfolding answer_on
untold f d {r} e = go (in_range d) refl e
  where
    go : (t : Bool) → in_range d ≡ t → Err r ≡ cond t (Ok (f d)) (Err OutOfRange) → Untold d r
    go true i e = absurd cc
    go false i e = record { range = i; refusal = cc }

-- two things that are told of a day are refused together
pub refused-too : {A B : Type 0} (f : Day → A) (g : Day → B) (d : Day) {r : Refusal} → Err r ≡ answer_on f d → Err r ≡ answer_on g d
refused-too f g d e = let u = untold f d e in rw (u.refusal, refused g d u.range)

-- the day of a number: there is such a day, and it is its pair
pub record ThatDay (n : ℕ) (d : Day) : Type 0 where
  pub number : n ≤ last_day
  pub pair : d ≡ pair_at n
  pub range : in_range d ≡ true

pub that-day : (n : ℕ) {d : Day} → Ok d ≡ day_of n → ThatDay n d
that-day n {d} e = go (dec_le n last_day)
  where
    go : Dec (n ≤ last_day) → ThatDay n d
    go (yes h) =
        let p : d ≡ pair_at n = cc (day-of n h) in
        record { number = h; pair = p; range = ap in_range p ∙ pair-in-range n h }
    go (no h) = let l : last_day < n = omega arith in absurd (cc (past-last n l))

-- a number that has none
pub record NoSuchDay (n : ℕ) (r : Refusal) : Type 0 where
  pub number : last_day < n
  pub refusal : r ≡ OutOfRange

pub no-such-day : (n : ℕ) {r : Refusal} → Err r ≡ day_of n → NoSuchDay n r
no-such-day n {r} e = go (dec_le n last_day)
  where
    go : Dec (n ≤ last_day) → NoSuchDay n r
    go (yes h) = absurd (cc (day-of n h))
    go (no h) = let l : last_day < n = omega arith in record { number = l; refusal = cc (past-last n l) }

-- number and pair, both ways
pub count-pair : (n : ℕ) → count (pair_at n) ≡ n
count-pair n = omega arith

pub pair-count : (C A : ℕ) → A < cycle_days → pair_at (cycle_days * C + A) ≡ record { cycle = C; within = A }
pair-count C A h =
    let q : (cycle_days * C + A) / cycle_days ≡ C = omega arith in
    let r : (cycle_days * C + A) % cycle_days ≡ A = omega arith in
    rw (q, r)

day-of-pair : (C A : ℕ) → C < cycles → A < cycle_days → day_of (cycle_days * C + A) ≡ Ok (record { cycle = C; within = A })
day-of-pair C A h k = day-of (cycle_days * C + A) (omega arith) ∙ ap Ok (pair-count C A k)

-- the weekday is (5 C + A) mod 7
pub weekday-by-pair : (d : Day) → (5 * d.cycle + d.within) % 7 ≡ weekday_on (count d)
weekday-by-pair d = omega arith

pub next-within : (d : Day) → in_range d ≡ true → d.within < 4015 → next_of d ≡ Ok (record { cycle = d.cycle; within = d.within + 1 })
unfolding next_of
next-within d e h =
    let r = in-range d e in
    let s : count d + 1 ≡ cycle_days * d.cycle + (d.within + 1) = omega arith in
    rw e (ap day_of s ∙ day-of-pair d.cycle (d.within + 1) (omega arith) (omega arith))

pub next-cycle : (d : Day) → in_range d ≡ true → 4015 ≤ d.within → d.cycle < 99 → next_of d ≡ Ok (record { cycle = d.cycle + 1; within = 0 })
unfolding next_of
next-cycle d e h k =
    let r = in-range d e in
    let s : count d + 1 ≡ cycle_days * (d.cycle + 1) + 0 = omega arith in
    rw e (ap day_of s ∙ day-of-pair (d.cycle + 1) 0 (omega arith) (omega arith))

pub next-none : (d : Day) → in_range d ≡ true → 4015 ≤ d.within → 99 ≤ d.cycle → next_of d ≡ Err OutOfRange
unfolding next_of
next-none d e h k = let r = in-range d e in rw e (past-last (count d + 1) (omega arith))

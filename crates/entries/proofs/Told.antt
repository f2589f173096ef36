-- What is told of what is put, case by case: it is refused, there is too little room, or all is put. Assumes nothing.
use Prim.Native.Nat.{ℕ, ◌≤◌, ◌<◌}
use mathlib.Core.Bool.{Bool, true, false, cond, ◌&&◌}
use mathlib.Core.Path.{◌≡◌, refl}
use native.Mathlib.Omega.{arith}
use lib.Dec.{leb, eqb}
use borrow.Author.Tests.{le-leb, lt-leb, leb-true}
use Rattle.std.specs.Prelude.{Result, Ok, Err}
use Rattle.days.specs.declared.refusal.Refusal.{Refusal}
use Rattle.days.specs.declared.refusal.Refusal.TheVariants.{NoSuchDate, OutOfRange, BadInput, NoSuchWeekday, LastBeforeFirst, BadCondition, ListTooShort, NoExtraMonth, BadLength, BadChecksum, BadIndex, NotZero, BadDay, BadEdition, BadLine, NoSuchBody}
use Rattle.days.specs.Refusals.{number_or_zero, refusal_number}
use Rattle.days.specs.Days.{last_day, refused_span_or, answer_over, check_span}
use Rattle.days.proofs.Laws.{Span, checked}
use Rattle.entries.specs.declared.NotPut.TheVariants.{Refused, TooShort}
use Rattle.entries.specs.Told.{put_if, put_number, length_told}

module _ (needed : Result ℕ Refusal) (room : ℕ) where
  pub not-put : {r : Refusal} → Err r ≡ needed → Err (Refused r) ≡ put_if needed room
  unfolding put_if
  not-put e = rw (← e)

  pub put-short : {n : ℕ} → Ok n ≡ needed → room < n → Err (TooShort n) ≡ put_if needed room
  unfolding put_if
  put-short {n} e h = rw (← e, lt-leb n room h)

  pub put-done : {n : ℕ} → Ok n ≡ needed → n ≤ room → Ok n ≡ put_if needed room
  unfolding put_if
  put-done {n} e h = rw (← e, le-leb n room h)

  -- and back: what is put, would do or is refused was needed so
  pub put-all : {n : ℕ} → Ok n ≡ put_if needed room → Ok n ≡ needed
  unfolding put_if
  put-all e = go needed e
    where
      fits : (n m : ℕ) (t : Bool) → Ok n ≡ cond t (Ok m) (Err (TooShort m)) → ◌≡◌ {A = Result ℕ Refusal} (Ok n) (Ok m)
      fits n m true e = cc
      fits n m false e = absurd cc

      go : {n : ℕ} (a : Result ℕ Refusal) → Ok n ≡ put_if a room → Ok n ≡ a
      go {n} (Ok m) e = fits n m (leb m room) e
      go (Err r) e = absurd cc

  pub would-do : {n : ℕ} → Err (TooShort n) ≡ put_if needed room → Ok n ≡ needed
  unfolding put_if
  would-do e = go needed e
    where
      short : (n m : ℕ) (t : Bool) → Err (TooShort n) ≡ cond t (Ok m) (Err (TooShort m)) → ◌≡◌ {A = Result ℕ Refusal} (Ok n) (Ok m)
      short n m true e = absurd cc
      short n m false e = cc

      go : {n : ℕ} (a : Result ℕ Refusal) → Err (TooShort n) ≡ put_if a room → Ok n ≡ a
      go {n} (Ok m) e = short n m (leb m room) e
      go (Err r) e = absurd cc

  pub refused-so : {r : Refusal} → Err (Refused r) ≡ put_if needed room → Err r ≡ needed
  unfolding put_if
  refused-so e = go needed e
    where
      never : (r : Refusal) (m : ℕ) (t : Bool) → Err (Refused r) ≡ cond t (Ok m) (Err (TooShort m)) → ◌≡◌ {A = Result ℕ Refusal} (Err r) (Ok m)
      never r m true e = absurd cc
      never r m false e = absurd cc

      go : {r : Refusal} (a : Result ℕ Refusal) → Err (Refused r) ≡ put_if a room → Err r ≡ a
      go {r} (Ok m) e = never r m (leb m room) e
      go (Err q) e = cc

  -- the length that is told is the one that is needed
  pub told-length : length_told (put_if needed room) ≡ number_or_zero needed
  unfolding put_if length_told number_or_zero
  told-length = go needed
    where
      fits : (n : ℕ) (t : Bool) → length_told (cond t (Ok n) (Err (TooShort n))) ≡ n
      fits n true = refl
      fits n false = refl

      go : (a : Result ℕ Refusal) → length_told (put_if a room) ≡ number_or_zero a
      go (Ok n) = fits n (leb n room)
      go (Err r) = refl

-- over a span: the span's refusal, then 7 where there is too little room
pub span-number : (first last n room : ℕ) → put_number (put_if (answer_over first last (Ok n)) room) ≡ refused_span_or first last (cond (leb n room) 0 7)
unfolding put_if put_number answer_over
span-number first last n room = go (leb first last_day && leb last last_day) (leb first last) (leb n room)
  where
    put : (t : Bool) → put_number (cond t (Ok n) (Err (TooShort n))) ≡ cond t 0 7
    put true = refl
    put false = refl

    go : (a o t : Bool) → put_number (put_if (cond a (cond o (Ok n) (Err LastBeforeFirst)) (Err OutOfRange)) room) ≡ cond a (cond o (cond (leb n room) 0 7) 5) 2
    go true true t = put (leb n room)
    go true false t = refl
    go false o t = refl

-- what stands behind a span's refusal, where the span is refused and where it is not
pub behind-refused : (first last else : ℕ) {r : Refusal} → Err r ≡ check_span first last → eqb (refused_span_or first last else) 0 ≡ false
unfolding answer_over
behind-refused first last else e = go (leb first last_day && leb last last_day) (leb first last) e
  where
    go : {r : Refusal} (a o : Bool) → Err r ≡ cond a (cond o (Ok (tt {0})) (Err LastBeforeFirst)) (Err OutOfRange) → eqb (cond a (cond o else 5) 2) 0 ≡ false
    go true true e = absurd cc
    go true false e = refl
    go false o e = refl

pub behind-checked : (first last else : ℕ) → Ok tt ≡ check_span first last → refused_span_or first last else ≡ else
behind-checked first last else e =
    let s = checked first last e in
    rw (le-leb first last_day (omega (arith, s.ordered, s.ends)), le-leb _ _ s.ends, le-leb _ _ s.ordered)

-- no refusal has the number 0
pub refused-number : (r : Refusal) → eqb (refusal_number r) 0 ≡ false
refused-number NoSuchDate = refl
refused-number OutOfRange = refl
refused-number BadInput = refl
refused-number NoSuchWeekday = refl
refused-number LastBeforeFirst = refl
refused-number BadCondition = refl
refused-number ListTooShort = refl
refused-number NoExtraMonth = refl
refused-number BadLength = refl
refused-number BadChecksum = refl
refused-number BadIndex = refl
refused-number NotZero = refl
refused-number BadDay = refl
refused-number BadEdition = refl
refused-number BadLine = refl
refused-number NoSuchBody = refl

-- what is told over a span is told of a span that is not refused
pub record Given {A : Type 0} (first last : ℕ) (answer : Result A Refusal) (a : A) : Type 0 where
  pub span : Span first last
  pub given : Ok a ≡ answer

pub over-given : {A : Type 0} (first last : ℕ) (answer : Result A Refusal) {a : A} → Ok a ≡ answer_over first last answer → Given first last answer a
unfolding answer_over
over-given first last answer {a} e = go (leb first last_day) (leb last last_day) (leb first last) refl refl e
  where
    go : (x y o : Bool) → leb last last_day ≡ y → leb first last ≡ o → Ok a ≡ cond (x && y) (cond o answer (Err LastBeforeFirst)) (Err OutOfRange) → Given first last answer a
    go true true true h k e = record { span = record { ordered = leb-true _ _ k; ends = leb-true _ _ h }; given = e }
    go true true false h k e = absurd cc
    go true false o h k e = absurd cc
    go false y o h k e = absurd cc

-- The thirty days from a first one on: how many they are, which stands where, and that all of them are in range where
-- the last one is.
-- Assumes nothing.
use mathlib.Core.Path.{◌≡◌, refl, sym, ap, ◌∙◌}
use mathlib.Core.Bool.{true, false}
use mathlib.Core.List.{List, [], ◌∷◌, map}
use Prim.Native.Nat.{ℕ, zero, suc, ◌+◌, ◌≤◌, ◌<◌}
use native.Mathlib.Decide.{dec_le}
use native.Mathlib.Omega.{arith}
use lib.ListN.{length, get_or}
use lib.Seq.{ext_get_or}
use denote.Param.Members.{Mut, Called}
use Rattle.std.specs.Array.{IsFromFnResultFrom, IsFromFnResult}
use borrow.Author.Tests.{le-leb, lt-leb}
use Rattle.std.specs.Prelude.{Ok, Err}
use Rattle.days.specs.declared.refusal.Refusal.TheVariants.{OutOfRange, BadEdition}
use Rattle.days.specs.Days.{last_day, days_from}
use Rattle.panchanga.specs.TrueLongitudes.{is_edition}
use Rattle.records.specs.declared.DayRecord.{DayRecord}
use Rattle.records.specs.Records.{record_on, unfilled_on, all_days, filled_after, month_of}
use Rattle.records.proofs.Answers.{filling, fill-given}

module _ {A : Type 0} (f : ℕ → A) where
  days-long : (n m : ℕ) → length (map f (days_from n m)) ≡ m
  unfolding days_from
  days-long n zero = refl
  days-long n (suc m) = ap suc (days-long (suc n) m)

  days-at : (n m k : ℕ) (d : A) → k < m → get_or (map f (days_from n m)) k d ≡ f (n + k)
  unfolding days_from
  days-at n zero k d h = absurd (omega arith)
  days-at n (suc m) zero d h = ap f (omega arith)
  days-at n (suc m) (suc k) d h = days-at (suc n) m k d (omega arith) ∙ ap f (omega arith)

  pub thirty-long : (n : ℕ) → length (map f (days_from n 30)) ≡ 30
  thirty-long n = days-long n 30

  pub thirty-at : (n k : ℕ) (d : A) → k < 30 → get_or (map f (days_from n 30)) k d ≡ f (n + k)
  thirty-at n k d h = days-at n 30 k d h

  -- thirty that a closure gave, each by its index
  module _ {F : Type 0} (g : Mut F (ℕ × Unit {0}) A) (n : ℕ) (d : A) where
    each : (p : F) (ys : List A) (i m : ℕ) → IsFromFnResultFrom g p ys i m → ((k : ℕ) (y : A) (q : F) → Called g p (k, tt) y q → (q ≡ p) × (y ≡ f (n + k))) → (k : ℕ) → i ≤ k → k < i + m → get_or ys k d ≡ f (n + k)
    each p ys i zero e h k l u = absurd (omega arith)
    each p ys i (suc m) e h k l u =
        go (dec_le k i) (λ (w : i < k). each p ys (i + 1) m (rw (h i e.1 e.0 e.3).0 at e.4) h k (omega arith) (omega arith))
      where
        go : Dec (k ≤ i) → (i < k → get_or ys k d ≡ f (n + k)) → get_or ys k d ≡ f (n + k)
        go (yes w) later =
            let s : k ≡ i = omega arith in
            rw s (e.2.1 d ∙ (h i e.1 e.0 e.3).1)
        go (no w) later = later (omega arith)

    pub thirty-is : (p : F) (ys : List A) → IsFromFnResult g p ys 30 → ((k : ℕ) (y : A) (q : F) → Called g p (k, tt) y q → (q ≡ p) × (y ≡ f (n + k))) → ys ≡ map f (days_from n 30)
    thirty-is p ys r h =
        ext_get_or d ys _ (r.long ∙ sym (thirty-long n)) (λ k l. each p ys 0 30 r.each h k (omega arith) (omega (arith, r.long)) ∙ sym (thirty-at n k d (omega (arith, r.long))))

-- the days from n on are in range where the last of them is
days-in : (n m : ℕ) → n + m ≤ suc last_day → all_days (map unfilled_on (days_from n m)) ≡ true
unfolding days_from all_days
days-in n zero h = refl
days-in n (suc m) h = rw (le-leb n last_day (omega arith), days-in (suc n) m (omega arith))

pub thirty-in : (n : ℕ) → n + 29 ≤ last_day → all_days (map unfilled_on (days_from n 30)) ≡ true
thirty-in n h = days-in n 30 (omega arith)

filled-days : (e : ℕ) (ns : List ℕ) → map (filling e) (map unfilled_on ns) ≡ map (record_on e) ns
filled-days e [] = refl
filled-days e (n ∷ ns) = ap (λ (xs : List DayRecord). record_on e n ∷ xs) (filled-days e ns)

module _ (e n : ℕ) where
  pub month-bad-edition : is_edition e ≡ false → month_of e n ≡ Err BadEdition
  unfolding month_of
  month-bad-edition b = rw b

  pub month-out-of-range : is_edition e ≡ true → last_day < n + 29 → month_of e n ≡ Err OutOfRange
  unfolding month_of
  month-out-of-range b h = rw (b, lt-leb (n + 29) last_day h)

  module _ (b : is_edition e ≡ true) (h : n + 29 ≤ last_day) where
    pub month-given : month_of e n ≡ Ok (map (record_on e) (days_from n 30))
    unfolding month_of
    month-given = rw (b, le-leb (n + 29) last_day h)

    -- filled together they are the month's
    pub thirty-filled : filled_after e (map unfilled_on (days_from n 30)) ≡ map (record_on e) (days_from n 30)
    thirty-filled = sym (fill-given e _ b (thirty-in n h)).1 ∙ filled-days e (days_from n 30)

-- The signs passed, by the unrolled Sun: they never fall, a day adds none or one, the sign in which the Sun stands is
-- what is left of them by twelves, and a day enters a sign exactly where they grow. Assumes nothing.
use mathlib.Core.Path.{◌≡◌, refl, sym, ap, ◌∙◌}
use mathlib.Core.Bool.{Bool, true, false}
use Prim.Native.Nat.{ℕ, zero, suc, ◌+◌, ◌-◌, ◌*◌, ◌/◌, ◌%◌, ◌≤◌, ◌<◌}
use native.Mathlib.Decide.{dec_le}
use native.Mathlib.Omega.{arith}
use lib.Dec.{ltb}
use borrow.Author.Tests.{eq-eqb, ne_eqb, ltb-true, ltb-false}
use Rattle.longitudes.proofs.Sun.{unrolled, unrolled-at, mono, day-most, days-most, days-least}
use Rattle.zodiac.specs.declared.Sun.{Sun}
use Rattle.zodiac.specs.declared.Sun.TheVariants.{Mean, True}
use Rattle.zodiac.specs.Zodiac.{sign_on, enters_on}
use Rattle.zodiac.specs.Passed.{delay_of, entry_at_seconds, passed_by, signs_passed, day_by, day_passing}
use Rattle.zodiac.proofs.Suns.{shown_by, shown-by-mono, shown-by-sign, unrolled-least, reached, unreached, least_sign, delay-small, sign-long, next-entry}

-- u seconds of the mean Sun are from where k signs are passed to before the next one is
pub record Within (sun : Sun) (k u : ℕ) : Type 0 where
  pub some : 11 ≤ k
  pub from : entry_at_seconds sun k ≤ u
  pub to : u < entry_at_seconds sun (k + 1)

-- by the mean Sun with the lead, whose sign is not yet entered, or is
module _ (sun : Sun) (u : ℕ) (h : 1258860 ≤ u) where
  not_yet : (u + 7728) % 108000 < delay_of sun ((u + 7728) / 108000) → Within sun ((u + 7728) / 108000 - 1) u
  not_yet w =
      let k = (u + 7728) / 108000 in
      let same : delay_of sun (k - 1 + 1) ≡ delay_of sun k = ap (delay_of sun) (omega arith) in
      omega (arith, delay-small sun k, delay-small sun (k - 1))

  by-now : delay_of sun ((u + 7728) / 108000) ≤ (u + 7728) % 108000 → Within sun ((u + 7728) / 108000) u
  by-now w = omega (arith, delay-small sun ((u + 7728) / 108000))

-- the day on which k signs are passed: not the day before
pub record Passes (sun : Sun) (k d : ℕ) : Type 0 where
  pub some : 1 ≤ k
  pub later : 0 < d
  pub here : entry_at_seconds sun k ≤ unrolled d
  pub not-before : unrolled (d - 1) < entry_at_seconds sun k

module _ (sun : Sun) where
  pub within : (n : ℕ) → Within sun (signs_passed sun n) (unrolled n)
  unfolding passed_by unrolled
  within n = go (ltb ((unrolled n + 7728) % 108000) (delay_of sun ((unrolled n + 7728) / 108000))) refl
    where
      go : (b : Bool) → ltb ((unrolled n + 7728) % 108000) (delay_of sun ((unrolled n + 7728) / 108000)) ≡ b → Within sun (signs_passed sun n) (unrolled n)
      go true e = rw e (not_yet sun (unrolled n) (unrolled-least n) (ltb-true _ _ e))
      go false e = rw e (by-now sun (unrolled n) (unrolled-least n) (ltb-false _ _ e))

  -- by the Sun that is meant
  pub passed : (n : ℕ) → signs_passed sun n ≡ shown_by sun (unrolled n) / 108000
  passed n =
      let k = signs_passed sun n in
      let w = within n in
      omega (arith, w.some, reached sun k (unrolled n) (omega (arith, w.some)) w.from, unreached sun (k + 1) (unrolled n) (omega arith) w.to)

  pub passed-at : {m n : ℕ} → m ≡ n → signs_passed sun m ≡ signs_passed sun n
  passed-at e = ap (signs_passed sun) e

  pub passed-mono : (n k : ℕ) → signs_passed sun n ≤ signs_passed sun (n + k)
  passed-mono n k = omega (arith, passed n, passed (n + k), shown-by-mono sun (unrolled n) (unrolled (n + k)) (mono n k))

  pub passed_first : (n : ℕ) → 11 ≤ signs_passed sun n
  passed_first n = (within n).some

  pub passed-last : (n : ℕ) → n ≤ 401599 → signs_passed sun n ≤ 13205
  unfolding unrolled
  passed-last n h = omega (arith, (within n).from)

  -- the sign is what is left by twelves
  pub sign-on : (n : ℕ) → sign_on sun n ≡ signs_passed sun n % 12
  sign-on n = shown-by-sign sun n ∙ ap (λ (k : ℕ). k % 12) (sym (passed n))

  -- no day before the one on which they are passed has passed them
  pub not-sooner : (k d n : ℕ) → Passes sun k d → n < d → signs_passed sun n < k
  not-sooner k d n p h =
      let before : unrolled n < entry_at_seconds sun k =
      omega (arith, p.not-before, mono n (d - 1 - n), unrolled-at {m = n + (d - 1 - n)} {n = d - 1} (omega arith)) in
      omega (arith, passed n, unreached sun k (unrolled n) p.some before)

  pub passed-day : (n : ℕ) → signs_passed sun (n + 1) ≤ signs_passed sun n + 1
  passed-day n =
      let k = signs_passed sun n in
      let w = within n in
      let next : unrolled (n + 1) < entry_at_seconds sun (k + 1 + 1) = omega (arith, w.to, day-most n, (next-entry sun (k + 1) (omega arith)).0, sign-long sun) in
      omega (arith, passed (n + 1), unreached sun (k + 1 + 1) (unrolled (n + 1)) (omega arith) next)

  pub passed_then : (k d : ℕ) → Passes sun k d → signs_passed sun d ≡ k
  passed_then k d p =
      omega (
        arith,
        passed d,
        reached sun k (unrolled d) p.some p.here,
        not-sooner k d (d - 1) p (omega (arith, p.later)),
        passed-day (d - 1),
        passed-at {m = d - 1 + 1} {n = d} (omega (arith, p.later)),
      )

  -- a day on which they stay is no entry, and one on which they grow is
  pub stays : (n : ℕ) → signs_passed sun (n + 1) ≡ signs_passed sun n → enters_on sun (n + 1) ≡ false
  unfolding enters_on
  stays n e =
      let before : n + 1 - 1 ≡ n = omega arith in
      rw (before, eq-eqb (sign_on sun (n + 1)) (sign_on sun n) (sign-on (n + 1) ∙ ap (λ (s : ℕ). s % 12) e ∙ sym (sign-on n)))

  pub enters : (n : ℕ) → signs_passed sun n < signs_passed sun (n + 1) → enters_on sun (n + 1) ≡ true
  unfolding enters_on
  enters n h =
      let before : n + 1 - 1 ≡ n = omega arith in
      rw (before, ne_eqb (sign_on sun (n + 1)) (sign_on sun n) (λ e. omega (arith, sign-on n, sign-on (n + 1), passed-day n, h, e)))

-- A days into cycle C, with x seconds to go in it
module _ (C A x : ℕ) (up : 124186 * A ≤ 35 * x + 124185) (down : 35 * x ≤ 124186 * A) (short : x < 14249449) where
  begun : A ≤ 4016
  begun = omega arith

  in-cycle : A < 4016 → 1258860 + C * 14249449 + x ≤ unrolled (4016 * C + A)
  unfolding unrolled
  in-cycle h =
      let c : (4016 * C + A) / 4016 ≡ C = omega arith in
      let a : (4016 * C + A) % 4016 ≡ A = omega arith in
      rw (c, a) (omega arith)

  at_turn : A ≡ 4016 → 1258860 + C * 14249449 + x ≤ unrolled (4016 * C + A)
  unfolding unrolled
  at_turn e =
      let c : (4016 * C + A) / 4016 ≡ C + 1 = omega arith in
      let a : (4016 * C + A) % 4016 ≡ 0 = omega arith in
      rw (c, a) (omega arith)

  reaches : 1258860 + C * 14249449 + x ≤ unrolled (4016 * C + A)
  reaches = go (dec_le A 4015)
    where
      go : Dec (A ≤ 4015) → 1258860 + C * 14249449 + x ≤ unrolled (4016 * C + A)
      go (yes h) = in-cycle (omega arith)
      go (no h) = at_turn (omega (arith, begun))

  within-before : 0 < A → unrolled (4016 * C + A - 1) < 1258860 + C * 14249449 + x
  unfolding unrolled
  within-before h =
      let c : (4016 * C + A - 1) / 4016 ≡ C = omega (arith, begun) in
      let a : (4016 * C + A - 1) % 4016 ≡ A - 1 = omega (arith, begun) in
      rw (c, a) (omega arith)

  turn-before : A ≡ 0 → 0 < C → unrolled (4016 * C + A - 1) < 1258860 + C * 14249449 + x
  unfolding unrolled
  turn-before e h =
      let c : (4016 * C + A - 1) / 4016 ≡ C - 1 = omega arith in
      let a : (4016 * C + A - 1) % 4016 ≡ 4015 = omega arith in
      rw (c, a) (omega arith)

  not-reached : 0 < C + x → unrolled (4016 * C + A - 1) < 1258860 + C * 14249449 + x
  not-reached h = go (dec_le A 0)
    where
      go : Dec (A ≤ 0) → unrolled (4016 * C + A - 1) < 1258860 + C * 14249449 + x
      go (yes e) = turn-before (omega arith) (omega arith)
      go (no e) = within-before (omega arith)

pub day-passing : (sun : Sun) (k : ℕ) → 12 ≤ k → Passes sun k (day_passing sun k)
unfolding day_by
day-passing sun k h = passing (seconds_of / 14249449) (seconds_of % 14249449) ((35 * (seconds_of % 14249449) + 124185) / 124186) (omega arith) (omega arith) (omega arith) (omega arith)
  where
    seconds_of : ℕ
    seconds_of = entry_at_seconds sun k - 1258860

    passing :
        (C x A : ℕ) →
        entry_at_seconds sun k ≡ 1258860 + C * 14249449 + x →
        x < 14249449 →
        124186 * A ≤ 35 * x + 124185 →
        35 * x ≤ 124186 * A →
        Passes sun k (4016 * C + A)
    passing C x A e s up down =
        record {
          some = omega arith;
          later = omega arith;
          here = omega (arith, reaches C A x up down s);
          not-before = omega (arith, not-reached C A x up down s (omega arith));
        }

-- ---- how many days later the next sign is passed
module _ (sun : Sun) (k a b : ℕ) (p : Passes sun k a) (q : Passes sun (k + 1) b) where
  -- the day's own advance takes it less than a day's most past the entry
  start : unrolled a < entry_at_seconds sun k + 3549
  start = omega (arith, p.not-before, p.later, day-most (a - 1), unrolled-at {m = a - 1 + 1} {n = a} (omega (arith, p.later)))

  soonest : (days : ℕ) → entry_at_seconds sun k + 3549 * (days + 1) ≤ entry_at_seconds sun (k + 1) → a + (days + 1) ≤ b
  soonest days far = go (dec_le (a + (days + 1)) b)
    where
      go : Dec (a + (days + 1) ≤ b) → a + (days + 1) ≤ b
      go (yes h) = h
      go (no h) = absurd (omega (arith, start, q.here, days-most a days, mono b (a + days - b), unrolled-at {m = b + (a + days - b)} {n = a + days} (omega arith)))

  latest : (days : ℕ) → days ≤ 366 → entry_at_seconds sun (k + 1) + 320 ≤ entry_at_seconds sun k + 3549 * days → b ≤ a + days
  latest days few near = go (dec_le b (a + days))
    where
      go : Dec (b ≤ a + days) → b ≤ a + days
      go (yes h) = h
      go (no h) = absurd (omega (arith, p.here, q.not-before, days-least a days few, mono (a + days) (b - 1 - (a + days)), unrolled-at {m = a + days + (b - 1 - (a + days))} {n = b - 1} (omega arith)))

-- the fewest days from an entry to the next one, and the most
abbrev pub fewest_days : Sun → ℕ
fewest_days Mean = 30
fewest_days True = 29

abbrev pub most_days : Sun → ℕ
most_days Mean = 31
most_days True = 32

pub passes-next : (sun : Sun) (k a b : ℕ) → Passes sun k a → Passes sun (k + 1) b → (a + fewest_days sun ≤ b) × (b ≤ a + most_days sun)
passes-next Mean k a b p q =
    let gap = next-entry Mean k p.some in
    (soonest Mean k a b p q 29 (omega arith), latest Mean k a b p q 31 (omega arith) (omega arith))
passes-next True k a b p q =
    let gap = next-entry True k p.some in
    (soonest True k a b p q 28 (omega arith), latest True k a b p q 32 (omega arith) (omega arith))

-- m signs more are passed at least so many seconds later
pub entries-apart : (sun : Sun) (k m : ℕ) → 1 ≤ k → entry_at_seconds sun k + least_sign sun * m ≤ entry_at_seconds sun (k + m)
entries-apart sun k zero h = omega (arith, ap (delay_of sun) {x = k + 0} {y = k} (omega arith))
entries-apart sun k (suc m) h =
    omega (arith, entries-apart sun k m h, (next-entry sun (k + m) (omega arith)).0, ap (delay_of sun) {x = k + suc m} {y = k + m + 1} (omega arith))

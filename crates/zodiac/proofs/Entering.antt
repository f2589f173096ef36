-- The entries of a span are the days on which its signs are passed, one after another: between two of these days none
-- enters a sign; by induction on the signs left.
-- Assumes nothing.
use mathlib.Core.Path.{◌≡◌, refl, ap, ◌∙◌}
use mathlib.Core.Bool.{true, false}
use mathlib.Core.List.{List, ◌∷◌}
use Prim.Native.Nat.{ℕ, zero, suc, ◌+◌, ◌-◌, ◌≤◌, ◌<◌}
use native.Mathlib.Decide.{dec_le}
use native.Mathlib.Omega.{arith}
use lib.ListN.{length, get_or}
use Rattle.days.specs.Days.{days_from}
use Rattle.entries.specs.Runs.{filtered}
use Rattle.entries.proofs.Filter.{filtered-at, filtered-front, filtered-in, filtered-none}
use Rattle.zodiac.specs.declared.Sun.{Sun}
use Rattle.zodiac.specs.Zodiac.{enters_on, sign_entries}
use Rattle.zodiac.specs.Passed.{signs_passed, day_passing, days_by, days_passing}
use Rattle.zodiac.proofs.Passed.{Passes, passed-at, passed-mono, passed_first, stays, enters, day-passing, not-sooner, passed_then}

module _ (sun : Sun) where
  -- on the days from a to b, none of which passes a sign more than day a, none enters one
  none-enters : (a b i : ℕ) → signs_passed sun b ≡ signs_passed sun a → a + 1 + i ≤ b → enters_on sun (a + 1 + i) ≡ false
  none-enters a b i e h =
      let next : a + 1 + i ≡ a + i + 1 = omega arith in
      ap (enters_on sun) next
      ∙ stays sun (a + i)
      (omega (
        arith,
        e,
        passed-mono sun a i,
        passed-mono sun (a + i) 1,
        passed-mono sun (a + i + 1) (b - (a + i + 1)),
        passed-at sun {m = a + i + 1 + (b - (a + i + 1))} {n = b} (omega arith),
      ))

  -- d is the day on which the sign after those that day a has passed is
  module _ (a last d : ℕ) (p : Passes sun (signs_passed sun a + 1) d) where
    after : a < d
    after = go (dec_le (suc a) d)
      where
        go : Dec (suc a ≤ d) → a < d
        go (yes l) = l
        go (no l) = absurd (omega (arith, passed_then sun _ d p, passed-mono sun d (a - d), passed-at sun {m = d + (a - d)} {n = a} (omega arith)))

    in-span : signs_passed sun a < signs_passed sun last → d ≤ last
    in-span h = go (dec_le d last)
      where
        go : Dec (d ≤ last) → d ≤ last
        go (yes l) = l
        go (no l) = absurd (omega (arith, h, not-sooner sun _ d last p (omega arith)))

    quiet : (i : ℕ) → i < d - (a + 1) → enters_on sun (a + 1 + i) ≡ false
    quiet i l =
        none-enters a (a + 1 + i) i
        (omega (arith, not-sooner sun _ d (a + 1 + i) p (omega arith), passed-mono sun a (1 + i), passed-at sun {m = a + (1 + i)} {n = a + 1 + i} (omega arith)))
        (omega arith)

    entered : enters_on sun d ≡ true
    entered =
        let next : d ≡ d - 1 + 1 = omega (arith, p.later) in
        ap (enters_on sun) next ∙ enters sun (d - 1) (omega (arith, not-sooner sun _ d (d - 1) p (omega (arith, p.later)), passed_then sun _ d p, passed-at sun next))

    -- it is the first entry after day a
    first_entry : signs_passed sun a < signs_passed sun last → filtered (enters_on sun) (days_from (a + 1) (last - a)) ≡ d ∷ filtered (enters_on sun) (days_from (d + 1) (last - d))
    unfolding days_from
    first_entry h =
        let l = after in
        let s = in-span h in
        filtered-front (enters_on sun) (d - (a + 1)) (a + 1) (last - a) quiet
        ∙ filtered-at (enters_on sun) (a + 1 + (d - (a + 1))) (last - a - (d - (a + 1))) d (suc (last - d)) (omega arith) (omega arith)
        ∙ filtered-in (enters_on sun) d (days_from (suc d) (last - d)) entered
        ∙ ap (λ (t : List ℕ). d ∷ t) (filtered-at (enters_on sun) (suc d) (last - d) (d + 1) (last - d) (omega arith) refl)

  entering : (m a last : ℕ) → a ≤ last → signs_passed sun a + m ≡ signs_passed sun last → filtered (enters_on sun) (days_from (a + 1) (last - a)) ≡ days_passing sun (signs_passed sun a + 1) m
  unfolding days_by
  entering zero a last h e = filtered-none (enters_on sun) (a + 1) (last - a) (λ i l. none-enters a last i (omega arith) (omega arith))
  entering (suc m) a last h e =
      let p = day-passing sun (signs_passed sun a + 1) (omega (arith, passed_first sun a)) in
      let d = day_passing sun (signs_passed sun a + 1) in
      let s = passed_then sun (signs_passed sun a + 1) d p in
      first_entry a last d p (omega arith)
      ∙ ap (λ (t : List ℕ). d ∷ t) (entering m d last (in-span a last d p (omega arith)) (omega (arith, s)) ∙ ap (λ (k : ℕ). days_passing sun k m) (omega (arith, s)))

  pub by_sign : (first last : ℕ) → first ≤ last → sign_entries sun first last ≡ days_passing sun (signs_passed sun first + 1) (signs_passed sun last - signs_passed sun first)
  unfolding sign_entries
  by_sign first last h =
      entering (signs_passed sun last - signs_passed sun first) first last h
      (omega (arith, passed-mono sun first (last - first), passed-at sun {m = first + (last - first)} {n = last} (omega arith)))

  pub passing-length : (k m : ℕ) → length (days_passing sun k m) ≡ m
  unfolding days_by
  passing-length k zero = refl
  passing-length k (suc m) = ap suc (passing-length (suc k) m)

  pub passing-at : (k m i : ℕ) → i < m → get_or (days_passing sun k m) i 0 ≡ day_passing sun (k + i)
  unfolding days_by
  passing-at k zero i h = absurd (omega arith)
  passing-at k (suc m) zero h = ap (day_passing sun) (omega arith)
  passing-at k (suc m) (suc i) h = passing-at (suc k) m i (omega arith) ∙ ap (day_passing sun) (omega arith)

  -- THE COUNT: the signs that the Sun passes between the ends
  pub entries-count : (first last : ℕ) → first ≤ last → length (sign_entries sun first last) ≡ signs_passed sun last - signs_passed sun first
  entries-count first last h = ap length (by_sign first last h) ∙ passing-length _ _

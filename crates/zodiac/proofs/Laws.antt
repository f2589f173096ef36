-- The laws beside the entries of a span, by the mean Sun or the true one: exactly the days that enter a sign, each
-- once, earliest first; the signs follow in a circle of twelve; neighbouring entries are 30 or 31 days apart, the true
-- Sun's 29 to 32, so there are few; none of the mean Sun comes sooner than its largest advance allows; and what is
-- written is read back. By the signs passed, which grow by one at each entry.
-- Assumes nothing.
use mathlib.Core.Path.{◌≡◌, sym, ap, ◌∙◌}
use mathlib.Core.Bool.{true, false, false≢true}
use mathlib.Core.List.{List}
use Prim.Native.Nat.{ℕ, ◌+◌, ◌-◌, ◌*◌, ◌/◌, ◌%◌, ◌≤◌, ◌<◌}
use native.Mathlib.Decide.{dec_le}
use native.Mathlib.Omega.{arith}
use lib.ListN.{length, get_or}
use Rattle.days.specs.Days.{last_day, pair_at, days_from}
use Rattle.std.specs.Prelude.{Ok}
use Rattle.entries.specs.Entries.{capacity, with_entries, entry_at}
use Rattle.entries.proofs.Laws.{entries-read}
use Rattle.entries.proofs.Lists.{Ascending, Has, days-ascend, listed, has-filtered, in-days, has-at}
use Rattle.integers.specs.RoundedUp.{rounded_up}
use Rattle.longitudes.specs.Longitudes.{longitude_at}
use Rattle.longitudes.proofs.Sun.{unrolled-at, unrolled-reduced, days-most}
use Rattle.zodiac.specs.declared.Sun.{Sun}
use Rattle.zodiac.specs.declared.Sun.TheVariants.{Mean, True}
use Rattle.zodiac.specs.Zodiac.{sign_seconds, sign_on, enters_on, sign_entries}
use Rattle.zodiac.specs.Passed.{delay_of, signs_passed}
use Rattle.zodiac.proofs.Suns.{least_sign, shown_by}
use Rattle.zodiac.proofs.Passed.{Passes, within, passed, passed-mono, passed-day, passed_first, passed-last, sign-on, stays, day-passing, passed_then, fewest_days, most_days, passes-next, entries-apart}
use Rattle.zodiac.proofs.Entering.{by_sign, passing-at, entries-count}

-- a day after the span's first, in the span, on which the Sun stands in another sign than the day before
pub record Entered (sun : Sun) (first last x : ℕ) : Type 0 where
  pub after_first : first < x
  pub to_last : x ≤ last
  pub another-sign : enters_on sun x ≡ true

-- two neighbouring entries: 30 or 31 days apart, the true Sun's 29 to 32, and the sign is the one after the sign that
-- the entry before entered
pub record Follows (sun : Sun) (a b : ℕ) : Type 0 where
  pub soonest : a + fewest_days sun ≤ b
  pub latest : b ≤ a + most_days sun
  pub next-sign : sign_on sun b ≡ (sign_on sun a + 1) % 12

module _ (sun : Sun) where
  pub entered_only : (first last x : ℕ) → first ≤ last → Has x (sign_entries sun first last) → Entered sun first last x
  unfolding sign_entries
  entered_only first last x o h =
      let l = listed (enters_on sun) x (first + 1) (last - first) h in
      record { after_first = omega (arith, l.0); to_last = omega (arith, l.1); another-sign = l.2 }

  pub entered_all : (first last x : ℕ) → Entered sun first last x → Has x (sign_entries sun first last)
  unfolding sign_entries
  entered_all first last x e =
      has-filtered (enters_on sun) x e.another-sign (days_from (first + 1) (last - first)) (in-days x (first + 1) (last - first) (omega (arith, e.after_first)) (omega (arith, e.after_first, e.to_last)))

  -- each stands once, earliest first
  pub entries-ascend : (first last : ℕ) → Ascending (first + 1) (sign_entries sun first last)
  unfolding sign_entries
  entries-ascend first last = days-ascend (enters_on sun) (first + 1) (last - first)

  -- the sign entered is the one after the sign of the day before, in the circle of twelve
  pub sign-entered : (x : ℕ) → enters_on sun (x + 1) ≡ true → sign_on sun (x + 1) ≡ (sign_on sun x + 1) % 12
  sign-entered x e = go (dec_le (signs_passed sun (x + 1)) (signs_passed sun x))
    where
      go : Dec (signs_passed sun (x + 1) ≤ signs_passed sun x) → sign_on sun (x + 1) ≡ (sign_on sun x + 1) % 12
      go (yes h) = absurd (false≢true (sym (stays sun x (omega (arith, passed-mono sun x 1))) ∙ e))
      go (no h) = omega (arith, sign-on sun x, sign-on sun (x + 1), passed-day sun x)

  follows : (k a b : ℕ) → Passes sun k a → Passes sun (k + 1) b → Follows sun a b
  follows k a b p q =
      let n = passes-next sun k a b p q in
      record { soonest = n.0; latest = n.1; next-sign = omega (arith, sign-on sun a, sign-on sun b, passed_then sun k a p, passed_then sun (k + 1) b q) }

  module _ (first last : ℕ) (o : first ≤ last) where
    -- entry i is the day on which the Sun has passed i + 1 signs more than on the first day
    entry-passes : (i : ℕ) → i < length (sign_entries sun first last) → Passes sun (signs_passed sun first + 1 + i) (get_or (sign_entries sun first last) i 0)
    entry-passes i h =
        rw (ap (λ (l : List ℕ). get_or l i 0) (by_sign sun first last o) ∙ passing-at sun (signs_passed sun first + 1) (signs_passed sun last - signs_passed sun first) i (omega (arith, h, entries-count sun first last o)))
        (day-passing sun (signs_passed sun first + 1 + i) (omega (arith, passed_first sun first)))

    pub entries-follow : (i : ℕ) → i + 1 < length (sign_entries sun first last) → Follows sun (get_or (sign_entries sun first last) i 0) (get_or (sign_entries sun first last) (i + 1) 0)
    entries-follow i h = follows (signs_passed sun first + 1 + i) _ _ (entry-passes i (omega arith)) (rw (next-sign-is i) at (entry-passes (i + 1) h))
      where
        next-sign-is : (i : ℕ) → signs_passed sun first + 1 + (i + 1) ≡ signs_passed sun first + 1 + i + 1
        next-sign-is i = omega arith

    -- between the first entry and the last the Sun goes a sign for each entry but one
    spread : least_sign sun * (length (sign_entries sun first last) - 1) ≤ 3549 * (last - first)
    spread = rw (entries-count sun first last o) (go (dec_le (signs_passed sun first + 1) (signs_passed sun last)))
      where
        far : (m : ℕ) → signs_passed sun first + 1 + m ≡ signs_passed sun last → least_sign sun * m ≤ 3549 * (last - first)
        far m e =
            omega (
              arith,
              (within sun first).to,
              (within sun last).from,
              entries-apart sun (signs_passed sun first + 1) m (omega arith),
              ap (delay_of sun) e,
              days-most first (last - first),
              unrolled-at {m = first + (last - first)} {n = last} (omega arith),
            )

        go : Dec (signs_passed sun first + 1 ≤ signs_passed sun last) → least_sign sun * (signs_passed sun last - signs_passed sun first - 1) ≤ 3549 * (last - first)
        go (yes h) = far (signs_passed sun last - signs_passed sun first - 1) (omega arith)
        go (no h) = let none : signs_passed sun last - signs_passed sun first - 1 ≡ 0 = omega arith in rw none (omega arith)

    -- no span has more entries than all days have
    pub entries-most : last ≤ last_day → length (sign_entries sun first last) ≤ 13194
    entries-most h = omega (arith, entries-count sun first last o, passed_first sun first, passed-last sun last h)

    -- an entry of the list that was written is the day at that place of the entries
    pub entered-read :
        (l : List ℕ) (i : ℕ) →
        last ≤ last_day →
        length (sign_entries sun first last) ≤ capacity l →
        i < length (sign_entries sun first last) →
        entry_at (with_entries (sign_entries sun first last) l) i ≡ Ok (get_or (sign_entries sun first last) i 0)
    entered-read l i e room h =
        entries-read (sign_entries sun first last) l i room h (omega (arith, (entered_only first last _ o (has-at i (sign_entries sun first last) h)).to_last))

-- a span of n days has at most n / 30 + 1, by the true Sun n / 29 + 1
pub entries-few : (sun : Sun) (first last : ℕ) → first ≤ last → length (sign_entries sun first last) ≤ (last + 1 - first) / fewest_days sun + 1
entries-few Mean first last o = omega (arith, spread Mean first last o)
entries-few True first last o = omega (arith, spread True first last o)

-- the seconds from day n's mean Sun to the end of its sign
abbrev seconds_left : ℕ → ℕ
seconds_left n = sign_seconds - longitude_at 0 (pair_at n) % sign_seconds

-- no day before these seconds divided by 3549, rounded up, enters the next sign
pub no-sooner : (n i : ℕ) → i + 1 < rounded_up (seconds_left n) 3549 → enters_on Mean (n + i + 1) ≡ false
unfolding shown_by
no-sooner n i h =
    stays Mean (n + i)
    (omega (
      arith,
      passed Mean n,
      passed Mean (n + i),
      passed Mean (n + i + 1),
      passed-mono Mean n i,
      passed-mono Mean (n + i) 1,
      unrolled-reduced n,
      days-most n (i + 1),
      unrolled-at {m = n + (i + 1)} {n = n + i + 1} (omega arith),
    ))

-- A day with the true Sun in an arc has the mean Sun in the arc made wider, since the two are never farther apart than
-- the largest equation: so the query that asks for the mean Sun too has the same conditions, and is refused alike. Both
-- Suns with all their circles, so that nothing is reduced.
-- Assumes nothing.
use mathlib.Core.Path.{◌≡◌, refl, ap, sym, ◌∙◌}
use mathlib.Core.Bool.{Bool, true, false, cond, not, ◌&&◌, ◌||◌, and-false, true≢false, false≢true}
use mathlib.Core.List.{List, [], ◌∷◌}
use Prim.Native.Nat.{ℕ, ◌+◌, ◌*◌, ◌-◌, ◌/◌, ◌%◌, ◌≤◌, ◌<◌, min}
use native.Mathlib.Decide.{dec_le}
use native.Mathlib.Omega.{arith}
use lib.Dec.{leb, ltb}
use lib.ListN.{set}
use borrow.Author.Tests.{ltb-true, lt-ltb, le-leb, not-true}
use Rattle.days.specs.declared.Day.{Day}
use Rattle.days.specs.Days.{pair_at, weekday_on}
use Rattle.longitudes.specs.Longitudes.{circle, longitude_at, difference_of}
use Rattle.longitudes.proofs.Subtraction.{difference-law, difference-small}
use Rattle.longitudes.proofs.Sun.{unrolled, unrolled-reduced}
use Rattle.panchanga.specs.TrueLongitudes.{true_sun}
use Rattle.panchanga.specs.OnDays.{true_sun_at}
use Rattle.panchanga.proofs.TrueSun.{shown, shown-near, shown-reduced}
use Rattle.query.specs.declared.Arc.{Arc}
use Rattle.query.specs.declared.BodyArcs.{BodyArcs}
use Rattle.query.specs.declared.Query.{Query}
use Rattle.query.specs.Conditions.{arcs_at, arcs_given, given_arcs, in_arc, in_some, in_arcs, arc_in_range, body_arcs_in_range, arcs_in_range, true_arcs_in_range, weekdays_in_range, elements_in_range, conditions_in_range, arcs_met, weekday_met, query_elements_met, true_longitude_at, true_arcs_met}
use Rattle.query.specs.Query.{sun_arcs, conditions_met, refusal_of}
use Rattle.query.proofs.Accepted.{each-in-range, accepted-by}
use Rattle.query.proofs.Conditions.{first-has, second-has}
use Rattle.query.specs.SunArcs.{wider_arc, wider_arcs, true_sun_arcs, only_true_sun, with_sun, with_sun_arcs}

and-true-left : (a b : Bool) → (a && b) ≡ true → a ≡ true
and-true-left true b e = refl
and-true-left false b e = e

and-true-right : (a b : Bool) → (a && b) ≡ true → b ≡ true
and-true-right true b e = e
and-true-right false b e = absurd (false≢true e)

unrolled-least : (n : ℕ) → 1258860 ≤ unrolled n
unfolding unrolled
unrolled-least n = omega arith

-- a difference, with the circle that is put on or not
put_on : (x s : ℕ) → x < circle → s < circle → (x + circle - s) % circle + s ≡ x + circle * (1 - (x + circle - s) / circle)
put_on x s h k = omega arith

-- from the start of the wider arc the mean Sun u is as far as the true one s from the arc's own start, and up to twice
-- the largest equation more; both with their circles
farther :
    (x y a p start b r z width k l m : ℕ) →
    circle * p + y ≤ circle * a + x + 7845 →
    circle * a + x ≤ circle * p + y + 7845 →
    z < circle →
    r + start ≡ x + circle * k →
    b + 7845 ≡ start + circle * l →
    z + b ≡ y + circle * m →
    r < width →
    width + 15690 < circle →
    z < width + 15690
farther x y a p start b r z width k l m h i j rs bs zs w c = omega arith

apart :
    (u s start width : ℕ) →
    start < circle →
    u ≤ s + 7845 →
    s ≤ u + 7845 →
    (s % circle + circle - start) % circle < width →
    (u % circle + circle - (start + circle - 7845) % circle) % circle < min (width + 15690) circle
apart u s start width h i j k = go (dec_le circle (width + 15690))
  where
    b : ℕ
    b = (start + circle - 7845) % circle

    go : Dec (circle ≤ width + 15690) → (u % circle + circle - (start + circle - 7845) % circle) % circle < min (width + 15690) circle
    go (yes w) = omega arith
    go (no w) =
        let z : (u % circle + circle - b) % circle < width + 15690 =
        farther (s % circle) (u % circle) (s / circle) (u / circle) start b _ _ width _ (1 - (start + circle - 7845) / circle) _ (omega arith) (omega arith) (omega arith) (put_on (s % circle) start (omega arith) h) (put_on start 7845 h (omega arith)) (put_on (u % circle) b (omega arith) (omega arith)) k (omega arith)
        in omega (arith, z)

pub mean-in-wider : (a : Arc) (n : ℕ) → a.start < circle → in_arc a (true_sun_at (pair_at n)) ≡ true → in_arc (wider_arc a) (longitude_at 0 (pair_at n)) ≡ true
unfolding in_arc wider_arc true_sun_at
mean-in-wider a n h e =
    let u = unrolled n in
    let mean = unrolled-reduced n in
    let sun = shown-reduced u (omega (arith, unrolled-least n)) ∙ ap true_sun mean in
    let past = ltb-true (difference_of (true_sun (longitude_at 0 (pair_at n))) a.start) a.width e in
    let within : (shown u % circle + circle - a.start) % circle < a.width = omega (arith, past, sun, difference-law (true_sun (longitude_at 0 (pair_at n))) a.start (omega arith)) in
    let wide = apart u (shown u) a.start a.width h (shown-near u).0 (shown-near u).1 within in
    let start = difference-law a.start 7845 (omega arith) in
    let from = difference-law (longitude_at 0 (pair_at n)) (difference_of a.start 7845) (omega (arith, difference-small a.start 7845)) in
    lt-ltb (difference_of (longitude_at 0 (pair_at n)) (difference_of a.start 7845)) (min (a.width + 15690) circle)
    (rw (from, start, ← mean) wide)

module _ (n : ℕ) where
  -- an arc that is given and has the true Sun: made wider it has the mean one
  one-in-wider : (a : Arc) → arc_in_range a ≡ true → (a.given && in_arc a (true_sun_at (pair_at n))) ≡ true → ((wider_arc a).given && in_arc (wider_arc a) (longitude_at 0 (pair_at n))) ≡ true
  unfolding wider_arc arc_in_range
  one-in-wider a r e = go a.given refl (rw (and-true-left a.given _ e) at r) e
    where
      go : (g : Bool) → a.given ≡ g → (ltb a.start circle && (leb 1 a.width && leb a.width circle)) ≡ true → (g && in_arc a (true_sun_at (pair_at n))) ≡ true → (g && in_arc (wider_arc a) (longitude_at 0 (pair_at n))) ≡ true
      go true f r e = mean-in-wider a n (ltb-true a.start circle (and-true-left (ltb a.start circle) _ r)) e
      go false f r e = absurd (false≢true e)

  -- one of a body's arcs, of which one is given
  module _ (a : BodyArcs) (r : body_arcs_in_range a ≡ true) where
    some-in-wider : in_some (given_arcs a) (true_sun_at (pair_at n)) ≡ true → in_some (given_arcs (wider_arcs a)) (longitude_at 0 (pair_at n)) ≡ true
    unfolding wider_arcs
    some-in-wider e = go (a.first.given && in_arc a.first (true_sun_at (pair_at n))) refl
      where
        wide : BodyArcs
        wide = wider_arcs a

        second-decides :
            (b : Bool) →
            ((wider_arc a.first).given && in_arc (wider_arc a.first) (longitude_at 0 (pair_at n))) ≡ b →
            ((wider_arc a.second).given && in_arc (wider_arc a.second) (longitude_at 0 (pair_at n))) ≡ true →
            in_some (given_arcs (record { first = wider_arc a.first; second = wider_arc a.second })) (longitude_at 0 (pair_at n)) ≡ true
        second-decides true f s = sym (first-has (record { first = wider_arc a.first; second = wider_arc a.second }) (longitude_at 0 (pair_at n)) f)
        second-decides false f s = sym (second-has (record { first = wider_arc a.first; second = wider_arc a.second }) (longitude_at 0 (pair_at n)) f) ∙ s

        go : (b : Bool) → (a.first.given && in_arc a.first (true_sun_at (pair_at n))) ≡ b → in_some (given_arcs (record { first = wider_arc a.first; second = wider_arc a.second })) (longitude_at 0 (pair_at n)) ≡ true
        go true f = sym (first-has (record { first = wider_arc a.first; second = wider_arc a.second }) (longitude_at 0 (pair_at n)) (one-in-wider a.first (each-in-range a r).0 f))
        go false f = second-decides _ refl (one-in-wider a.second (each-in-range a r).1 (second-has a (true_sun_at (pair_at n)) f ∙ e))

    in-wider : arcs_given a ≡ true → in_arcs a (true_sun_at (pair_at n)) ≡ true → in_arcs (wider_arcs a) (longitude_at 0 (pair_at n)) ≡ true
    unfolding in_arcs wider_arcs wider_arc
    in-wider g e = rw g (some-in-wider (rw g at e))

-- made wider, arcs are in range
wider-arc-range : (a : Arc) → arc_in_range (wider_arc a) ≡ true
unfolding arc_in_range wider_arc
wider-arc-range a = go a.given
  where
    go : (g : Bool) → cond g (ltb (difference_of a.start 7845) circle && (leb 1 (min (a.width + 15690) circle) && leb (min (a.width + 15690) circle) circle)) true ≡ true
    go true = rw (lt-ltb (difference_of a.start 7845) circle (difference-small a.start 7845), le-leb 1 (min (a.width + 15690) circle) (omega arith), le-leb (min (a.width + 15690) circle) circle (omega arith))
    go false = refl

wider-range : (a : BodyArcs) → body_arcs_in_range (wider_arcs a) ≡ true
unfolding body_arcs_in_range wider_arcs
wider-range a = rw (wider-arc-range a.first, wider-arc-range a.second)

-- arcs that are not given are in range, and every longitude will do
free-range : (a : BodyArcs) → arcs_given a ≡ false → body_arcs_in_range a ≡ true
unfolding body_arcs_in_range arc_in_range
free-range a e = go a.first.given a.second.given e
  where
    go :
        (g h : Bool) →
        (g || h) ≡ false →
        (cond g (ltb a.first.start circle && (leb 1 a.first.width && leb a.first.width circle)) true && cond h (ltb a.second.start circle && (leb 1 a.second.width && leb a.second.width circle)) true) ≡ true
    go false false e = refl
    go false true e = absurd (true≢false e)
    go true h e = absurd (true≢false e)

free-met : (a : BodyArcs) (x : ℕ) → arcs_given a ≡ false → in_arcs a x ≡ true
unfolding in_arcs
free-met a x e = rw e

-- the mean Sun's arcs, of which none is given, may be others that are in range and that the mean Sun is in
module _ (w : BodyArcs) where
  same-arcs : (arcs : List BodyArcs) (d : Day) → arcs_given (arcs_at arcs 0) ≡ false → in_arcs w (longitude_at 0 d) ≡ true → arcs_met (set arcs 0 w) d ≡ arcs_met arcs d
  unfolding arcs_met
  same-arcs [] d e m = refl
  same-arcs (a ∷ arcs) d e m = rw (m, free-met a (longitude_at 0 d) e)

  same-ranges : (arcs : List BodyArcs) → arcs_given (arcs_at arcs 0) ≡ false → body_arcs_in_range w ≡ true → arcs_in_range (set arcs 0 w) ≡ arcs_in_range arcs
  unfolding arcs_in_range
  same-ranges [] e m = refl
  same-ranges (a ∷ arcs) e m = rw (m, free-range a e)

module _ (q : Query) where
  only-true : only_true_sun q ≡ true → (arcs_given (sun_arcs q) ≡ false) × (arcs_given (true_sun_arcs q) ≡ true)
  only-true e = (not-true (arcs_given (sun_arcs q)) (and-true-left (not (arcs_given (sun_arcs q))) _ e), and-true-right (not (arcs_given (sun_arcs q))) _ e)

  true-range : conditions_in_range q ≡ true → body_arcs_in_range (true_sun_arcs q) ≡ true
  unfolding conditions_in_range true_arcs_in_range
  true-range e =
      and-true-left (body_arcs_in_range (true_sun_arcs q)) _
      (and-true-right (arcs_in_range q.arcs) _ (and-true-right (elements_in_range q) _ (and-true-right (weekdays_in_range q.weekdays) _ e)))

  true-met : (n : ℕ) → true_arcs_met q.edition q.true_arcs (pair_at n) ≡ true → in_arcs (true_sun_arcs q) (true_sun_at (pair_at n)) ≡ true
  unfolding true_arcs_met true_longitude_at
  true-met n e = and-true-left (in_arcs (true_sun_arcs q) (true_sun_at (pair_at n))) _ e

  -- IT IS REFUSED ALIKE
  pub same-refusal : refusal_of (with_sun_arcs q) ≡ refusal_of q
  unfolding with_sun_arcs
  same-refusal = go (only_true_sun q) refl
    where
      go : (b : Bool) → only_true_sun q ≡ b → refusal_of (cond b (with_sun q (wider_arcs (true_sun_arcs q))) q) ≡ refusal_of q
      go false e = refl
      go true e = unfold refusal_of conditions_in_range elements_in_range in rw (same-ranges (wider_arcs (true_sun_arcs q)) q.arcs (only-true e).0 (wider-range (true_sun_arcs q)))

  -- A DAY MEETS ITS CONDITIONS EXACTLY WHERE IT MEETS THE QUERY'S OWN
  pub same-conditions : (n : ℕ) → refusal_of q ≡ 0 → conditions_met (with_sun_arcs q) n ≡ conditions_met q n
  unfolding with_sun_arcs
  same-conditions n a = go (only_true_sun q) refl
    where
      behind : (b : Bool) → true_arcs_met q.edition q.true_arcs (pair_at n) ≡ b → only_true_sun q ≡ true → conditions_met (with_sun q (wider_arcs (true_sun_arcs q))) n ≡ conditions_met q n
      behind true t e =
          let only = only-true e in
          unfold conditions_met in
          rw (same-arcs (wider_arcs (true_sun_arcs q)) q.arcs (pair_at n) only.0 (in-wider n (true_sun_arcs q) (true-range (accepted-by q a).conditions) only.1 (true-met n t)))
      behind false t e =
          unfold conditions_met in
          rw (t, and-false (query_elements_met q (pair_at n)), and-false (weekday_met q.weekdays (weekday_on n)), and-false (arcs_met (set q.arcs 0 (wider_arcs (true_sun_arcs q))) (pair_at n)), and-false (arcs_met q.arcs (pair_at n)))

      go : (b : Bool) → only_true_sun q ≡ b → conditions_met (cond b (with_sun q (wider_arcs (true_sun_arcs q))) q) n ≡ conditions_met q n
      go false e = refl
      go true e = behind (true_arcs_met q.edition q.true_arcs (pair_at n)) refl e

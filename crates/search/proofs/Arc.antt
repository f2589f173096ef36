-- Inside the Sun's arcs and outside them: the walk's next day, case by case. What holds of the arcs that are given is
-- said of each arc of a list, and shown by induction on it.
-- Assumes nothing.
use Prim.Native.Nat.{ℕ, ◌+◌, ◌*◌, ◌-◌, ◌/◌, ◌≤◌, ◌<◌, min}
use mathlib.Core.Path.{◌≡◌, refl, sym, ◌∙◌}
use mathlib.Core.Bool.{Bool, true, false, cond, ◌&&◌, ◌||◌, and-eq-true_iff, true≢false, false≢true}
use mathlib.Core.List.{List, [], ◌∷◌}
use native.Mathlib.Omega.{arith}
use lib.Dec.{ltb}
use Rattle.std.specs.Prelude.{Some, None}
use borrow.Author.Tests.{ltb-true, ltb-false, leb-true, le-ltb}
use Rattle.longitudes.specs.Longitudes.{circle, difference_of}
use Rattle.longitudes.proofs.Subtraction.{difference-small, difference-turned}
use Rattle.query.specs.declared.Query.{Query}
use Rattle.query.specs.declared.Arc.{Arc}
use Rattle.query.specs.declared.BodyArcs.{BodyArcs}
use Rattle.query.specs.Conditions.{given_arcs, arcs_given, in_arc, in_some, in_arcs, nearest_start, arc_in_range, body_arcs_in_range}
use Rattle.query.specs.Query.{sun_arcs}
use Rattle.query.proofs.Accepted.{each-in-range}
use Rattle.search.proofs.Others.{neither}
use Rattle.search.specs.Look.{sun_advance, sun_on, sun_in_arcs, seconds_ahead, next_day}
use Rattle.search.specs.Parts.{leading_arc, both_given, approach_to, Approached}
use Rattle.search.proofs.Circle.{past, past-low, past-grows, ahead_past}

-- what holds of each arc of a list
unfoldable pub Each : (Arc → Type 0) → List Arc → Type 0
Each P [] = Unit {0}
Each P (a ∷ others) = P a × Each P others

-- an arc in range: its start and its width
pub record InCircle (a : Arc) : Type 0 where
  pub start : a.start < circle
  pub width : 1 ≤ a.width

pub in-circle : (a : Arc) → arc_in_range a ≡ true → a.given ≡ true → InCircle a
unfolding arc_in_range
in-circle a r e =
    let b = (and-eq-true_iff _ _).0 (rw e at r) in
    record { start = ltb-true _ _ b.0; width = leb-true _ _ ((and-eq-true_iff _ _).0 b.1).0 }

pub given-in-circle : (a : BodyArcs) → body_arcs_in_range a ≡ true → Each InCircle (given_arcs a)
unfolding given_arcs Each
given-in-circle a r = go a.first.given a.second.given refl refl (each-in-range a r)
  where
    go :
        (g h : Bool) →
        a.first.given ≡ g →
        a.second.given ≡ h →
        (arc_in_range a.first ≡ true) × (arc_in_range a.second ≡ true) →
        Each InCircle (cond g (a.first ∷ cond h (a.second ∷ []) []) (cond h (a.second ∷ []) []))
    go true true e f b = (in-circle a.first b.0 e, (in-circle a.second b.1 f, tt))
    go true false e f b = (in-circle a.first b.0 e, tt)
    go false true e f b = (in-circle a.second b.1 f, tt)
    go false false e f b = tt

-- on day d the Sun is past the width of an arc: outside it
abbrev pub Past : ℕ → Arc → Type 0
Past d a = a.width ≤ past a.start d

pub outside-each : (given : List Arc) (d : ℕ) → in_some given (sun_on d) ≡ false → Each (Past d) given
unfolding in_some in_arc Each
outside-each [] d e = tt
outside-each (a ∷ others) d e =
    let n = neither (ltb (past a.start d) a.width) (in_some others (sun_on d)) e in
    (ltb-false _ _ n.0, outside-each others d n.1)

pub each-outside : (given : List Arc) (d : ℕ) → Each (Past d) given → in_some given (sun_on d) ≡ false
unfolding in_some in_arc Each
each-outside [] d h = refl
each-outside (a ∷ others) d h = rw (le-ltb _ _ h.0) (each-outside others d h.1)

-- from outside, the nearest start is ahead, and as long as the Sun cannot have come to it, it stays outside
pub nearest-ahead : (given : List Arc) → Each InCircle given → (d : ℕ) → Each (Past d) given → 0 < nearest_start given (sun_on d)
unfolding nearest_start Each
nearest-ahead [] c d h = omega arith
nearest-ahead (a ∷ others) c d h =
    let w : 1 ≤ a.width = c.0.width in
    let p : a.width ≤ past a.start d = h.0 in
    omega (arith, ahead_past a.start d c.0.start (omega arith), past-low a.start d (omega (arith, c.0.start)), nearest-ahead others c.1 d h.1)

pub stays-outside :
    (given : List Arc) → Each InCircle given → (d j : ℕ) → Each (Past d) given → sun_advance * j < nearest_start given (sun_on d) → Each (Past (d + j)) given
unfolding nearest_start Each
stays-outside [] c d j h l = tt
stays-outside (a ∷ others) c d j h l =
    let w : 1 ≤ a.width = c.0.width in
    let p : a.width ≤ past a.start d = h.0 in
    let s : a.start < circle = c.0.start in
    let far : difference_of a.start (sun_on d) ≡ circle - past a.start d = ahead_past a.start d s (omega arith) in
    (omega (arith, past-grows a.start d j (omega arith) (omega arith)), stays-outside others c.1 d j h.1 (omega arith))

-- where some arc is given, the nearest start is within the circle
pub nearest-low : (a : BodyArcs) (x : ℕ) → arcs_given a ≡ true → nearest_start (given_arcs a) x < circle
unfolding given_arcs nearest_start
nearest-low a x = go a.first.given a.second.given
  where
    go :
        (g h : Bool) →
        (g || h) ≡ true →
        nearest_start (cond g (a.first ∷ cond h (a.second ∷ []) []) (cond h (a.second ∷ []) [])) x < circle
    go true h e = omega (arith, difference-small a.first.start x)
    go false true e = omega (arith, difference-small a.second.start x)
    go false false e = absurd (false≢true e)

-- the arcs that are given, from the leading one on
given-leads : (a : BodyArcs) → arcs_given a ≡ true → given_arcs a ≡ leading_arc a ∷ cond (both_given a) (a.second ∷ []) []
unfolding given_arcs leading_arc both_given
given-leads a = go a.first.given a.second.given
  where
    go :
        (g h : Bool) →
        (g || h) ≡ true →
        cond g (a.first ∷ cond h (a.second ∷ []) []) (cond h (a.second ∷ []) [])
        ≡ cond g a.first a.second ∷ cond (g && h) (a.second ∷ []) []
    go true true e = refl
    go true false e = refl
    go false true e = refl
    go false false e = absurd (false≢true e)

-- where a longitude stands to an arc in range: in it, or that far before its start
module _ (a : Arc) (x : ℕ) where
  pub inside-arc : approach_to a x ≡ None → in_arc a x ≡ true
  unfolding approach_to
  inside-arc e = go (in_arc a x) e
    where
      go : (b : Bool) → cond b None (Some (circle - difference_of x a.start)) ≡ None → b ≡ true
      go true e = refl
      go false e = absurd cc

  pub before-arc : {g : ℕ} → InCircle a → approach_to a x ≡ Some g → (in_arc a x ≡ false) × (g ≡ difference_of a.start x)
  unfolding approach_to in_arc
  before-arc {g} c e = go (ltb (difference_of x a.start) a.width) refl e
    where
      go : (b : Bool) → ltb (difference_of x a.start) a.width ≡ b → cond b None (Some (circle - difference_of x a.start)) ≡ Some g → (b ≡ false) × (g ≡ difference_of a.start x)
      go true i e = absurd cc
      go false i e =
          let w : a.width ≤ difference_of x a.start = ltb-false _ _ i in
          let same : g ≡ circle - difference_of x a.start = cc in
          (refl, same ∙ sym (difference-turned (difference_of x a.start) x a.start refl (omega (arith, w, c.width))))

-- and to the arcs that are given, by the leading one and the second
module _ (a : BodyArcs) (x : ℕ) where
  module _ (r : body_arcs_in_range a ≡ true) (g : arcs_given a ≡ true) where
    circled : Each InCircle (leading_arc a ∷ cond (both_given a) (a.second ∷ []) [])
    circled = rw (given-leads a g) at (given-in-circle a r)

    in-given : in_some (given_arcs a) x ≡ true → Approached a x None
    unfolding Approached in_arcs
    in-given e = rw (g, e)

    pub in-first : approach_to (leading_arc a) x ≡ None → Approached a x None
    unfolding in_some
    in-first e = in-given (rw (given-leads a g, inside-arc (leading_arc a) x e))

    module _ {first : ℕ} (f : approach_to (leading_arc a) x ≡ Some first) where
      from-first : (in_arc (leading_arc a) x ≡ false) × (first ≡ difference_of (leading_arc a).start x)
      unfolding Each
      from-first = before-arc (leading_arc a) x circled.0 f

      pub one-given : both_given a ≡ false → Approached a x (Some first)
      unfolding Approached in_some nearest_start
      one-given b =
          (g, rw (given-leads a g, b, from-first.0), from-first.1 ∙ rw (given-leads a g, b) (omega (arith, difference-small (leading_arc a).start x)))

      module _ (b : both_given a ≡ true) where
        pub in-second : approach_to a.second x ≡ None → Approached a x None
        unfolding in_some
        in-second e = in-given (rw (given-leads a g, b, from-first.0, inside-arc a.second x e))

        pub before-both : {second : ℕ} → approach_to a.second x ≡ Some second → Approached a x (Some (min first second))
        unfolding Approached in_some nearest_start Each
        before-both {second} s =
            let from-second = before-arc a.second x (rw b at circled).1.0 s in (
              g,
              rw (given-leads a g, b, from-first.0, from-second.0),
              rw (given-leads a g, b, from-first.1, from-second.1) (omega (arith, difference-small a.second.start x)),
            )

pub ahead-low : (a : BodyArcs) (x ahead : ℕ) → Approached a x (Some ahead) → ahead < circle
unfolding Approached
ahead-low a x ahead h = rw h.2 (nearest-low a x h.0)

module _ (q : Query) (d : ℕ) where
  pub within-sun : Approached (sun_arcs q) (sun_on d) None → sun_in_arcs q d ≡ true
  unfolding Approached sun_in_arcs
  within-sun h = h

  cond-false : (b t : Bool) → cond b t true ≡ false → (b ≡ true) × (t ≡ false)
  cond-false true t e = (refl, e)
  cond-false false t e = absurd (true≢false e)

  -- outside: there are arcs, and none has the Sun
  pub outside-given : sun_in_arcs q d ≡ false → (arcs_given (sun_arcs q) ≡ true) × (in_some (given_arcs (sun_arcs q)) (sun_on d) ≡ false)
  unfolding sun_in_arcs in_arcs
  outside-given e = cond-false (arcs_given (sun_arcs q)) (in_some (given_arcs (sun_arcs q)) (sun_on d)) e

  pub given-decides : (b : Bool) → arcs_given (sun_arcs q) ≡ true → in_some (given_arcs (sun_arcs q)) (sun_on d) ≡ b → sun_in_arcs q d ≡ b
  unfolding sun_in_arcs in_arcs
  given-decides b g e = rw (g, e)

  pub no-arcs : arcs_given (sun_arcs q) ≡ false → sun_in_arcs q d ≡ true
  unfolding sun_in_arcs in_arcs
  no-arcs e = rw e

  pub next-in : sun_in_arcs q d ≡ true → next_day q d ≡ d + 1
  unfolding next_day
  next-in e = rw e

  pub next-out : sun_in_arcs q d ≡ false → next_day q d ≡ d + (seconds_ahead q d + (sun_advance - 1)) / sun_advance
  unfolding next_day
  next-out e = rw e

module _ (q : Query) (r : body_arcs_in_range (sun_arcs q) ≡ true) where
  abbrev given : List Arc
  given = given_arcs (sun_arcs q)

  pub ahead-positive : (d : ℕ) → in_some given (sun_on d) ≡ false → 0 < seconds_ahead q d
  ahead-positive d e = nearest-ahead given (given-in-circle (sun_arcs q) r) d (outside-each given d e)

  pub next-after : (d : ℕ) → d < next_day q d
  next-after d = go (sun_in_arcs q d) refl
    where
      go : (b : Bool) → sun_in_arcs q d ≡ b → d < next_day q d
      go true e = omega (arith, next-in q d e)
      go false e = omega (arith, next-out q d e, ahead-positive d (outside-given q d e).1)

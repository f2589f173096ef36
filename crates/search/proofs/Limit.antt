-- How many days the scan visits: those with the Sun in one of its arcs, and outside them at most two for each time that
-- the Sun passes a start, and two more; by induction on the visits. A visit from outside is on the way to the nearest
-- start. It is within 320 seconds of that start after one jump at the latest, and past it after the next. This is shown
-- over one start, and for the arcs together by counting the circles past all their starts.
-- Assumes nothing.
use Prim.Native.Nat.{ℕ, zero, suc, ◌+◌, ◌*◌, ◌-◌, ◌/◌, ◌≤◌, ◌<◌, min}
use mathlib.Core.Path.{◌≡◌, refl, ap, sym, ◌∙◌}
use mathlib.Core.Logic.{◌⊎◌, inl, inr}
use mathlib.Core.Bool.{Bool, true, false, cond, ◌||◌, true≢false}
use mathlib.Core.List.{List, [], ◌∷◌}
use native.Mathlib.Omega.{arith}
use native.Mathlib.Decide.{dec_le}
use native.Mathlib.Nat.{suc-mul}
use lib.ListN.{length}
use Rattle.longitudes.specs.Longitudes.{circle, difference_of}
use Rattle.entries.specs.Runs.{filtered}
use Rattle.longitudes.proofs.Sun.{unrolled, unrolled-at, mono, days-most, days-least, day-least}
use Rattle.query.specs.declared.Arc.{Arc}
use Rattle.query.specs.declared.BodyArcs.{BodyArcs}
use Rattle.query.specs.declared.Query.{Query}
use Rattle.query.specs.Conditions.{given_arcs, arcs_given, nearest_start, body_arcs_in_range}
use Rattle.query.specs.Query.{sun_arcs}
use Rattle.search.specs.Look.{sun_advance, sun_on, sun_in_arcs, seconds_ahead, next_day}
use Rattle.search.specs.Days.{span_length, span, visited_from, visited_days, visit_limit}
use Rattle.search.proofs.Circle.{past, circles, past-low, past-circles, ahead_past}
use Rattle.search.proofs.Arc.{Each, InCircle, given-in-circle, Past, outside-each, each-outside, nearest-ahead, nearest-low, outside-given, given-decides, no-arcs, next-in, next-out}
use Rattle.search.proofs.Skip.{visit-end, visit-more, filtered-visited}

circles-of-sun : (s d e : ℕ) → unrolled d ≤ unrolled e → circles s d ≤ circles s e
unfolding circles
circles-of-sun s d e h = omega arith

circles-up : (s d e : ℕ) → d ≤ e → circles s d ≤ circles s e
circles-up s d e h = circles-of-sun s d e (omega (arith, mono d (e - d), unrolled-at {m = d + (e - d)} {n = e} (omega arith)))

-- the circles of a span: 360 days go less than one
circles-in : (s d e : ℕ) → d ≤ e → circles s e ≤ circles s d + (e + 1 - d) / 360 + 1
unfolding circles
circles-in s d e h =
    let m : unrolled e ≤ unrolled d + sun_advance * (e - d) = omega (arith, days-most d (e - d), unrolled-at {m = d + (e - d)} {n = e} (omega arith)) in
    omega arith

-- the days of a list that are outside the arcs
outside : Query → List ℕ → ℕ
outside q [] = 0
outside q (x ∷ xs) = cond (sun_in_arcs q x) (outside q xs) (suc (outside q xs))

outside-nil : (q : Query) → outside q [] ≡ 0
unfolding outside
outside-nil q = refl

outside-in : (q : Query) (x : ℕ) (xs : List ℕ) → sun_in_arcs q x ≡ true → outside q (x ∷ xs) ≡ outside q xs
unfolding outside
outside-in q x xs e = rw e

outside-out : (q : Query) (x : ℕ) (xs : List ℕ) → sun_in_arcs q x ≡ false → outside q (x ∷ xs) ≡ suc (outside q xs)
unfolding outside
outside-out q x xs e = rw e

in-and-out : (q : Query) (xs : List ℕ) → length xs ≡ length (filtered (sun_in_arcs q) xs) + outside q xs
unfolding filtered outside
in-and-out q [] = refl
in-and-out q (x ∷ xs) = go (sun_in_arcs q x) (in-and-out q xs)
  where
    go :
        (b : Bool) →
        length xs ≡ length (filtered (sun_in_arcs q) xs) + outside q xs →
        suc (length xs) ≡ length (cond b (x ∷ filtered (sun_in_arcs q) xs) (filtered (sun_in_arcs q) xs)) + cond b (outside q xs) (suc (outside q xs))
    go true ih = omega arith
    go false ih = omega arith

none-outside : (q : Query) → ((d : ℕ) → sun_in_arcs q d ≡ true) → (xs : List ℕ) → outside q xs ≡ 0
none-outside q h [] = outside-nil q
none-outside q h (x ∷ xs) = outside-in q x xs (h x) ∙ none-outside q h xs

-- a start at most 320 seconds ahead: one day goes into the next circle
near-circle : (s d : ℕ) → s ≤ circle → circle ≤ past s d + 320 → circles s d + 1 ≤ circles s (d + 1)
near-circle s d hs h = omega (arith, day-least d, past-circles s d hs, past-circles s (d + 1) hs, past-low s (d + 1) hs)

-- the circles past the starts of some arcs, all together
passes : List Arc → ℕ → ℕ
passes [] d = 0
passes (a ∷ others) d = circles a.start d + passes others d

passes_up : (given : List Arc) (d e : ℕ) → d ≤ e → passes given d ≤ passes given e
unfolding passes
passes_up [] d e h = omega arith
passes_up (a ∷ others) d e h = omega (arith, circles-up a.start d e h, passes_up others d e h)

passes-in : (given : List Arc) (d e : ℕ) → d ≤ e → passes given e ≤ passes given d + length given * ((e + 1 - d) / 360 + 1)
unfolding passes
passes-in [] d e h = omega arith
passes-in (a ∷ others) d e h =
    omega (arith, circles-in a.start d e h, passes-in others d e h, suc-mul (length others) ((e + 1 - d) / 360 + 1))

passes_of : (n : ℕ) (given : List Arc) (d e : ℕ) → n ≡ length given → d ≤ e → passes given e ≤ passes given d + n * ((e + 1 - d) / 360 + 1)
passes_of n given d e c h = rw c (passes-in given d e h)

-- of some arcs, with the Sun outside them on day d
near-pass : (given : List Arc) → Each InCircle given → (d : ℕ) → Each (Past d) given → nearest_start given (sun_on d) ≤ 320 → passes given d + 1 ≤ passes given (d + 1)
unfolding passes nearest_start Each
near-pass [] c d h l = absurd (omega arith)
near-pass (a ∷ others) c d h l = go (dec_le (difference_of a.start (sun_on d)) 320) (near-pass others c.1 d h.1)
  where
    far : difference_of a.start (sun_on d) ≡ circle - past a.start d
    far = ahead_past a.start d c.0.start (omega (arith, c.0.width, h.0))

    go :
        Dec (difference_of a.start (sun_on d) ≤ 320) →
        (nearest_start others (sun_on d) ≤ 320 → passes others d + 1 ≤ passes others (d + 1)) →
        circles a.start d + passes others d + 1 ≤ circles a.start (d + 1) + passes others (d + 1)
    go (yes n) ih = omega (arith, near-circle a.start d (omega (arith, c.0.start)) (omega (arith, far)), passes_up others d (d + 1) (omega arith))
    go (no n) ih = omega (arith, ih (omega arith), circles-up a.start d (d + 1) (omega arith))

-- some days on, either a start is passed or none is
abbrev Same : ℕ → ℕ → Arc → Type 0
Same d e a = circles a.start e ≡ circles a.start d

pass-or-none : (given : List Arc) (d e : ℕ) → d ≤ e → (passes given d + 1 ≤ passes given e) ⊎ Each (Same d e) given
unfolding passes Each
pass-or-none [] d e h = inr tt
pass-or-none (a ∷ others) d e h = go (dec_le (circles a.start d + 1) (circles a.start e)) (pass-or-none others d e h)
  where
    up : circles a.start d ≤ circles a.start e
    up = circles-up a.start d e h

    go :
        Dec (circles a.start d + 1 ≤ circles a.start e) →
        (passes others d + 1 ≤ passes others e) ⊎ Each (Same d e) others →
        (circles a.start d + passes others d + 1 ≤ circles a.start e + passes others e) ⊎ (Same d e a × Each (Same d e) others)
    go (yes l) o = inl (omega (arith, passes_up others d e h))
    go (no l) (inl o) = inl (omega (arith, up))
    go (no l) (inr o) = inr (omega (arith, up), o)

module _ (d m : ℕ) where
  -- where none is passed, each is as far behind as before and what the Sun has gone, and the nearest is nearer by that
  same-past : (a : Arc) → InCircle a → Same d (d + m) a → past a.start (d + m) + unrolled d ≡ past a.start d + unrolled (d + m)
  same-past a c e = omega (arith, past-circles a.start d (omega (arith, c.start)), past-circles a.start (d + m) (omega (arith, c.start)))

  still-outside : (given : List Arc) → Each InCircle given → Each (Past d) given → Each (Same d (d + m)) given → Each (Past (d + m)) given
  unfolding Each
  still-outside [] c h e = tt
  still-outside (a ∷ others) c h e = (omega (arith, h.0, same-past a c.0 e.0, mono d m), still-outside others c.1 h.1 e.1)

  nearer-by :
      (given : List Arc) →
      Each InCircle given →
      Each (Past d) given →
      Each (Same d (d + m)) given →
      nearest_start given (sun_on d) < circle →
      nearest_start given (sun_on (d + m)) + unrolled (d + m) ≤ nearest_start given (sun_on d) + unrolled d
  unfolding nearest_start Each
  nearer-by [] c h e l = absurd (omega arith)
  nearer-by (a ∷ others) c h e l = go (dec_le (difference_of a.start (sun_on d)) (nearest_start others (sun_on d))) (nearer-by others c.1 h.1 e.1)
    where
      gone : past a.start (d + m) + unrolled d ≡ past a.start d + unrolled (d + m)
      gone = same-past a c.0 e.0

      before : difference_of a.start (sun_on d) ≡ circle - past a.start d
      before = ahead_past a.start d c.0.start (omega (arith, c.0.width, h.0))

      after : difference_of a.start (sun_on (d + m)) ≡ circle - past a.start (d + m)
      after = ahead_past a.start (d + m) c.0.start (omega (arith, c.0.width, h.0, gone, mono d m))

      low : past a.start (d + m) < circle
      low = past-low a.start (d + m) (omega (arith, c.0.start))

      go :
          Dec (difference_of a.start (sun_on d) ≤ nearest_start others (sun_on d)) →
          (nearest_start others (sun_on d) < circle → nearest_start others (sun_on (d + m)) + unrolled (d + m) ≤ nearest_start others (sun_on d) + unrolled d) →
          min (difference_of a.start (sun_on (d + m))) (nearest_start others (sun_on (d + m))) + unrolled (d + m)
          ≤ min (difference_of a.start (sun_on d)) (nearest_start others (sun_on d)) + unrolled d
      go (yes k) ih = omega (arith, gone, before, after, low)
      go (no k) ih = omega (arith, ih (omega arith))

-- how many arcs can be given
given-count : (a : BodyArcs) → (arcs_given a ≡ false) ⊎ ((length (given_arcs a) ≡ 1) ⊎ (length (given_arcs a) ≡ 2))
unfolding given_arcs
given-count a = go a.first.given a.second.given
  where
    go :
        (g h : Bool) →
        ((g || h) ≡ false)
        ⊎ ((length (cond g (a.first ∷ cond h (a.second ∷ []) []) (cond h (a.second ∷ []) [])) ≡ 1)
        ⊎ (length (cond g (a.first ∷ cond h (a.second ∷ []) []) (cond h (a.second ∷ []) [])) ≡ 2))
    go true true = inr (inr refl)
    go true false = inr (inl refl)
    go false true = inr (inl refl)
    go false false = inl refl

module _ (q : Query) (r : body_arcs_in_range (sun_arcs q) ≡ true) where
  abbrev given : List Arc
  given = given_arcs (sun_arcs q)

  circled : Each InCircle given
  circled = given-in-circle (sun_arcs q) r

  -- o days outside, from day d on, by the passes that are left; one fewer where d itself is outside and near a start
  abbrev Few : ℕ → ℕ → Type 0
  Few o d =
      (o + 2 * passes given d ≤ 2 * passes given q.last + 2)
      × (sun_in_arcs q d ≡ false → seconds_ahead q d ≤ 320 → o + 2 * passes given d ≤ 2 * passes given q.last + 1)

  few-in : (d o x : ℕ) → d ≤ q.last → sun_in_arcs q d ≡ true → d ≤ x → (x ≤ q.last → Few o x) → (q.last < x → o ≡ 0) → Few o d
  few-in d o x h e w ih z = (go (dec_le x q.last), λ f. absurd (true≢false (sym e ∙ f)))
    where
      go : Dec (x ≤ q.last) → o + 2 * passes given d ≤ 2 * passes given q.last + 2
      go (yes l) = omega (arith, (ih l).0, passes_up given d x w)
      go (no l) = omega (arith, z (omega arith), passes_up given d q.last h)

  -- the day after one outside: a start is passed, or the day is outside and near a start
  abbrev Onward : ℕ → ℕ → Type 0
  Onward d x = (passes given d + 1 ≤ passes given x) ⊎ ((sun_in_arcs q x ≡ false) × (seconds_ahead q x ≤ 320))

  onward : (d m : ℕ) → sun_in_arcs q d ≡ false → m ≡ (seconds_ahead q d + (sun_advance - 1)) / sun_advance → Onward d (d + m)
  onward d m e w = go (pass-or-none given d (d + m) (omega arith))
    where
      f : (arcs_given (sun_arcs q) ≡ true) × Each (Past d) given
      f = let g = outside-given q d e in (g.0, outside-each given d g.1)

      low : seconds_ahead q d < circle
      low = nearest-low (sun_arcs q) (sun_on d) f.0

      go : (passes given d + 1 ≤ passes given (d + m)) ⊎ Each (Same d (d + m)) given → Onward d (d + m)
      go (inl c) = inl c
      go (inr c) =
          inr (given-decides q (d + m) false f.0 (each-outside given (d + m) (still-outside d m given circled f.1 c)), omega (arith, nearer-by d m given circled f.1 c low, days-least d m (omega (arith, low))))

  few-out :
      (d o x : ℕ) →
      d ≤ q.last →
      sun_in_arcs q d ≡ false →
      x ≡ d + (seconds_ahead q d + (sun_advance - 1)) / sun_advance →
      (x ≤ q.last → Few o x) →
      (q.last < x → o ≡ 0) →
      Few (suc o) d
  few-out d o x h e w ih z = go (dec_le x q.last) (rw w (onward d _ e refl))
    where
      p : Each (Past d) given
      p = outside-each given d (outside-given q d e).1

      near : seconds_ahead q d ≤ 320 → passes given d + 1 ≤ passes given x
      near n =
          let next : x ≡ d + 1 = omega (arith, w, nearest-ahead given circled d p) in
          rw next (near-pass given circled d p n)

      go : Dec (x ≤ q.last) → Onward d x → Few (suc o) d
      go (no l) c =
          let u : passes given d ≤ passes given q.last = passes_up given d q.last h in
          let v : o ≡ 0 = z (omega arith) in
          (omega arith, λ a b. omega arith)
      go (yes l) (inl c) =
          let i = (ih l).0 in
          (omega arith, λ a b. omega arith)
      go (yes l) (inr c) =
          let i = (ih l).1 c.0 c.1 in
          (omega (arith, passes_up given d x (omega (arith, w))), λ a b. omega (arith, near b))

  few : (n d : ℕ) → d ≤ q.last → Few (outside q (visited_from q n d)) d
  few zero d h =
      let u : passes given d ≤ passes given q.last = passes_up given d q.last h in
      unfold visited_from outside in (omega arith, λ a b. omega arith)
  few (suc n) d h = rw (visit-more q r n d h) (go (sun_in_arcs q d) refl (few n (next_day q d)))
    where
      z : q.last < next_day q d → outside q (visited_from q n (next_day q d)) ≡ 0
      z l = ap (outside q) (visit-end q r n (next_day q d) l) ∙ outside-nil q

      go :
          (b : Bool) →
          sun_in_arcs q d ≡ b →
          (next_day q d ≤ q.last → Few (outside q (visited_from q n (next_day q d))) (next_day q d)) →
          Few (outside q (d ∷ visited_from q n (next_day q d))) d
      go true e ih =
          rw (outside-in q d (visited_from q n (next_day q d)) e)
          (few-in d (outside q (visited_from q n (next_day q d))) (next_day q d) h e (omega (arith, next-in q d e)) ih z)
      go false e ih =
          rw (outside-out q d (visited_from q n (next_day q d)) e)
          (few-out d (outside q (visited_from q n (next_day q d))) (next_day q d) h e (next-out q d e) ih z)

  pub visits-limited : length (visited_days q) ≤ visit_limit q
  unfolding visited_days visit_limit
  visits-limited = go (dec_le q.first q.last) (given-count (sun_arcs q))
    where
      n : length (visited_days q) ≡ length (filtered (sun_in_arcs q) (span q)) + outside q (visited_days q)
      n = in-and-out q (visited_days q) ∙ ap (λ (x : List ℕ). length x + outside q (visited_days q)) (filtered-visited q r (sun_in_arcs q) (λ d e. e))

      go :
          Dec (q.first ≤ q.last) →
          (arcs_given (sun_arcs q) ≡ false) ⊎ ((length given ≡ 1) ⊎ (length given ≡ 2)) →
          length (visited_days q) ≤ length (filtered (sun_in_arcs q) (span q)) + length given * (4 + 2 * (span_length q / 360))
      go h (inl g) = omega (arith, n, none-outside q (λ d. no-arcs q d g) (visited_days q))
      go (yes h) (inr (inl c)) = rw c (omega (arith, n, (few (span_length q) q.first h).0, passes_of 1 given q.first q.last (sym c) h))
      go (yes h) (inr (inr c)) = rw c (omega (arith, n, (few (span_length q) q.first h).0, passes_of 2 given q.first q.last (sym c) h))
      go (no h) (inr c) = omega (arith, ap length (visit-end q r (span_length q) q.first (omega arith)))

-- The laws of the reason: the condition that is named does not hold, all before it in the order do, a day fits if and
-- only if the search lists it, and a query without the later conditions is explained as before. By induction on the
-- conditions, and since all of them together are what makes a day match.
-- Assumes nothing.
use Prim.Native.Nat.{ℕ, ◌≤◌}
use mathlib.Core.Path.{◌≡◌, refl, sym, ap, ◌∙◌}
use mathlib.Core.Bool.{Bool, true, false, cond, ◌&&◌, and-true, and-false, and_assoc, and-eq-true_iff, false≢true}
use mathlib.Core.List.{List, [], ◌∷◌, ◌++◌}
use mathlib.Core.Logic.{◌⊎◌, inl, inr}
use native.Mathlib.Omega.{arith}
use lib.Dec.{leb, eqb}
use lib.ListN.{replicate}
use borrow.Author.Tests.{eqb-true, eq-eqb, leb-true, le-leb}
use Rattle.std.specs.Prelude.{Result, Ok, Err}
use Rattle.days.specs.declared.refusal.Refusal.{Refusal}
use Rattle.days.specs.Refusals.{result_number, and_then}
use Rattle.days.specs.Days.{last_day, pair_at, weekday_on}
use Rattle.panchanga.specs.TrueLongitudes.{is_edition}
use Rattle.panchanga.specs.OnDays.{tithi_at, nakshatra_at, yoga_at, karana_at}
use Rattle.query.specs.declared.Query.{Query}
use Rattle.query.specs.Conditions.{not_asked, no_arcs, meets, weekday_met, in_arcs, each_body, body_met, arcs_met, elements_met, each_place, place_met, true_arcs_met}
use Rattle.query.specs.Query.{conditions_met, matches, refusal_of, check_of}
use Rattle.query.proofs.Accepted.{accepted-by, check-number}
use Rattle.search.specs.Look.{looked, examined_of}
use Rattle.search.specs.Days.{matching_days}
use Rattle.entries.proofs.Lists.{Has}
use Rattle.search.proofs.Laws.{listed-only, listed-all, listed-matches, matches-listed}
use Rattle.reasons.specs.Conditions.{bound, any_of, Cause, no_cause, Condition, one_condition, element_asked, arcs_asked, row, true_conditions, conditions_on, first_unmet}
use Rattle.reasons.specs.Reasons.{Numbers, no_answer, refusal_on, why_of}
use Rattle.reasons.proofs.Accepted.{accepted-question}

-- all of some conditions hold
unfoldable pub all_hold : List Condition → Bool
all_hold [] = true
all_hold (c ∷ cs) = c.holds && all_hold cs

-- of some conditions one that does not hold, while all before it do, with what shuts the day out
pub record First (cs : List Condition) (cause : Cause) : Type 0 where
  pub before : List Condition
  pub unmet : Condition
  pub behind : List Condition
  pub order : cs ≡ before ++ (unmet ∷ behind)
  pub earlier-hold : all_hold before ≡ true
  pub is_true : unmet.holds ≡ false
  pub named : cause ≡ unmet.cause

first_or_none : (cs : List Condition) → ((all_hold cs ≡ true) × (first_unmet cs ≡ no_cause)) ⊎ First cs (first_unmet cs)
unfolding all_hold first_unmet
first_or_none [] = inl (refl, refl)
first_or_none (c ∷ cs) = go c.holds refl (first_or_none cs)
  where
    go : (b : Bool) → c.holds ≡ b → ((all_hold cs ≡ true) × (first_unmet cs ≡ no_cause)) ⊎ First cs (first_unmet cs) → (((b && all_hold cs) ≡ true) × (cond b (first_unmet cs) c.cause ≡ no_cause)) ⊎ First (c ∷ cs) (cond b (first_unmet cs) c.cause)
    go true e (inl all) = inl all
    go true e (inr f) =
        inr
        (record {
          before = c ∷ f.before;
          unmet = f.unmet;
          behind = f.behind;
          order = ap (λ (l : List Condition). c ∷ l) f.order;
          earlier-hold = ap (λ (b : Bool). b && all_hold f.before) e ∙ f.earlier-hold;
          is_true = f.is_true;
          named = f.named;
        })
    go false e deeper = inr (record { before = []; unmet = c; behind = cs; order = refl; earlier-hold = refl; is_true = e; named = refl })

-- where all hold, nothing shuts the day out
pub none-unmet : (cs : List Condition) → all_hold cs ≡ true → first_unmet cs ≡ no_cause
unfolding all_hold first_unmet
none-unmet [] h = refl
none-unmet (c ∷ cs) h = go c.holds h (λ k. none-unmet cs k)
  where
    go : (b : Bool) → (b && all_hold cs) ≡ true → (all_hold cs ≡ true → first_unmet cs ≡ no_cause) → cond b (first_unmet cs) c.cause ≡ no_cause
    go true k deeper = deeper k
    go false k deeper = absurd (false≢true k)

-- conditions that all hold add nothing behind others
unmet-in-front : (cs others : List Condition) → all_hold others ≡ true → first_unmet (cs ++ others) ≡ first_unmet cs
unfolding first_unmet
unmet-in-front [] others h = none-unmet others h
unmet-in-front (c ∷ cs) others h = ap (λ (x : Cause). cond c.holds x c.cause) (unmet-in-front cs others h)

-- where nothing does, all hold, since each condition has a number, from 1 to 23: one test over them all
all_numbered : List Condition → Bool
all_numbered [] = true
all_numbered (c ∷ cs) = (leb 1 c.cause.condition && leb c.cause.condition 23) && all_numbered cs

record Numbered (c : Condition) (cs : List Condition) : Type 0 where
  low : 1 ≤ c.cause.condition
  high : c.cause.condition ≤ 23
  others : all_numbered cs ≡ true

each-numbered : (c : Condition) (cs : List Condition) → all_numbered (c ∷ cs) ≡ true → Numbered c cs
unfolding all_numbered
each-numbered c cs e =
    let k = c.cause.condition in
    let both = (and-eq-true_iff (leb 1 k && leb k 23) (all_numbered cs)).0 e in
    let ends = (and-eq-true_iff (leb 1 k) (leb k 23)).0 both.0 in
    record { low = leb-true 1 k ends.0; high = leb-true k 23 ends.1; others = both.1 }

all-met : (cs : List Condition) → all_numbered cs ≡ true → (first_unmet cs).condition ≡ 0 → all_hold cs ≡ true
unfolding all_hold first_unmet
all-met [] k h = refl
all-met (c ∷ cs) k h = let known = each-numbered c cs k in go c.holds known.low h (λ e. all-met cs known.others e)
  where
    go : (b : Bool) → 1 ≤ c.cause.condition → (cond b (first_unmet cs) c.cause).condition ≡ 0 → ((first_unmet cs).condition ≡ 0 → all_hold cs ≡ true) → (b && all_hold cs) ≡ true
    go true l e deeper = deeper e
    go false l e deeper = absurd (omega arith)

small : (cs : List Condition) → all_numbered cs ≡ true → (first_unmet cs).condition ≤ 23
unfolding first_unmet
small [] k = omega arith
small (c ∷ cs) k = let known = each-numbered c cs k in go c.holds known.high (small cs known.others)
  where
    go : (b : Bool) → c.cause.condition ≤ 23 → (first_unmet cs).condition ≤ 23 → (cond b (first_unmet cs) c.cause).condition ≤ 23
    go true l h = h
    go false l h = l

module _ (q : Query) (n : ℕ) where
  numbered : all_numbered (conditions_on q n) ≡ true
  unfolding all_numbered conditions_on row
  numbered = refl

  -- all conditions together, in whatever order, are what makes a day match
  all-together : all_hold (conditions_on q n) ≡ matches q n
  unfolding all_hold conditions_on row matches conditions_met arcs_met elements_met true_arcs_met
  all-together =
      let d = pair_at n in
      rw (and-true (place_met q.edition q.true_arcs d 6), ← nine (body_met q.arcs d) (each_place (place_met q.edition q.true_arcs d)))
      (reordered (leb q.first n) (leb n q.last) (weekday_met q.weekdays (weekday_on n)) (meets q.tithi (tithi_at q.edition d)) (meets q.nakshatra (nakshatra_at q.edition d)) (meets q.yoga (yoga_at q.edition d)) (meets q.karana (karana_at q.edition d)) (each_body (body_met q.arcs d)) (each_place (place_met q.edition q.true_arcs d)))
    where
      -- the bodies, and others behind them
      nine : (b : ℕ → Bool) (others : Bool) → (each_body b && others) ≡ (b 0 && (b 1 && (b 2 && (b 3 && (b 4 && (b 5 && (b 6 && (b 7 && (b 8 && others)))))))))
      nine b others = simp and_assoc

      reordered : (f l w t k y r a p : Bool) → (f && (l && (w && (t && (k && (y && (r && (a && p)))))))) ≡ ((f && l) && (a && (w && ((t && (k && (y && r))) && p))))
      reordered false l w t k y r a p = refl
      reordered true false w t k y r a p = refl
      reordered true true false t k y r a p = sym (and-false a)
      reordered true true true false k y r a p = sym (and-false a)
      reordered true true true true false y r a p = sym (and-false a)
      reordered true true true true true false r a p = sym (and-false a)
      reordered true true true true true true false a p = sym (and-false a)
      reordered true true true true true true true a p = refl

  -- paper 02's conditions, without those that came later
  abbrev pub first_conditions : List Condition
  first_conditions =
      one_condition 1 (leb q.first n) (bound q.first) n
      ∷ one_condition 2 (leb n q.last) (bound q.last) n
      ∷ one_condition 3 (weekday_met q.weekdays (weekday_on n)) (any_of q.weekdays.set) (weekday_on n)
      ∷ element_asked 4 q.tithi (tithi_at q.edition (pair_at n))
      ∷ element_asked 5 q.nakshatra (nakshatra_at q.edition (pair_at n))
      ∷ element_asked 6 q.yoga (yoga_at q.edition (pair_at n))
      ∷ row (arcs_asked q.arcs (pair_at n)) 0 9

  -- A QUERY WITHOUT THE LATER CONDITIONS is explained by those alone
  pub explained-as-before : q.karana ≡ not_asked → q.true_arcs ≡ replicate 7 no_arcs → first_unmet (conditions_on q n) ≡ first_unmet first_conditions
  unfolding first_unmet conditions_on
  explained-as-before k t =
      rw (unmet-in-front (row (arcs_asked q.arcs (pair_at n)) 0 9) (true_conditions q.edition q.true_arcs (pair_at n)) (none-asked t), any k)
    where
      any : q.karana ≡ not_asked → meets q.karana (karana_at q.edition (pair_at n)) ≡ true
      any k = unfold meets in rw k

      none-asked : q.true_arcs ≡ replicate 7 no_arcs → all_hold (true_conditions q.edition q.true_arcs (pair_at n)) ≡ true
      none-asked t = unfold all_hold row in_arcs in rw t

  -- an answer that is not refused
  pub answered : (why_of q n).refusal ≡ 0 → refusal_on q n ≡ 0
  unfolding why_of
  answered r = go (eqb (refusal_on q n) 0) refl r
    where
      go : (b : Bool) → eqb (refusal_on q n) 0 ≡ b → (cond b (record { refusal = 0; edition = q.edition; cause = first_unmet (conditions_on q n) }) (no_answer (refusal_on q n))).refusal ≡ 0 → refusal_on q n ≡ 0
      go true e h = eqb-true _ _ e
      go false e h = h

  pub told : refusal_on q n ≡ 0 → why_of q n ≡ record { refusal = 0; edition = q.edition; cause = first_unmet (conditions_on q n) }
  unfolding why_of
  told r = rw (eq-eqb _ _ r)

  -- it names an edition
  pub edition-told : (why_of q n).refusal ≡ 0 → is_edition (why_of q n).edition ≡ true
  edition-told r = let a = answered r in rw (told a) (accepted-question q n a).edition

  -- a condition's number is at most 23
  pub condition-small : (why_of q n).cause.condition ≤ 23
  unfolding why_of
  condition-small = go (eqb (refusal_on q n) 0)
    where
      go : (b : Bool) → (cond b (record { refusal = 0; edition = q.edition; cause = first_unmet (conditions_on q n) }) (no_answer (refusal_on q n))).cause.condition ≤ 23
      go true = small (conditions_on q n) numbered
      go false = omega arith

  -- THE REASON IS TRUE, and everything before it in the order holds
  pub first-unmet : (why_of q n).refusal ≡ 0 → ((why_of q n).cause ≡ no_cause → ⊥) → First (conditions_on q n) (why_of q n).cause
  first-unmet r some = rw (told (answered r)) (go (first_or_none (conditions_on q n)) (λ none. some (rw (told (answered r)) none)))
    where
      go : ((all_hold (conditions_on q n) ≡ true) × (first_unmet (conditions_on q n) ≡ no_cause)) ⊎ First (conditions_on q n) (first_unmet (conditions_on q n)) → (first_unmet (conditions_on q n) ≡ no_cause → ⊥) → First (conditions_on q n) (first_unmet (conditions_on q n))
      go (inl all) other = absurd (other all.1)
      go (inr f) other = f

  -- A DAY FITS if and only if the search lists it
  pub fits-listed : (why_of q n).refusal ≡ 0 → (why_of q n).cause.condition ≡ 0 → Has n (matching_days q)
  fits-listed r e = listed-all q n (matches-listed q n (sym all-together ∙ all-met (conditions_on q n) numbered (ap (λ (x : Numbers). x.cause.condition) (sym (told (answered r))) ∙ e)))

  pub listed-fits : refusal_of q ≡ 0 → Has n (matching_days q) → why_of q n ≡ record { refusal = 0; edition = q.edition; cause = no_cause }
  listed-fits r h =
      let l = listed-only q n h in
      told (accepted-on (omega (arith, l.to_last, (accepted-by q r).last))) ∙ ap (λ (c : Cause). record { refusal = 0; edition = q.edition; cause = c }) (none-unmet (conditions_on q n) (all-together ∙ listed-matches q n l))
    where
      accepted-on : n ≤ last_day → refusal_on q n ≡ 0
      accepted-on h = unfold refusal_on in rw ((accepted-by q r).edition, le-leb _ _ h) r

  -- it is refused as the look is
  pub refused-as-look : (why_of q n).refusal ≡ result_number (examined_of q n)
  unfolding why_of refusal_on examined_of result_number
  refused-as-look = go (is_edition q.edition) (leb n last_day) refl refl
    where
      number : (r : ℕ) → (cond (eqb r 0) (record { refusal = 0; edition = q.edition; cause = first_unmet (conditions_on q n) }) (no_answer r)).refusal ≡ r
      number r = either (eqb r 0) refl
        where
          either : (b : Bool) → eqb r 0 ≡ b → (cond b (record { refusal = 0; edition = q.edition; cause = first_unmet (conditions_on q n) }) (no_answer r)).refusal ≡ r
          either true e = sym (eqb-true r 0 e)
          either false e = refl

      looked-number : (c : Result (Unit {0}) Refusal) → result_number c ≡ result_number (and_then c (λ (_ : Unit {0}). Ok (looked q n)))
      looked-number (Ok tt) = refl
      looked-number (Err r) = refl

      go : (t u : Bool) → is_edition q.edition ≡ t → leb n last_day ≡ u → (why_of q n).refusal ≡ result_number (examined_of q n)
      go true true e f = rw (e, f) (number (refusal_of q) ∙ sym (check-number q) ∙ looked-number (check_of q))
      go true false e f = rw (e, f)
      go false u e f = rw e

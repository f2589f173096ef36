-- What more is asked says which conditions are not given: a test of some other body by its outcomes, and what is left
-- to be met.
-- Assumes nothing.
use mathlib.Core.Path.{◌≡◌, refl, sym, ap, ◌∙◌}
use mathlib.Core.Bool.{Bool, true, false, not, ◌&&◌, ◌||◌, and-true, true≢false}
use mathlib.Core.List.{List, [], ◌∷◌}
use Prim.Native.Nat.{ℕ, zero, suc, ◌+◌, ◌<◌}
use native.Mathlib.Omega.{arith}
use lib.Dec.{lit<}
use lib.ListN.{length, take, drop}
use borrow.Author.Count.{below_more}
use Rattle.std.proofs.Common.{length-drop}
use Rattle.std.proofs.lemmas.List.{take_all}
use Rattle.std.specs.List.{list_all, list_any}
use Rattle.days.specs.declared.Day.{Day}
use Rattle.days.specs.Days.{in_range}
use Rattle.panchanga.specs.TrueLongitudes.{is_edition}
use Rattle.query.specs.declared.BodyArcs.{BodyArcs}
use Rattle.query.specs.declared.Query.{Query}
use Rattle.query.specs.declared.TrueBody.{TrueBody}
use Rattle.query.specs.Conditions.{meets, arcs_at, arcs_given, in_arcs, elements_met, query_elements_met, true_longitude_at, each_place, place_met, true_arcs_met}
use Rattle.query.specs.Parts.{other_arcs_met, others_met}
use Rattle.query.specs.TrueBodies.{true_number}
use Rattle.query.proofs.Conditions.{other-false, all-others, places-met}
use Rattle.query.proofs.TrueBodies.{number-low}
use Rattle.search.specs.declared.Places.{Places}
use Rattle.search.specs.declared.Places.TheVariants as places
use Rattle.search.specs.declared.More.TheVariants.{Nothing, Elements, TrueArcs}
use Rattle.search.specs.Parts.{some_other, other_arcs_given, elements_given, NoneBut, GivenPlaces, Asks}

pub neither : (a b : Bool) → (a || b) ≡ false → (a ≡ false) × (b ≡ false)
neither true b e = absurd (true≢false e)
neither false b e = (refl, e)

-- a true outcome decides, and where none is every one is false
module _ (p : ℕ → Bool) where
  other-true : (k : ℕ) → 0 < k → k < 9 → p k ≡ true → some_other p ≡ true
  other-true k l u e = ap not (other-false (λ (body : ℕ). not (p body)) k l u (ap not e))

  all-false : some_other p ≡ false → (k : ℕ) → 0 < k → k < 9 → p k ≡ false
  all-false e k l u = go (p k) refl
    where
      go : (b : Bool) → p k ≡ b → p k ≡ false
      go true f = absurd (true≢false (sym (other-true k l u f) ∙ e))
      go false f = f

-- some element of a list passes where it is not so that each fails
any-not : {A : Type 0} (p : A → Bool) (l : List A) → list_any p l ≡ not (list_all (λ (a : A). not (p a)) l)
any-not p [] = refl
any-not p (a ∷ l) = go (p a) (any-not p l)
  where
    go : (b : Bool) → list_any p l ≡ not (list_all (λ a. not (p a)) l) → (b || list_any p l) ≡ not (not b && list_all (λ a. not (p a)) l)
    go true ih = refl
    go false ih = ih

pub some-given : (arcs : List BodyArcs) → length arcs ≡ 9 → list_any (λ a. arcs_given a) (take 8 (drop 1 arcs)) ≡ other_arcs_given arcs
unfolding other_arcs_given
some-given arcs e =
    ap (list_any (λ a. arcs_given a)) (take_all 8 (drop 1 arcs) (omega (arith, length-drop 1 arcs)))
    ∙ any-not (λ a. arcs_given a) (drop 1 arcs) ∙ ap not (all-others (λ a. not (arcs_given a)) arcs e)

-- a test of the seven places that holds for all but one is that one's
each-but : (p : ℕ → Bool) (k : ℕ) → k < 7 → ((j : ℕ) → j < 7 → (j ≡ k → ⊥) → p j ≡ true) → each_place p ≡ p k
each-but p zero l h =
    rw (h 1 (lit< tt) (λ e. omega arith), h 2 (lit< tt) (λ e. omega arith), h 3 (lit< tt) (λ e. omega arith), h 4 (lit< tt) (λ e. omega arith), h 5 (lit< tt) (λ e. omega arith), h 6 (lit< tt) (λ e. omega arith)) (and-true (p 0))
each-but p (suc zero) l h =
    rw (h 0 (lit< tt) (λ e. omega arith), h 2 (lit< tt) (λ e. omega arith), h 3 (lit< tt) (λ e. omega arith), h 4 (lit< tt) (λ e. omega arith), h 5 (lit< tt) (λ e. omega arith), h 6 (lit< tt) (λ e. omega arith)) (and-true (p 1))
each-but p (suc (suc zero)) l h =
    rw (h 0 (lit< tt) (λ e. omega arith), h 1 (lit< tt) (λ e. omega arith), h 3 (lit< tt) (λ e. omega arith), h 4 (lit< tt) (λ e. omega arith), h 5 (lit< tt) (λ e. omega arith), h 6 (lit< tt) (λ e. omega arith)) (and-true (p 2))
each-but p (suc (suc (suc zero))) l h =
    rw (h 0 (lit< tt) (λ e. omega arith), h 1 (lit< tt) (λ e. omega arith), h 2 (lit< tt) (λ e. omega arith), h 4 (lit< tt) (λ e. omega arith), h 5 (lit< tt) (λ e. omega arith), h 6 (lit< tt) (λ e. omega arith)) (and-true (p 3))
each-but p (suc (suc (suc (suc zero)))) l h =
    rw (h 0 (lit< tt) (λ e. omega arith), h 1 (lit< tt) (λ e. omega arith), h 2 (lit< tt) (λ e. omega arith), h 3 (lit< tt) (λ e. omega arith), h 5 (lit< tt) (λ e. omega arith), h 6 (lit< tt) (λ e. omega arith)) (and-true (p 4))
each-but p (suc (suc (suc (suc (suc zero))))) l h =
    rw (h 0 (lit< tt) (λ e. omega arith), h 1 (lit< tt) (λ e. omega arith), h 2 (lit< tt) (λ e. omega arith), h 3 (lit< tt) (λ e. omega arith), h 4 (lit< tt) (λ e. omega arith), h 6 (lit< tt) (λ e. omega arith)) (and-true (p 5))
each-but p (suc (suc (suc (suc (suc (suc zero)))))) l h =
    rw (h 0 (lit< tt) (λ e. omega arith), h 1 (lit< tt) (λ e. omega arith), h 2 (lit< tt) (λ e. omega arith), h 3 (lit< tt) (λ e. omega arith), h 4 (lit< tt) (λ e. omega arith), h 5 (lit< tt) (λ e. omega arith))
each-but p (suc (suc (suc (suc (suc (suc (suc n))))))) l h = absurd (omega arith)

-- the places below n of which a true longitude is asked for: there are none, or there is one
unfoldable pub Counting : List BodyArcs → Places → ℕ → Type 0
Counting arcs places.None n = (k : ℕ) → k < n → arcs_given (arcs_at arcs k) ≡ false
Counting arcs (places.One place) n = (place < n) × ((k : ℕ) → k < n → (k ≡ place → ⊥) → arcs_given (arcs_at arcs k) ≡ false)
Counting arcs places.Several n = Unit {0}

module _ (arcs : List BodyArcs) where
  pub counting-start : Counting arcs places.None 0
  unfolding Counting
  counting-start k h = absurd (omega arith)

  pub counting-first : (n : ℕ) → Counting arcs places.None n → Counting arcs (places.One n) (n + 1)
  unfolding Counting
  counting-first n none = (omega arith, λ k l m. none k (omega (arith, m)))

  pub counting-several : (n : ℕ) → Counting arcs places.Several n
  unfolding Counting
  counting-several n = tt

  pub counting-not : (n : ℕ) (p : Places) → arcs_given (arcs_at arcs n) ≡ false → Counting arcs p n → Counting arcs p (n + 1)
  unfolding Counting
  counting-not n places.None e none = below_more _ _ none e
  counting-not n (places.One place) e one = (omega (arith, one.0), below_more (λ (k : ℕ). (k ≡ place → ⊥) → arcs_given (arcs_at arcs k) ≡ false) n one.1 (λ m. e))
  counting-not n places.Several e c = tt

  pub counting-end : (p : Places) → Counting arcs p 7 → GivenPlaces arcs p
  unfolding Counting GivenPlaces
  counting-end places.None none = λ k l m. none k l
  counting-end (places.One place) one = one
  counting-end places.Several c = tt

module _ (q : Query) (d : Day) where
  arcs-free : other_arcs_given q.arcs ≡ false → other_arcs_met q.arcs d ≡ true
  unfolding other_arcs_given other_arcs_met in_arcs
  arcs-free e =
      let arc = all-false (λ (body : ℕ). arcs_given (arcs_at q.arcs body)) e in
      rw (arc 1 (lit< tt) (lit< tt), arc 2 (lit< tt) (lit< tt), arc 3 (lit< tt) (lit< tt), arc 4 (lit< tt) (lit< tt), arc 5 (lit< tt) (lit< tt), arc 6 (lit< tt) (lit< tt), arc 7 (lit< tt) (lit< tt), arc 8 (lit< tt) (lit< tt))

  elements-free : elements_given q ≡ false → query_elements_met q d ≡ true
  unfolding elements_given elements_met meets
  elements-free e =
      let tithi = neither q.tithi.given (q.nakshatra.given || (q.yoga.given || q.karana.given)) e in
      let nakshatra = neither q.nakshatra.given (q.yoga.given || q.karana.given) tithi.1 in
      let others = neither q.yoga.given q.karana.given nakshatra.1 in
      rw (tithi.0, nakshatra.0, others.0, others.1)

  place-free : (k : ℕ) → arcs_given (arcs_at q.true_arcs k) ≡ false → place_met q.edition q.true_arcs d k ≡ true
  unfolding in_arcs
  place-free k e = rw e

  places-free : NoneBut q.true_arcs 7 → true_arcs_met q.edition q.true_arcs d ≡ true
  places-free h = places-met q.edition q.true_arcs d (λ k l. place-free k (h k l (λ e. omega arith)))

  one_place : (k : ℕ) → k < 7 → NoneBut q.true_arcs k → true_arcs_met q.edition q.true_arcs d ≡ place_met q.edition q.true_arcs d k
  unfolding true_arcs_met
  one_place k l h = each-but (place_met q.edition q.true_arcs d) k l (λ j m n. place-free j (h j m n))

  -- what is left to be met: nothing, the elements, or one true longitude
  pub no_more : is_edition q.edition ≡ true → in_range d ≡ true → Asks q Nothing → others_met q d ≡ true
  unfolding others_met Asks
  no_more edition r a = rw (edition, r, arcs-free a.0, elements-free a.1, places-free a.2)

  pub elements-decide : Asks q Elements → (is_edition q.edition && (in_range d && query_elements_met q d)) ≡ others_met q d
  unfolding others_met Asks
  elements-decide a = rw (arcs-free a.0, places-free a.1, and-true (query_elements_met q d))

  pub place-decides :
      (body : TrueBody) (arcs : BodyArcs) →
      Asks q (TrueArcs body arcs) →
      (is_edition q.edition && (in_range d && in_arcs arcs (true_longitude_at q.edition (true_number body) d))) ≡ others_met q d
  unfolding others_met Asks
  place-decides body arcs a = rw (a.2, arcs-free a.0, elements-free a.1, one_place (true_number body) (number-low body) a.3)

-- The line fits: for a query that is not refused what each condition says where it does not hold is short, and so what
-- is said of the first. By the list of the conditions.
-- Assumes nothing.
use Prim.Native.Nat.{ℕ, zero, suc, ◌+◌, ◌-◌, ◌≤◌, ◌<◌}
use mathlib.Core.Path.{◌≡◌, refl, sym, ◌∙◌}
use mathlib.Core.Bool.{Bool, true, false, cond, and-eq-true_iff, true≢false}
use mathlib.Core.List.{List, [], ◌∷◌, ◌++◌}
use native.Mathlib.Omega.{arith}
use lib.Dec.{eqb}
use lib.ListN.{length, length-append}
use Rattle.catalogue.proofs.DayLines.{edition-short}
use Rattle.dated.proofs.Laws.{day-short, angle-short}
use Rattle.dated.specs.Dated.{day_bytes}
use Rattle.days.specs.Days.{last_day, pair_at, weekday_on}
use Rattle.days.specs.Weekdays.{in_set}
use Rattle.longitudes.specs.Longitudes.{longitude_at}
use Rattle.longitudes.proofs.Table.{longitude-small}
use Rattle.names.specs.declared.Kind.{Kind}
use Rattle.names.specs.declared.Kind.TheVariants.{Tithi, Nakshatra, Yoga, Karana, Sign, Month, Fortnight, Weekday}
use Rattle.names.specs.declared.Print.TheVariants.{Numbers as ByNumbers}
use Rattle.panchanga.proofs.Bounds.{tithi-small, nakshatra-small, yoga-small, karana-range}
use Rattle.query.specs.declared.BodyArcs.{BodyArcs}
use Rattle.query.specs.declared.Weekdays.{Weekdays}
use Rattle.query.specs.declared.Query.{Query}
use Rattle.query.specs.Conditions.{weekday_met, arcs_at, true_longitude_at, weekdays_in_range, elements_in_range, body_arcs_in_range, arcs_in_range, true_arcs_in_range, conditions_in_range}
use Rattle.query.proofs.Conditions.{arcs-false, true-arcs-false}
use Rattle.query.proofs.Accepted.{accepted-by, each-in-range}
use Rattle.reasons.specs.Conditions.{bound, any_of, Condition, arcs_asked, true_arcs_asked, row, true_conditions, conditions_on, first_unmet}
use Rattle.reasons.specs.Reasons.{why_of}
use Rattle.reasons.proofs.Accepted.{accepted-question}
use Rattle.reasons.proofs.Laws.{answered, told}
use Rattle.text.specs.Ascii.{ascii}
use Rattle.text.specs.Lines.{line_capacity}
use Rattle.text.proofs.Printing.{digits-length}
use Rattle.words.specs.Names.{body_names, true_names}
use Rattle.words.specs.Words.{name_at}
use Rattle.words.proofs.Names.{body-name-short, true-name-short}
use Rattle.explanation.specs.Explanations.{weekdays_text, element_kind, kind_word, element_text, numbers_text, arcs_text, verdict_of, verdict_text, answer_line, explanation_of}
use Rattle.explanation.proofs.Sizes.{names-short, numbers-short, arc-short, true-small}

-- what each of some conditions says where it does not hold is short
Short : List Condition → Type 0
Short [] = Unit {0}
Short (c ∷ cs) = (c.holds ≡ false → length (verdict_text ByNumbers c.cause) ≤ 129) × Short cs

first_short : (cs : List Condition) → Short cs → length (verdict_text ByNumbers (first_unmet cs)) ≤ 129
unfolding Short first_unmet verdict_of
first_short [] h = omega arith
first_short (c ∷ cs) h = go c.holds refl (first_short cs h.1)
  where
    go : (b : Bool) → c.holds ≡ b → length (verdict_text ByNumbers (first_unmet cs)) ≤ 129 → length (verdict_text ByNumbers (cond b (first_unmet cs) c.cause)) ≤ 129
    go true e k = k
    go false e k = h.0 e

-- those in a row are, where each of them is, with others behind them
row-short : (f : ℕ → Condition) (count : ℕ) (others : List Condition) → ((k : ℕ) → k < count → length (verdict_text ByNumbers (f k).cause) ≤ 129) → Short others → (n k : ℕ) → k + n ≤ count → Short (row f k n ++ others)
unfolding Short row
row-short f count others each rest zero k h = rest
row-short f count others each rest (suc n) k h = (λ _. each k (omega arith), row-short f count others each rest n (k + 1) (omega arith))

not-in-set : (a : Weekdays) (w : ℕ) → weekday_met a w ≡ false → in_set a.set w ≡ false
unfolding weekday_met
not-in-set a w e = go a.given e
  where
    go : (g : Bool) → cond g (in_set a.set w) true ≡ false → in_set a.set w ≡ false
    go true k = k
    go false k = absurd (true≢false k)

end_short : (k day found : ℕ) → day ≤ last_day → length (verdict_of ByNumbers (bound day) k found) ≤ 129
unfolding verdict_of
end_short k day found h = go (eqb k 1)
  where
    go : (b : Bool) → length (ascii " does not fit: " ++ cond b (ascii "before the span asked from " ++ day_bytes day) (ascii "after the span asked to " ++ day_bytes day)) ≤ 129
    go true = simp length-append (omega (arith, day-short day h))
    go false = simp length-append (omega (arith, day-short day h))

weekday-short : (set found : ℕ) → found < 7 → in_set set found ≡ false → length (verdict_of ByNumbers (any_of set) 3 found) ≤ 129
unfolding verdict_of weekdays_text
weekday-short set found h e = simp length-append (omega (arith, names-short set found h e))

pub word-short : (kind : Kind) → length (kind_word kind) ≤ 9
word-short Tithi = omega arith
word-short Nakshatra = omega arith
word-short Yoga = omega arith
word-short Karana = omega arith
word-short Sign = omega arith
word-short Month = omega arith
word-short Fortnight = omega arith
word-short Weekday = omega arith

element-short : (k set found : ℕ) → eqb k 3 ≡ false → found < 100 → length (verdict_of ByNumbers (any_of set) k found) ≤ 129
unfolding verdict_of element_text numbers_text
element-short k set found e h = rw e (simp length-append (omega (arith, word-short (element_kind k), numbers-short set 0 30 (omega arith), digits-length 1 found (omega arith))))

arcs-short : (name : List ℕ) (asked : BodyArcs) (found : ℕ) → length name ≤ 12 → body_arcs_in_range asked ≡ true → found < 1296000 → length (arcs_text name asked found) ≤ 74
unfolding arcs_text
arcs-short name asked found h r f =
    let in-range = each-in-range asked r in
    simp length-append (omega (arith, arc-short asked.first in-range.0, arc-short asked.second in-range.1, angle-short found (omega arith)))

-- the arcs of a query are in range, each
in-range : {asked : Bool} (one : Bool) → asked ≡ true → (one ≡ false → asked ≡ false) → one ≡ true
in-range true a h = refl
in-range false a h = absurd (true≢false (sym a ∙ h refl))

module _ (q : Query) (n : ℕ) (arcs : arcs_in_range q.arcs ≡ true) (others : true_arcs_in_range q.true_arcs ≡ true) where
  body-short : (k : ℕ) → k < 9 → length (verdict_text ByNumbers (arcs_asked q.arcs (pair_at n) k).cause) ≤ 129
  unfolding verdict_of
  body-short k l =
      let back : 7 + k - 7 ≡ k = omega arith in
      rw back (omega (arith, arcs-short (name_at body_names k) (arcs_at q.arcs k) (longitude_at k (pair_at n)) (omega (arith, body-name-short k)) (in-range _ arcs (arcs-false q.arcs k l)) (longitude-small k (pair_at n))))

  place_short : (k : ℕ) → k < 7 → length (verdict_text ByNumbers (true_arcs_asked q.edition q.true_arcs (pair_at n) k).cause) ≤ 129
  unfolding verdict_of
  place_short k l =
      let back : 17 + k - 17 ≡ k = omega arith in
      rw back (omega (arith, arcs-short (name_at true_names k) (arcs_at q.true_arcs k) (true_longitude_at q.edition k (pair_at n)) (true-name-short k) (in-range _ others (true-arcs-false q.true_arcs k l)) (true-small q.edition k (pair_at n))))

  all_short : q.first ≤ last_day → q.last ≤ last_day → Short (conditions_on q n)
  unfolding Short conditions_on row
  all_short first last =
      let d = pair_at n in (
        λ _. end_short 1 q.first n first,
        (
          λ _. end_short 2 q.last n last,
          (
            λ e. weekday-short q.weekdays.set (weekday_on n) (omega arith) (not-in-set q.weekdays (weekday_on n) e),
            (
              λ _. element-short 4 q.tithi.set _ refl (omega (arith, tithi-small q.edition d)),
              (
                λ _. element-short 5 q.nakshatra.set _ refl (omega (arith, nakshatra-small q.edition d)),
                (
                  λ _. element-short 6 q.yoga.set _ refl (omega (arith, yoga-small q.edition d)),
                  (
                    λ _. element-short 16 q.karana.set _ refl (omega (arith, karana-range q.edition d)),
                    row-short (arcs_asked q.arcs d) 9 (true_conditions q.edition q.true_arcs d) body-short (row-short (true_arcs_asked q.edition q.true_arcs d) 7 [] place_short tt 7 0 (omega arith)) 9 0 (omega arith),
                  ),
                ),
              ),
            ),
          ),
        ),
      )

-- the arcs of a query whose conditions are in range
arcs-of : (q : Query) → conditions_in_range q ≡ true → (arcs_in_range q.arcs ≡ true) × (true_arcs_in_range q.true_arcs ≡ true)
unfolding conditions_in_range
arcs-of q e =
    let elements = ((and-eq-true_iff (weekdays_in_range q.weekdays) _).0 e).1 in
    (and-eq-true_iff (arcs_in_range q.arcs) (true_arcs_in_range q.true_arcs)).0 ((and-eq-true_iff (elements_in_range q) _).0 elements).1

pub explanation-fits : (q : Query) (n : ℕ) → (why_of q n).refusal ≡ 0 → length (explanation_of ByNumbers q n) ≤ line_capacity
unfolding answer_line
explanation-fits q n r =
    let a = accepted-question q n (answered q n r) in
    let by = accepted-by q a.query in
    let arcs = arcs-of q by.conditions in
    let verdict = first_short (conditions_on q n) (all_short q n arcs.0 arcs.1 (omega (arith, by.first, by.last)) by.last) in
    rw (told q n (answered q n r)) (simp length-append (omega (arith, day-short n a.day, verdict, edition-short q.edition)))

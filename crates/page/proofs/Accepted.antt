-- A page that is accepted has a query that the search does not refuse. Each line's refusal has a place in the order of
-- refusals; its condition alone is not refused, and conditions that are not refused alone are not refused together.
-- Assumes nothing.
use mathlib.Core.Path.{◌≡◌, refl, ap, sym, ◌∙◌}
use mathlib.Core.Bool.{Bool, true, false, cond, ◌&&◌, and-eq-true_iff, false≢true}
use mathlib.Core.List.{List, [], ◌∷◌}
use Rattle.std.specs.Prelude.{Option, Some, None, Result, Ok, Err, ⊤, IfOk, IfErr, is_ok}
use Rattle.std.proofs.lemmas.Option.{none-some}
use Rattle.std.proofs.lemmas.Result.{IfOk-at_ok}
use Prim.Native.Nat.{ℕ, zero, suc, ◌-◌, ◌≤◌, ◌<◌}
use native.Mathlib.Omega.{arith}
use borrow.Author.Tests.{eqb-true, eqb-false, ltb-true, le-leb}
use lib.Dec.{eqb, leb, ltb}
use lib.ListN.{length, get_or, set, replicate, length-set, length-replicate}
use lib.Seq.{get_or-set_same, get_or-set_other}
use Rattle.days.specs.declared.refusal.Refusal.{Refusal}
use Rattle.days.specs.declared.refusal.Refusal.TheVariants.{NoSuchDate, OutOfRange, BadInput, LastBeforeFirst, BadCondition, BadEdition}
use Rattle.days.specs.Refusals.{bad_input, refusal_number, result_number, and_then}
use Rattle.days.specs.Days.{last_day, answer_over}
use Rattle.names.specs.declared.Kind.{Kind}
use Rattle.names.specs.declared.Kind.TheVariants.{Weekday}
use Rattle.panchanga.specs.TrueLongitudes.{first_edition, is_edition}
use Rattle.query.specs.declared.Arc.{Arc}
use Rattle.query.specs.declared.Asked.{Asked}
use Rattle.query.specs.declared.Weekdays.{Weekdays}
use Rattle.query.specs.declared.BodyArcs.{BodyArcs}
use Rattle.query.specs.declared.Query.{Query}
use Rattle.query.specs.Conditions.{numbers_in_range, asked_in_range, weekdays_in_range, arcs_at, arc_in_range, body_arcs_in_range, arcs_in_range, true_arcs_in_range, elements_in_range, conditions_in_range, not_asked, no_weekdays, no_arcs}
use Rattle.query.specs.Query.{refusal_of, check_of}
use Rattle.query.proofs.Conditions.{arcs-true, arcs-false, true-arcs-true, true-arcs-false}
use Rattle.query.proofs.Accepted.{accepted-by, checked, refusal-positive}
use Rattle.values.specs.Values.{most_of, named_set_read}
use Rattle.values.proofs.Refusals.{either, OfReading, number-refusal, day-refusal, set-of-refusal, none-refusal}
use Rattle.words.specs.Words.{first_word, after_word, after_words, place_in}
use Rattle.page.specs.Names.{keywords, print_names}
use Rattle.page.specs.declared.Values.{Values}
use Rattle.page.specs.declared.LineRead.{LineRead}
use Rattle.page.specs.declared.LineRead.TheVariants.{Blank, Malformed, Condition}
use Rattle.page.specs.declared.Reason.{Reason}
use Rattle.page.specs.declared.Reason.TheVariants.{UnknownWord, OtherValues}
use Rattle.page.specs.declared.PageRead.{PageRead}
use Rattle.page.specs.declared.Fault.{Fault}
use Rattle.page.specs.declared.Page.{Page}
use Rattle.page.specs.Page.{span_keyword, weekday_keyword, tithi_keyword, nakshatra_keyword, yoga_keyword, edition_keyword, arc_keywords, karana_keyword, true_keywords, print_keyword, keyword_count, is_element, element_of, has_arcs, every_day, with_condition, rank_of, first_refusal, print_read, first_value, second_value, both_read, number_values, numbers_read, arcs_read, arcs_in, most_values, values_read, malformed_line, alone_read, condition_read, words_read, line_read, line_numbers, with_fault, with_new, with_keyword, with_line, with_lines, empty_page, answer_unless, page_answer, lines_of, page_read}

-- a refusal that has a place in the order of refusals
abbrev pub Ranked : Refusal → Type 0
Ranked r = rank_of (refusal_number r) < 6

pub ranked-all : Ranked NoSuchDate × Ranked OutOfRange × Ranked BadInput × Ranked LastBeforeFirst × Ranked BadCondition × Ranked BadEdition
unfolding rank_of
ranked-all = (omega arith, omega arith, omega arith, omega arith, omega arith, omega arith)

-- an answer whose refusal, if it has one, does
abbrev RankedIn : {A : Type 0} → Result A Refusal → Type 0
RankedIn a = IfErr a Ranked

-- the refusals of a value that is read
by-number : (n : ℕ) → n ≤ bad_input → (n ≡ 0 → ⊥) → rank_of n < 6
unfolding rank_of
by-number zero h some = absurd (some refl)
by-number (suc zero) h some = omega arith
by-number (suc (suc zero)) h some = omega arith
by-number (suc (suc (suc zero))) h some = omega arith
by-number (suc (suc (suc (suc n)))) h some = absurd (omega arith)

ranked-read : {A : Type 0} (a : Result A Refusal) → OfReading a → RankedIn a
unfolding OfReading result_number
ranked-read (Ok a) h = tt {0}
ranked-read (Err r) h = by-number (refusal_number r) h (refusal-positive r)

both-ranked : (a b : Result ℕ Refusal) → RankedIn a → RankedIn b → RankedIn (both_read a b)
unfolding both_read
both-ranked (Ok a) (Ok b) ka kb = tt {0}
both-ranked (Ok a) (Err t) ka kb = kb
both-ranked (Err r) (Ok b) ka kb = ka
both-ranked (Err r) (Err t) ka kb = either Ranked (eqb (first_refusal (refusal_number r) (refusal_number t)) (refusal_number t)) kb ka

numbers-ranked : (a b : Result ℕ Refusal) → OfReading a → OfReading b → RankedIn (numbers_read a b)
unfolding numbers_read
numbers-ranked a b ka kb = go (both_read a b) (both-ranked a b (ranked-read a ka) (ranked-read b kb))
  where
    go : (d : Result (ℕ × ℕ) Refusal) → RankedIn d → RankedIn (and_then d (λ n. Ok (number_values n)))
    go (Ok d) k = tt {0}
    go (Err r) k = k

print-refusal : (w : List ℕ) → OfReading (print_read w)
unfolding print_read OfReading result_number
print-refusal w = either OfReading (ltb (place_in print_names w) 2) (omega arith) (omega arith)

first-value-read : (k : ℕ) (w : List ℕ) → OfReading (first_value k w)
unfolding first_value
first-value-read k w =
    either OfReading (eqb k span_keyword) (day-refusal w) (either OfReading (eqb k print_keyword) (print-refusal w) (number-refusal w))

second-value-read : (k : ℕ) (w : List ℕ) → OfReading (second_value k w)
unfolding second_value
second-value-read k w = either OfReading (eqb k span_keyword) (day-refusal w) (none-refusal w)

arcs-ranked : (a b : Option Arc) (left : List ℕ) → RankedIn (arcs_read a b left)
unfolding arcs_read
arcs-ranked (Some a) (Some b) left = either RankedIn (eqb (length left) 0) (tt {0}) ranked-all.2
arcs-ranked (Some a) None left = ranked-all.2
arcs-ranked None b left = ranked-all.2

set-ranked : (k : Kind) (t : List ℕ) → RankedIn (numbers_read (named_set_read k t) (Ok 0))
unfolding OfReading result_number
set-ranked k t = numbers-ranked (named_set_read k t) (Ok 0) (set-of-refusal k (most_of k) 0 t) (omega arith)

values-ranked : (k : ℕ) (t : List ℕ) → RankedIn (values_read k t)
unfolding values_read arcs_in
values-ranked k t =
    either RankedIn (eqb k weekday_keyword) (set-ranked Weekday t)
    (either RankedIn (is_element k) (set-ranked (element_of k) t)
    (either RankedIn (has_arcs k) (arcs-ranked _ _ _)
    (numbers-ranked _ _ (first-value-read k (first_word t)) (second-value-read k (first_word (after_word t))))))

query-ranked : (q : Query) → RankedIn (check_of q)
unfolding check_of answer_over
query-ranked q =
    either RankedIn (is_edition q.edition)
    (either RankedIn (leb q.first last_day && leb q.last last_day)
    (either RankedIn (leb q.first q.last) (either RankedIn (conditions_in_range q) (tt {0}) ranked-all.4) ranked-all.3)
    ranked-all.1)
    ranked-all.5

-- a line's refusal has a rank, and a condition that it does not refuse is not refused alone
abbrev pub SoundLine : LineRead → Type 0
SoundLine Blank = ⊤
SoundLine (Malformed _) = Ranked BadInput
SoundLine (Condition k (Ok v)) = refusal_of (with_condition every_day k v) ≡ 0
SoundLine (Condition k (Err r)) = Ranked r

malformed-sound : (why : Reason) → SoundLine (malformed_line why)
malformed-sound why = ranked-all.2

alone-sound : (k : ℕ) (v : Values) → SoundLine (Condition k (alone_read k v))
unfolding alone_read
alone-sound k v = go (check_of (with_condition every_day k v)) refl (query-ranked (with_condition every_day k v))
  where
    go : (a : Result (Unit {0}) Refusal) → check_of (with_condition every_day k v) ≡ a → RankedIn a → SoundLine (Condition k (and_then a (λ _. Ok v)))
    go (Ok u) e ranked = checked _ (sym e)
    go (Err r) e ranked = ranked

condition-sound : (k : ℕ) (v : Result Values Refusal) → RankedIn v → SoundLine (condition_read k v)
unfolding condition_read
condition-sound k (Ok v) ranked = alone-sound k v
condition-sound k (Err r) ranked = either SoundLine (eqb (refusal_number r) bad_input) (malformed-sound (OtherValues k)) ranked

words-sound : (name behind : List ℕ) → SoundLine (words_read name behind)
unfolding words_read
words-sound name behind =
    let k = place_in keywords name in
    either SoundLine (eqb (length name) 0) (tt {0})
    (either SoundLine (leb keyword_count k) (malformed-sound UnknownWord)
    (either SoundLine (eqb (length (first_word (after_words (most_values k) behind))) 0)
    (condition-sound k (values_read k behind) (values-ranked k behind))
    (malformed-sound (OtherValues k))))

pub line-read-sound : (l : List ℕ) → SoundLine (line_read l)
unfolding line_read
line-read-sound l = words-sound _ _

-- a fault is some fault
pub no-fault : (f : Fault) → Some f ≡ None → ⊥
no-fault f e = none-some f (sym e)

-- where a page has no fault behind a line, it has none before it, and the line is not refused
new-former : (p : Page) (n k : ℕ) (v : Result Values Refusal) → (with_new p n k v).fault ≡ None → p.fault ≡ None
new-former p n k (Ok v) e = e
new-former p n k (Err r) e = absurd (no-fault _ e)

pub first-fault-former : (p : Page) (n : ℕ) (l : LineRead) → (with_line p n l).fault ≡ None → p.fault ≡ None
unfolding with_line with_keyword
first-fault-former p n Blank = λ e. e
first-fault-former p n (Malformed why) = λ e. absurd (no-fault _ e)
first-fault-former p n (Condition k v) =
    either (λ (after : Page). after.fault ≡ None → p.fault ≡ None) (get_or p.present k false) (λ e. absurd (no-fault _ e)) (new-former p n k v)

pub first-fault-latter : (p : Page) (n : ℕ) (l : LineRead) → (with_line p n l).fault ≡ None → is_ok (line_numbers l) ≡ true
unfolding with_line with_keyword
first-fault-latter p n Blank = λ e. refl
first-fault-latter p n (Malformed why) = λ e. absurd (no-fault _ e)
first-fault-latter p n (Condition k (Ok v)) = λ e. refl
first-fault-latter p n (Condition k (Err r)) =
    either (λ (after : Page). after.fault ≡ None → is_ok (line_numbers (Condition k (Err r))) ≡ true) (get_or p.present k false) (λ e. absurd (no-fault _ e)) (λ e. absurd (no-fault _ e))

-- the arcs of so many bodies are in range
abbrev EachInRange : ℕ → List BodyArcs → Type 0
EachInRange count arcs = (k : ℕ) → k < count → body_arcs_in_range (arcs_at arcs k) ≡ true

-- what makes a query not refused
record Accepted (q : Query) : Type 0 where
  edition : is_edition q.edition ≡ true
  order : q.first ≤ q.last
  end : q.last ≤ last_day
  weekdays : weekdays_in_range q.weekdays ≡ true
  tithi : asked_in_range q.tithi 0 29 ≡ true
  nakshatra : asked_in_range q.nakshatra 0 26 ≡ true
  yoga : asked_in_range q.yoga 0 26 ≡ true
  karana : asked_in_range q.karana 1 11 ≡ true
  arcs : EachInRange 9 q.arcs
  places : EachInRange 7 q.true_arcs

-- a test that one body's arcs out of range decide
each-in-range :
    (count : ℕ) (arcs : List BodyArcs) (test : Bool) →
    ((k : ℕ) → k < count → body_arcs_in_range (arcs_at arcs k) ≡ false → test ≡ false) →
    test ≡ true →
    EachInRange count arcs
each-in-range count arcs test decides e k h = go (body_arcs_in_range (arcs_at arcs k)) refl
  where
    go : (t : Bool) → body_arcs_in_range (arcs_at arcs k) ≡ t → body_arcs_in_range (arcs_at arcs k) ≡ true
    go true f = f
    go false f = absurd (false≢true (sym (decides k h f) ∙ e))

accepted-conditions : (q : Query) → is_edition q.edition ≡ true → q.first ≤ q.last → q.last ≤ last_day → conditions_in_range q ≡ true → Accepted q
unfolding conditions_in_range elements_in_range
accepted-conditions q edition order end e =
    let w = (and-eq-true_iff _ _).0 e in
    let elements = (and-eq-true_iff _ _).0 w.1 in
    let t = (and-eq-true_iff _ _).0 elements.0 in
    let n = (and-eq-true_iff _ _).0 t.1 in
    let y = (and-eq-true_iff _ _).0 n.1 in
    let a = (and-eq-true_iff _ _).0 elements.1 in
    record {
      edition = edition;
      order = order;
      end = end;
      weekdays = w.0;
      tithi = t.0;
      nakshatra = n.0;
      yoga = y.0;
      karana = y.1;
      arcs = each-in-range 9 q.arcs _ (arcs-false q.arcs) a.0;
      places = each-in-range 7 q.true_arcs _ (true-arcs-false q.true_arcs) a.1;
    }

accepted-parts : (q : Query) → refusal_of q ≡ 0 → Accepted q
accepted-parts q h = let by = accepted-by q h in accepted-conditions q by.edition by.first by.last by.conditions

parts-accepted : (q : Query) → Accepted q → refusal_of q ≡ 0
unfolding refusal_of conditions_in_range elements_in_range
parts-accepted q g =
    rw (
      g.edition,
      le-leb q.first last_day (omega (arith, g.order, g.end)),
      le-leb q.last last_day g.end,
      le-leb q.first q.last g.order,
      g.weekdays,
      g.tithi,
      g.nakshatra,
      g.yoga,
      g.karana,
      arcs-true q.arcs g.arcs,
      true-arcs-true q.true_arcs g.places,
    )

-- what holds of the new in one place and of the old holds of the one picked
picked :
    {A : Type 0} (P : A → Type 0) (t : Bool) (new base old : A) →
    P (cond t new base) →
    P old →
    P (cond t new old)
picked P true new base old pn po = pn
picked P false new base old pn po = po

span-picked :
    (t : Bool) (a b f l : ℕ) →
    cond t a 0 ≤ cond t b last_day →
    f ≤ l →
    cond t a f ≤ cond t b l
span-picked true a b f l pn po = pn
span-picked false a b f l pn po = po

arcs-picked :
    (count : ℕ) (t : Bool) (arcs : List BodyArcs) (i : ℕ) (arc : BodyArcs) →
    (t ≡ true → i < count) →
    length arcs ≡ count →
    EachInRange count (cond t (set (replicate count no_arcs) i arc) (replicate count no_arcs)) →
    EachInRange count arcs →
    EachInRange count (cond t (set arcs i arc) arcs)
arcs-picked count false arcs i arc hi many pn po k h = po k h
arcs-picked count true arcs i arc hi many pn po k h = go (eqb k i) refl
  where
    this : body_arcs_in_range arc ≡ true
    this =
        sym (ap body_arcs_in_range (get_or-set_same (replicate count no_arcs) i arc no_arcs (omega (arith, hi refl, length-replicate count no_arcs))))
        ∙ pn i (hi refl)

    go : (u : Bool) → eqb k i ≡ u → body_arcs_in_range (arcs_at (set arcs i arc) k) ≡ true
    go true e =
        let same = eqb-true k i e in
        rw (same, get_or-set_same arcs i arc no_arcs (omega (arith, hi refl))) this
    go false e = rw (get_or-set_other arcs i k arc no_arcs (eqb-false k i e)) (po k h)

-- the bodies' keywords, and the true places'
of-body : (k : ℕ) → (leb arc_keywords k && ltb k karana_keyword) ≡ true → k - arc_keywords < 9
of-body k e = omega (arith, ltb-true k karana_keyword ((and-eq-true_iff (leb arc_keywords k) (ltb k karana_keyword)).0 e).1)

of-place : (k : ℕ) → (leb true_keywords k && ltb k print_keyword) ≡ true → k - true_keywords < 7
of-place k e = omega (arith, ltb-true k print_keyword ((and-eq-true_iff (leb true_keywords k) (ltb k print_keyword)).0 e).1)

abbrev asked : ℕ → Asked
asked a = record { given = true; set = a }

-- conditions that are not refused alone are not refused together
together :
    (q : Query) (k : ℕ) (v : Values) →
    length q.arcs ≡ 9 →
    length q.true_arcs ≡ 7 →
    Accepted q →
    Accepted (with_condition every_day k v) →
    Accepted (with_condition q k v)
unfolding with_condition
together q k v nine seven g alone =
    record {
      edition = picked (λ (n : ℕ). is_edition n ≡ true) (eqb k edition_keyword) v.first first_edition q.edition alone.edition g.edition;
      order = span-picked (eqb k span_keyword) v.first v.second q.first q.last alone.order g.order;
      end = picked (λ (n : ℕ). n ≤ last_day) (eqb k span_keyword) v.second last_day q.last alone.end g.end;
      weekdays = picked (λ (x : Weekdays). weekdays_in_range x ≡ true) (eqb k weekday_keyword) (record { given = true; set = v.first }) no_weekdays q.weekdays alone.weekdays g.weekdays;
      tithi = picked (λ (x : Asked). asked_in_range x 0 29 ≡ true) (eqb k tithi_keyword) (asked v.first) not_asked q.tithi alone.tithi g.tithi;
      nakshatra = picked (λ (x : Asked). asked_in_range x 0 26 ≡ true) (eqb k nakshatra_keyword) (asked v.first) not_asked q.nakshatra alone.nakshatra g.nakshatra;
      yoga = picked (λ (x : Asked). asked_in_range x 0 26 ≡ true) (eqb k yoga_keyword) (asked v.first) not_asked q.yoga alone.yoga g.yoga;
      karana = picked (λ (x : Asked). asked_in_range x 1 11 ≡ true) (eqb k karana_keyword) (asked v.first) not_asked q.karana alone.karana g.karana;
      arcs = arcs-picked 9 (leb arc_keywords k && ltb k karana_keyword) q.arcs (k - arc_keywords) _ (of-body k) nine alone.arcs g.arcs;
      places = arcs-picked 7 (leb true_keywords k && ltb k print_keyword) q.true_arcs (k - true_keywords) _ (of-place k) seven alone.places g.places;
    }

-- as many arcs as there were
arcs-kept : (t : Bool) (arcs : List BodyArcs) (i : ℕ) (arc : BodyArcs) → length (cond t (set arcs i arc) arcs) ≡ length arcs
arcs-kept true arcs i arc = length-set arcs i arc
arcs-kept false arcs i arc = refl

nine-kept : (q : Query) (k : ℕ) (v : Values) → length (with_condition q k v).arcs ≡ length q.arcs
unfolding with_condition
nine-kept q k v = arcs-kept (leb arc_keywords k && ltb k karana_keyword) q.arcs (k - arc_keywords) v.arcs

seven-kept : (q : Query) (k : ℕ) (v : Values) → length (with_condition q k v).true_arcs ≡ length q.true_arcs
unfolding with_condition
seven-kept q k v = arcs-kept (leb true_keywords k && ltb k print_keyword) q.true_arcs (k - true_keywords) v.arcs

-- a page without a fault has a query that is not refused
record SoundPage (p : Page) : Type 0 where
  nine : length p.query.arcs ≡ 9
  seven : length p.query.true_arcs ≡ 7
  accepted : p.fault ≡ None → Accepted p.query

with-fault-sound : (p : Page) (f : Fault) → SoundPage p → SoundPage (with_fault p f)
with-fault-sound p f s = record { nine = s.nine; seven = s.seven; accepted = λ e. absurd (no-fault _ e) }

new-sound : (p : Page) (n k : ℕ) (v : Result Values Refusal) → SoundPage p → SoundLine (Condition k v) → SoundPage (with_new p n k v)
new-sound p n k (Ok v) s sound =
    record {
      nine = nine-kept p.query k v ∙ s.nine;
      seven = seven-kept p.query k v ∙ s.seven;
      accepted = λ e. together p.query k v s.nine s.seven (s.accepted e) (accepted-parts _ sound);
    }
new-sound p n k (Err r) s sound =
    record { nine = s.nine; seven = s.seven; accepted = λ e. absurd (no-fault _ e) }

line-sound : (p : Page) (n : ℕ) (l : LineRead) → SoundPage p → SoundLine l → SoundPage (with_line p n l)
unfolding with_line with_keyword
line-sound p n Blank s sound = s
line-sound p n (Malformed why) s sound = with-fault-sound p _ s
line-sound p n (Condition k v) s sound =
    either SoundPage (get_or p.present k false) (with-fault-sound p _ s) (new-sound p n k v s sound)

lines-sound : (p : Page) (n : ℕ) (ls : List (List ℕ)) → SoundPage p → SoundPage (with_lines p n ls)
unfolding with_lines
lines-sound p n [] s = s
lines-sound p n (l ∷ []) s = either SoundPage (eqb (length l) 0) s (with-fault-sound p _ s)
lines-sound p n (l ∷ m ∷ ms) s = lines-sound (with_line p n (line_read l)) (suc n) (m ∷ ms) (line-sound p n (line_read l) s (line-read-sound l))

every-accepted : refusal_of every_day ≡ 0
unfolding refusal_of is_edition conditions_in_range elements_in_range numbers_in_range weekdays_in_range arcs_in_range true_arcs_in_range body_arcs_in_range arc_in_range
every-accepted = refl

empty-sound : SoundPage empty_page
empty-sound = record { nine = refl; seven = refl; accepted = λ _. accepted-parts every_day every-accepted }

-- the page that an answer comes from has no fault
pub answered : (p : Page) {r : PageRead} → page_answer p ≡ Ok r → p.fault ≡ None
unfolding page_answer
answered p {r} = go p.fault refl
  where
    go : (f : Option Fault) → p.fault ≡ f → answer_unless f (record { query = p.query; print = p.print }) ≡ Ok r → p.fault ≡ None
    go None e h = e
    go (Some f) e h = absurd cc

-- AN ACCEPTED PAGE has a query that is not refused
pub accepted-page : (text : List ℕ) {r : PageRead} → page_read text ≡ Ok r → refusal_of r.query ≡ 0
unfolding page_read page_answer
accepted-page text {r} h = go (with_lines empty_page 1 (lines_of text)) (lines-sound empty_page 1 (lines_of text) empty-sound) h
  where
    go : (p : Page) → SoundPage p → page_answer p ≡ Ok r → refusal_of r.query ≡ 0
    go p s h = IfOk-at_ok (λ (r : PageRead). refusal_of r.query ≡ 0) h (is p.fault refl)
      where
        is : (f : Option Fault) → p.fault ≡ f → IfOk (answer_unless f (record { query = p.query; print = p.print })) (λ (r : PageRead). refusal_of r.query ≡ 0)
        is None e = parts-accepted p.query (s.accepted e)
        is (Some f) e = tt {0}

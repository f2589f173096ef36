-- `keyword_of` meets its contract: the bodies' names stand behind the others, then `karana`, the true places' and
-- `print`.
-- Assumes nothing.
use mathlib.Core.List.{List, ◌++◌}
use mathlib.Core.Path.{◌≡◌, sym, ap, ◌∙◌}
use Prim.Native.Nat.{ℕ, ◌+◌, ◌≤◌}
use native.Mathlib.Omega.{arith}
use Rattle.words.specs.Names.{body_names, true_names}
use Rattle.words.specs.Words.{pieces, is_separator, in_front, place_in}
use Rattle.words.proofs.Places.{place-most, place-before, place-behind}
use Rattle.page.specs.Names.{condition_names, karana_name, print_name, keywords}
use Rattle.page.proofs.keyword_of.Goals as goal
use Rattle.page.proofs.keyword_of.Goals.{After-place_in, After-place_in-element, After-place_in-place, After-true_place-of_place}

-- a word that is none of the first names, one that is no body's either, and one that is not `karana`
behind : (w : List ℕ) → 6 ≤ place_in condition_names w → 6 + place_in (body_names ++ (karana_name ++ (true_names ++ print_name))) w ≡ place_in keywords w
behind w h = place-behind condition_names (body_names ++ (karana_name ++ (true_names ++ print_name))) w h

later : (w : List ℕ) → 6 ≤ place_in condition_names w → 9 ≤ place_in body_names w → 15 + place_in (karana_name ++ (true_names ++ print_name)) w ≡ place_in keywords w
later w h k = omega (arith, behind w h, place-behind body_names (karana_name ++ (true_names ++ print_name)) w k)

last : (w : List ℕ) → 6 ≤ place_in condition_names w → 9 ≤ place_in body_names w → 1 ≤ place_in karana_name w → 16 + place_in (true_names ++ print_name) w ≡ place_in keywords w
last w h k m = omega (arith, later w h k, place-behind karana_name (true_names ++ print_name) w m)

first_found : (c : After-place_in-place) → c.place_in-place.result ≡ place_in condition_names c.args.word.now
unfolding pieces is_separator in_front
first_found c = c.place_in-place.ensures

karana-found : (c : After-place_in-element) → c.place_in-element.result ≡ place_in karana_name c.args.word.now
unfolding pieces is_separator in_front
karana-found c = c.place_in-element.ensures

-- a word that is none before the true places
places-last : (c : After-true_place-of_place) → 16 + place_in (true_names ++ print_name) c.args.word.now ≡ place_in keywords c.args.word.now
unfolding pieces is_separator in_front
places-last c =
    last _ (omega (arith, (c.place_in-place.ensures))) (omega (arith, c.body_place-of_body.ensures)) (omega (arith, (c.place_in-element.ensures)))

print-found : (c : After-place_in) → c.place_in.result ≡ place_in print_name c.args.word.now
unfolding pieces is_separator in_front
print-found c = c.place_in.ensures

pub returns-then-place-lt-ARCS : goal.returns-then-place-lt-ARCS
returns-then-place-lt-ARCS c =
    let e = first_found (goal.at.returns-then-place-lt-ARCS c).After-place_in-place in
    e ∙ place-before condition_names (body_names ++ (karana_name ++ (true_names ++ print_name))) c.args.word.now (omega (arith, e))

pub overflow_add-of_body : goal.overflow_add-of_body
overflow_add-of_body c = omega (arith, c.body_place-of_body.ensures, place-most body_names c.args.word.now)

pub returns-then-of_body-lt-KARANA : goal.returns-then-of_body-lt-KARANA
returns-then-of_body-lt-KARANA c =
    let w = c.args.word.now in
    let e = c.body_place-of_body.ensures in
    ap (λ (n : ℕ). 6 + n) (e ∙ place-before body_names (karana_name ++ (true_names ++ print_name)) w (omega (arith, e)))
    ∙ behind w (omega (arith, first_found (goal.at.returns-then-of_body-lt-KARANA c).After-place_in-place))

pub returns-then-element-eq0 : goal.returns-then-element-eq0
returns-then-element-eq0 c =
    let w = c.args.word.now in
    let e = karana-found (goal.at.returns-then-element-eq0 c).After-place_in-element in
    ap (λ (n : ℕ). 15 + n) (sym c.if-element-eq0.true ∙ e ∙ place-before karana_name (true_names ++ print_name) w (omega (arith, e)))
    ∙ later w (omega (arith, first_found (goal.at.returns-then-element-eq0 c).After-place_in-place)) (omega (arith, c.body_place-of_body.ensures))

pub overflow_add-of_place : goal.overflow_add-of_place
overflow_add-of_place c = omega (arith, c.true_place-of_place.ensures, place-most true_names c.args.word.now)

pub returns-then-of_place-lt-PRINT : goal.returns-then-of_place-lt-PRINT
returns-then-of_place-lt-PRINT c =
    let w = c.args.word.now in
    let e = c.true_place-of_place.ensures in
    ap (λ (n : ℕ). 16 + n) (e ∙ place-before true_names print_name w (omega (arith, e))) ∙ places-last (goal.at.returns-then-of_place-lt-PRINT c).After-true_place-of_place

pub overflow_add-result : goal.overflow_add-result
overflow_add-result c = omega (arith, print-found (goal.at.overflow_add-result c).After-place_in, place-most print_name c.args.word.now)

pub returns : goal.returns
returns c =
    let w = c.args.word.now in
    omega (arith, print-found (goal.at.returns c).After-place_in, place-behind true_names print_name w (omega (arith, c.true_place-of_place.ensures)), places-last (goal.at.returns c).After-true_place-of_place)

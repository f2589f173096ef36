-- How the test of a condition comes out: one that is not given holds, and of one that is given the value found decides.
-- Assumes nothing.
use Prim.Native.Nat.{ℕ, ◌≤◌}
use mathlib.Core.Path.{◌≡◌, sym, ◌∙◌}
use mathlib.Core.Bool.{Bool, true, false, ◌&&◌}
use lib.Dec.{leb}
use Rattle.std.specs.Prelude.{Some}
use borrow.Author.Tests.{le-leb}
use Rattle.days.specs.Days.{last_day, weekday_on}
use Rattle.query.specs.declared.Asked.{Asked}
use Rattle.query.specs.declared.Weekdays.{Weekdays}
use Rattle.query.specs.declared.BodyArcs.{BodyArcs}
use Rattle.query.specs.Conditions.{has_number, meets, weekday_met, arcs_given, given_arcs, in_some, in_arcs}
use Rattle.reasons.specs.Parts.{TestedFor}

-- a value found that the test decides
pub met : {holds h : Bool} → h ≡ holds → h ≡ true → holds ≡ true
met e t = sym e ∙ t

pub unmet : {holds h : Bool} {value x : ℕ} → h ≡ holds → h ≡ false → x ≡ value → TestedFor holds value (Some x)
unmet e t f = (sym e ∙ t, f)

-- the weekday of day n
pub weekday-tested : (asked : Weekdays) (n : ℕ) {b : Bool} → n ≤ last_day → b ≡ (leb n last_day && weekday_met asked (weekday_on n)) → b ≡ weekday_met asked (weekday_on n)
weekday-tested asked n h e = e ∙ rw (le-leb n last_day h)

pub number-tested : (asked : Asked) (value : ℕ) {b : Bool} → asked.given ≡ true → b ≡ has_number asked.set value → b ≡ meets asked value
unfolding meets
number-tested asked value g e = e ∙ rw g

pub arcs-tested : (asked : BodyArcs) (value : ℕ) {b : Bool} → arcs_given asked ≡ true → b ≡ in_some (given_arcs asked) value → b ≡ in_arcs asked value
unfolding in_arcs
arcs-tested asked value g e = e ∙ rw g

pub no_number : (asked : Asked) (value : ℕ) → asked.given ≡ false → meets asked value ≡ true
unfolding meets
no_number asked value g = rw g

pub no-arcs : (asked : BodyArcs) (value : ℕ) → arcs_given asked ≡ false → in_arcs asked value ≡ true
unfolding in_arcs
no-arcs asked value g = rw g

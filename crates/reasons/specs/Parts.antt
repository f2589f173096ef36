-- What only contracts of private functions speak of.
-- Assumes nothing.
use Rattle.std.specs.Prelude.{Bool, true, false, Option, Some, None, ◌≡◌, ℕ}
use Rattle.days.specs.declared.Day.{Day}
use Rattle.panchanga.specs.OnDays.{tithi_at, nakshatra_at, yoga_at, karana_at}
use Rattle.reasons.specs.declared.Element.{Element}
use Rattle.reasons.specs.declared.Element.TheVariants as element

-- a condition that was tested: it holds, or it does not and this is the value found
abbrev pub TestedFor : Bool → ℕ → Option ℕ → Type 0
TestedFor holds value None = holds ≡ true
TestedFor holds value (Some found) = (holds ≡ false) × (found ≡ value)

-- the number of a day's element, in an edition
unfoldable pub element_at : Element → ℕ → Day → ℕ
element_at element.Tithi e d = tithi_at e d
element_at element.Nakshatra e d = nakshatra_at e d
element_at element.Yoga e d = yoga_at e d
element_at element.Karana e d = karana_at e d

-- What the library hands back one by one of a day in an edition, by a number.
-- Assumes nothing.
use Rattle.std.specs.Prelude.{[], ◌∷◌, ℕ, get_or, Result, Err}
use Rattle.days.specs.declared.Day.{Day}
use Rattle.days.specs.declared.refusal.Refusal.{Refusal}
use Rattle.days.specs.declared.refusal.Refusal.TheVariants.{NoSuchBody}
use Rattle.panchanga.specs.OnDays.{tithi_of, nakshatra_of, yoga_of, karana_of}

-- the tithi, the nakshatra, the yoga and the karana; a number above 3 is refused, in any edition and on any day
unfoldable pub element_from : ℕ → ℕ → Day → Result ℕ Refusal
element_from n ed d = get_or (tithi_of ed d ∷ nakshatra_of ed d ∷ yoga_of ed d ∷ karana_of ed d ∷ []) n (Err NoSuchBody)

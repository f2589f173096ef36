-- The bodies of which a true longitude may be asked for: their numbers, and what is handed back.
-- Assumes nothing.
use Rattle.std.specs.Prelude.{ℕ, Result}
use Rattle.days.specs.declared.Day.{Day}
use Rattle.days.specs.declared.refusal.Refusal.{Refusal}
use Rattle.panchanga.specs.OnDays.{in_edition}
use Rattle.query.specs.declared.TrueBody.{TrueBody}
use Rattle.query.specs.declared.TrueBody.TheVariants as body
use Rattle.query.specs.Conditions.{true_longitude_at}

-- a body's place among the seven
abbrev pub true_number : TrueBody → ℕ
true_number body.Sun = 0
true_number body.Moon = 1
true_number body.Mars = 2
true_number body.Mercury = 3
true_number body.Jupiter = 4
true_number body.Venus = 5
true_number body.Saturn = 6

-- refusal 14 for another edition, then 2
unfoldable pub true_longitude_of : ℕ → TrueBody → Day → Result ℕ Refusal
true_longitude_of edition b d = in_edition (λ (e : ℕ) (d : Day). true_longitude_at e (true_number b) d) edition d

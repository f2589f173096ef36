-- Orders for the arms: what an order does to an arm, which order places or follows a body, and the numbers of each
-- case.
-- Assumes nothing.
use Rattle.std.specs.Prelude.{false, cond, ℕ, ◌+◌, ◌-◌, leb, ltb, eqb, pos, Float, Result, Ok, Err}
use Rattle.std.specs.Float.{fin}
use Rattle.days.specs.Days.{last_day, pair_at}
use Rattle.days.specs.declared.refusal.Refusal.{Refusal}
use Rattle.days.specs.declared.refusal.Refusal.TheVariants.{BadInput}
use Rattle.days.specs.Refusals.{accepted, out_of_range, no_such_body, refusal_number}
use Rattle.longitudes.specs.Longitudes.{longitude_at}
use Rattle.panchanga.specs.TrueLongitudes.{first_edition}
use Rattle.panchanga.specs.OnDays.{true_sun_at, true_moon_at}
use Rattle.planets.specs.OnDays.{true_planet_at}
use Rattle.arms.specs.declared.Arm.{Arm}
use Rattle.arms.specs.declared.Order.{Order}
use Rattle.arms.specs.declared.Order.TheVariants.{Hold, Go, Run}
use Rattle.arms.specs.Degrees.{degrees_of, short_way}

-- 0 degrees, the positive zero
abbrev pub no_degrees : Float
no_degrees = fin false 0 (pos 0)

-- holding leaves the angle and makes the rate 0; going sets the angle and makes the rate 0; running sets the rate alone
unfoldable pub carried_out : Arm → Order → Arm
carried_out arm Hold = record { angle = arm.angle; rate = no_degrees }
carried_out arm (Go angle) = record { angle = angle; rate = no_degrees }
carried_out arm (Run rate) = record { angle = arm.angle; rate = rate }

-- the number of each case, and its value
unfoldable pub order_number : Order → ℕ
order_number Hold = 0
order_number (Go angle) = 1
order_number (Run rate) = 2

unfoldable pub order_value : Order → Float
order_value Hold = no_degrees
order_value (Go angle) = angle
order_value (Run rate) = rate

-- the arm after the order with a number and a value; an order above 2 is refused
unfoldable pub carried_out_numbered : Arm → ℕ → Float → Result Arm Refusal
carried_out_numbered arm number value =
    cond (eqb number 0) (Ok (carried_out arm Hold))
    (cond (eqb number 1) (Ok (carried_out arm (Go value)))
    (cond (eqb number 2) (Ok (carried_out arm (Run value)))
    (Err BadInput)))

-- an answer in numbers: the refusal or 0, and the order's two
pub record AnswerNumbers : Type 0 where
  pub refusal : ℕ
  pub order : ℕ
  pub value : Float

-- what is refused is told as an order to hold
abbrev pub answer_numbers : Result Order Refusal → AnswerNumbers
answer_numbers (Ok order) = record { refusal = accepted; order = order_number order; value = order_value order }
answer_numbers (Err r) = record { refusal = refusal_number r; order = 0; value = no_degrees }

-- 2 for the day, then 16 for a body above 8, or 0
unfoldable pub order_refusal : ℕ → ℕ → ℕ
order_refusal day body = cond (leb day last_day) (cond (leb body 8) accepted no_such_body) out_of_range

-- where a body stands on a day, both by their numbers: whole seconds, below a circle
abbrev pub Longitude : Type 0
Longitude = ℕ → ℕ → ℕ

-- THE MEAN ONE, of Mercury and Venus the anomaly
abbrev pub seconds_on : Longitude
seconds_on day body = longitude_at body (pair_at day)

-- THE TRUE ONE: 0 the Sun's, 1 the Moon's of the first edition, 4 to 8 the planets'; of 2 and 3, the Moon's apogee and
-- node, there is the mean one alone
unfoldable pub true_seconds_on : Longitude
true_seconds_on day body =
    cond (eqb body 0) (true_sun_at (pair_at day))
    (cond (eqb body 1) (true_moon_at first_edition (pair_at day))
    (cond (ltb body 4) (seconds_on day body)
    (true_planet_at (body - 4) (pair_at day))))

-- what follows is of any of them
abbrev pub angle_on : Longitude → ℕ → ℕ → Float
angle_on at day body = degrees_of (pos (at day body))

-- the short way to the next day's seconds
abbrev pub rate_on : Longitude → ℕ → ℕ → Float
rate_on at day body = degrees_of (short_way (at day body) (at (day + 1) body))

abbrev pub held : ℕ → AnswerNumbers
held refusal = record { refusal = refusal; order = 0; value = no_degrees }

-- TO PLACE a body on a day is to go to its angle; where that is refused, to hold
unfoldable pub place_of : Longitude → ℕ → ℕ → AnswerNumbers
place_of at day body =
    cond (eqb (order_refusal day body) accepted)
    (record { refusal = accepted; order = 1; value = angle_on at day body })
    (held (order_refusal day body))

-- TO FOLLOW it is to run at its rate, and on the last day to hold; where that is refused, to hold
unfoldable pub follow_of : Longitude → ℕ → ℕ → AnswerNumbers
follow_of at day body =
    cond (eqb (order_refusal day body) accepted)
    (cond (ltb day last_day) (record { refusal = accepted; order = 2; value = rate_on at day body }) (held accepted))
    (held (order_refusal day body))

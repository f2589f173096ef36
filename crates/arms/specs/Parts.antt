-- What only contracts of private functions speak of: whether an order is refused, a body's whole seconds by its steps,
-- and the short way of a way forwards.
-- Assumes nothing.
use Rattle.std.specs.Prelude.{cond, ◌≡◌, ℕ, ◌+◌, ◌*◌, ◌-◌, ◌/◌, ◌%◌, ◌≤◌, ◌<◌, leb, ltb, Result, Ok, Err, ℤ, pos, ◌-ℤ◌}
use Rattle.days.specs.declared.refusal.Refusal.{Refusal}
use Rattle.days.specs.declared.refusal.Refusal.TheVariants.{OutOfRange, NoSuchBody}
use Rattle.days.specs.Days.{cycle_days, last_day}
use Rattle.integers.specs.RoundedUp.{rounded_up}
use Rattle.longitudes.specs.Longitudes.{circle}
use Rattle.longitudes.specs.declared.Motion.{Motion}
use Rattle.arms.specs.declared.Steps.{Steps}
use Rattle.arms.specs.Degrees.{half}
use Rattle.arms.specs.Orders.{seconds_on}

-- the body's number: refused for the day, then for the body
unfoldable pub body_on : ℕ → ℕ → Result ℕ Refusal
body_on day number = cond (leb day last_day) (cond (leb number 8) (Ok number) (Err NoSuchBody)) (Err OutOfRange)

-- a second has so many parts
abbrev pub parts : ℕ
parts = 8388608

-- what is reckoned of a row fits
pub record Reckonable (row : Motion) : Type 0 where
  pub amount : row.d ≤ circle
  pub divisor : 0 < row.q
  pub motion : row.p < 100000000

-- a body's longitude at the epoch, what a cycle adds, and its motion a day in parts, rounded up
unfoldable pub steps_of : Motion → Steps
steps_of row = record { epoch = row.k; cycle = circle - row.d; day = rounded_up (row.p * parts) row.q }

-- the whole seconds on day n
unfoldable pub seconds_by : Steps → ℕ → ℕ
seconds_by s n = (s.epoch + n / cycle_days * s.cycle + n % cycle_days * s.day / parts) % circle

-- steps so small that what is reckoned fits, and that a day moves less than a circle
pub record Small (s : Steps) : Type 0 where
  pub epoch : s.epoch < circle
  pub cycle : s.cycle ≤ circle
  pub day : s.day ≤ 10870797107200

-- the seconds by these steps are those of the body with the number b
pub record StepsFor (b : ℕ) (s : Steps) : Type 0 where
  pub seconds : (n : ℕ) → n ≤ last_day → seconds_by s n ≡ seconds_on n b
  pub small : Small s

-- a way forwards, or what it is less than a circle, backwards
unfoldable pub signed_way : ℕ → ℤ
signed_way x = cond (ltb x half) (pos x) (pos x -ℤ pos circle)

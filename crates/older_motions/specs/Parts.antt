-- What only contracts of private functions speak of: the motion that a row of the code says, the sizes that it keeps
-- to, and what is kept on the way through a span.
-- Assumes nothing.
use Rattle.std.specs.Prelude.{◌≡◌, ℕ, ◌+◌, ◌%◌, ◌≤◌, ◌<◌, pos}
use Rattle.days.specs.Days.{cycle_days}
use Rattle.longitudes.specs.Longitudes.{circle}
use Rattle.older_motions.specs.declared.CodedMotion.{CodedMotion}
use Rattle.older_motions.specs.declared.Scan.{Scan}
use Rattle.older_motions.specs.OlderMotions.{OlderMotion, whole_circle, ahead_on}

-- the motion that a row of the code says
abbrev pub motion_of : CodedMotion → OlderMotion
motion_of c = record { row = record { K = c.mean.k; D = c.mean.d; p = pos c.mean.p; q = c.mean.q }; circles = c.circles; days = c.days }

-- what the three keep to, so that all that is reckoned of them fits 64 bits
pub record Sizes (c : CodedMotion) : Type 0 where
  pub amount : c.mean.d ≤ circle
  pub motion : c.mean.p < 10000000
  pub parts : c.mean.q < 2000
  pub divisor : 0 < c.mean.q
  pub span : 0 < c.days
  pub turns : c.circles < 100000000
  pub whole : whole_circle (motion_of c) < 250000000000000000

-- what is kept of the day n on the way through a span
pub record Scans (m : OlderMotion) (s : Scan) (n : ℕ) : Type 0 where
  pub place : s.ahead ≡ ahead_on m n
  pub begins : s.turn % cycle_days ≡ 0
  pub later : n < s.turn
  pub soon : s.turn ≤ n + cycle_days

-- `weekday_of` meets its contract: of n = 7 k + w the product is k circles of 2 ^ 32, and 3 k + 613566757 w, which is w
-- eighths of 2 ^ 32 and less than one more.
use native.Mathlib.Omega.{arith}
use Prim.Native.Nat.{ℕ, ◌+◌, ◌*◌, ◌%◌, ◌/◌, ◌≤◌}
use mathlib.Core.Path.{◌≡◌}
use lib.Arith.{digits_div, digits_mod}
use Rattle.days.specs.Days.{last_day, weekday_on}
use Rattle.query.proofs.weekday_of.Goals as goal

pub returns : goal.returns
returns c =
    eighths _ c.requires
  where
    eighths : (n : ℕ) → n ≤ last_day → n * 613566757 % 4294967296 / 536870912 ≡ weekday_on n
    eighths n h =
        let k = n / 7 in
        let w = n % 7 in
        let whole : n * 613566757 ≡ k * 4294967296 + (w * 536870912 + (3 * k + 76695845 * w)) = omega arith in
        rw (whole, digits_mod k {m = 4294967296} {r = w * 536870912 + (3 * k + 76695845 * w)} (omega arith))
        (digits_div w {m = 536870912} {r = 3 * k + 76695845 * w} (omega arith))

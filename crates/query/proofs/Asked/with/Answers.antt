-- `Asked::with` meets its contract: a number that the set has adds nothing; else its bit is added, for which there is
-- room.
use mathlib.Core.Bool.{false}
use mathlib.Core.Path.{◌≡◌, sym, ◌∙◌}
use native.Mathlib.Omega.{arith}
use Rattle.query.specs.Conditions.{has_number, with_number}
use Rattle.query.proofs.Numbers.{bit-fits, more-fits}
use Rattle.query.proofs.Asked.with.Goals as goal
use Rattle.query.proofs.Asked.with.Goals.{Else-has}

missing : (c : Else-has) → has_number c.args.self.set c.args.number ≡ false
missing c = sym c.has.ensures ∙ c.if-has.false

pub returns-then-has : goal.returns-then-has
unfolding with_number
returns-then-has c = rw (sym c.has.ensures ∙ c.if-has.true)

pub overflow_shl-bit : goal.overflow_shl-bit
overflow_shl-bit c = omega (arith, c.place_of-bit.ensures)

pub overflow_add-set : goal.overflow_add-set
overflow_add-set c =
    let a = c.args in
    omega (arith, more-fits a.self.set a.number (omega arith) (missing (goal.at.overflow_add-set c).Else-has), bit-fits a.number _ c.place_of-bit.ensures)

pub returns : goal.returns
unfolding with_number
returns c = rw (missing (goal.at.returns c).Else-has, bit-fits _ _ c.place_of-bit.ensures)

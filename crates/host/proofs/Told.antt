-- The refusal that is told of an order is the answer's, by cases. Assumes nothing.
use mathlib.Core.Path.{◌≡◌, refl}
use Rattle.std.specs.Prelude.{Result, Ok, Err}
use Rattle.days.specs.declared.refusal.Refusal.{Refusal}
use Rattle.days.specs.Refusals.{result_number}
use Rattle.arms.specs.declared.Order.{Order}
use Rattle.arms.specs.Orders.{answer_numbers}

pub refusal-told : (a : Result Order Refusal) → result_number a ≡ (answer_numbers a).refusal
unfolding result_number
refusal-told (Ok order) = refl
refusal-told (Err r) = refl

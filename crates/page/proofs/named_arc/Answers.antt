-- `named_arc` meets its contract; a sign's number is below 12. Assumes nothing.
use Rattle.days.specs.Refusals.{number_or_zero}
use Rattle.names.specs.declared.Kind.TheVariants.{Sign}
use Rattle.names.proofs.Laws.{number-few}
use Rattle.page.proofs.named_arc.Goals as goal

pub sign_arc-requires : goal.sign_arc-requires
unfolding number_or_zero
sign_arc-requires c = rw (← c.number_of.ensures, c.in-Ok.is) at (number-few Sign c.first_word-first.result.now)

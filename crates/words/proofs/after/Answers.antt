-- `after` meets its contract: a slice without a separator has nothing after it. Assumes nothing.
use Prim.Native.Nat.{◌+◌}
use mathlib.Core.Path.{◌∙◌}
use mathlib.Core.Bool.{false}
use native.Mathlib.Omega.{arith}
use native.Mathlib.Numerals.{add-one}
use Rattle.text.proofs.Lending.{lent-rest}
use Rattle.words.specs.Words.{after_first}
use Rattle.words.proofs.Runs.{separator-within, nothing-after}
use Rattle.words.proofs.after.Goals as goal

pub returns-then-end-s : goal.returns-then-end-s
returns-then-end-s c = lent-rest c.args.s.now c.run_length-end.result ∙ nothing-after c.args.separator _ _ c.run_length-end.ensures c.if-end-s.true

pub overflow_add-next : goal.overflow_add-next
overflow_add-next c = omega (arith, separator-within false _ _ _ c.run_length-end.ensures c.if-end-s.false)

pub slice_bounds-result-count-2 : goal.slice_bounds-result-count-2
slice_bounds-result-count-2 c = separator-within false _ _ _ c.run_length-end.ensures c.if-end-s.false

pub slice_bounds-result-start-2 : goal.slice_bounds-result-start-2
slice_bounds-result-start-2 c = separator-within false _ _ _ c.run_length-end.ensures c.if-end-s.false

pub returns : goal.returns
unfolding after_first
returns c = lent-rest c.args.s.now (c.run_length-end.result + 1) ∙ rw (c.run_length-end.ensures, add-one)

-- `is_name` meets its contract: `Comparing` holds before each byte. Assumes nothing.
use mathlib.Core.Path.{sym, ◌∙◌}
use native.Mathlib.Omega.{arith}
use Rattle.words.proofs.Letters.{comparing-start, comparing-next, comparing-differs, comparing-end, other_length}
use Rattle.words.proofs.is_name.Goals as goal

pub returns-then-name-word : goal.returns-then-name-word
returns-then-name-word c = other_length _ _ c.if-name-word.true

pub loop-i-init : goal.loop-i-init
loop-i-init c = comparing-start _ _ c.if-name-word.false

pub bounds-word-i : goal.bounds-word-i
bounds-word-i c = omega (arith, c.loop-i.invariant.long)

pub returns-then-name-i : goal.returns-then-name-i
returns-then-name-i c = comparing-differs _ _ _ _ c.loop-i.invariant c.loop-i-test.true (λ same. c.if-name-i.true (same ∙ sym c.small_byte.ensures))

pub loop-i-preserved : goal.loop-i-preserved
loop-i-preserved c = comparing-next _ _ _ _ c.loop-i.invariant c.loop-i-test.true (c.if-name-i.false ∙ c.small_byte.ensures)

pub returns : goal.returns
returns c = comparing-end _ _ _ _ c.loop-i.invariant c.loop-i-test.false

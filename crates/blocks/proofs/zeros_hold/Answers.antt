-- `zeros_hold` meets its contract. The loop's invariant: the bytes passed are zero.
use mathlib.Core.Path.{◌≡◌, refl, sym, ap, ◌∙◌}
use mathlib.Core.List.{List, [], ◌∷◌}
use mathlib.Core.Bool.{◌&&◌}
use Prim.Native.Nat.{ℕ, ◌-◌}
use lib.Dec.{eqb}
use lib.ListN.{take, drop}
use borrow.Author.Tests.{eq-eqb, ne_eqb}
use Rattle.std.proofs.lemmas.List.{take_all}
use Rattle.std.proofs.lemmas.List.Folds.{list_all_more, list_all_at}
use Rattle.std.specs.List.{list_all}
use Rattle.blocks.specs.Blocks.{all_zero}
use Rattle.blocks.proofs.zeros_hold.Goals as goal

zeros : (xs : List ℕ) → all_zero xs ≡ list_all (λ (b : ℕ). eqb b 0) xs
unfolding all_zero
zeros [] = refl
zeros (x ∷ xs) = ap (λ r. eqb x 0 && r) (zeros xs)

pub loop-byte-init : goal.loop-byte-init
loop-byte-init c = refl

pub returns-then-byte-ne0 : goal.returns-then-byte-ne0
returns-then-byte-ne0 c =
    let xs = take (508 - c.args.from) (drop c.args.from c.args.block.now) in
    sym (zeros xs ∙ list_all_at (λ (b : ℕ). eqb b 0) xs c.loop-byte.byte-index 0 c.loop-byte-test.true (ne_eqb _ _ c.if-byte-ne0.true))

pub loop-byte-preserved : goal.loop-byte-preserved
loop-byte-preserved c =
    let xs = take (508 - c.args.from) (drop c.args.from c.args.block.now) in
    list_all_more (λ (b : ℕ). eqb b 0) xs c.loop-byte.byte-index 0 c.loop-byte-test.true ∙ rw (c.loop-byte.invariant, eq-eqb _ _ c.if-byte-ne0.false) refl

pub returns : goal.returns
returns c =
    let xs = take (508 - c.args.from) (drop c.args.from c.args.block.now) in
    sym (zeros xs ∙ ap (list_all (λ (b : ℕ). eqb b 0)) (sym (take_all c.loop-byte.byte-index xs c.loop-byte-test.false)) ∙ c.loop-byte.invariant)

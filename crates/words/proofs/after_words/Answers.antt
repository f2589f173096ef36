-- `after_words` meets its contract. The loop's invariant: what follows the words that are left is what is due. Assumes
-- nothing.
use Rattle.std.proofs.Common.{◌≡◌, refl, ap, ◌∙◌, ℕ, zero, suc, ◌+◌, ◌-◌, ◌≤◌, ◌<◌, List, arith}
use Rattle.words.specs.Words.{after_word, after_words}
use Rattle.words.proofs.after_words.Goals as goal

one_less : (n : ℕ) (bs : List ℕ) → 0 < n → after_words (n - 1) (after_word bs) ≡ after_words n bs
unfolding after_words
one_less zero bs h = absurd (omega arith)
one_less (suc n) bs h = let same : suc n - 1 ≡ n = omega arith in ap (λ (k : ℕ). after_words k (after_word bs)) same

none_left : (n : ℕ) (bs : List ℕ) → n ≤ 0 → bs ≡ after_words n bs
unfolding after_words
none_left zero bs h = refl
none_left (suc n) bs h = absurd (omega arith)

pub loop-preserved : goal.loop-preserved
loop-preserved c =
    let less : c.args.count - (c.loop.counter + 1) ≡ c.args.count - c.loop.counter - 1 = omega arith in
    rw (less, c.after_word-rest.ensures) (one_less (c.args.count - c.loop.counter) _ (omega arith) ∙ c.loop.invariant)

pub returns : goal.returns
returns c = none_left (c.args.count - c.loop.counter) _ (omega arith) ∙ c.loop.invariant

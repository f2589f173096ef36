-- What each turn of the loop keeps.
use Rattle.std.proofs.Common.{◌≡◌, ◌-◌}
use Rattle.words.specs.Words.{after_words}
use Rattle.words.proofs.after_words.Given as goal

abbrev pub invariant-loop : goal.invariant-loop
invariant-loop l = after_words (l.count - l.counter) l.rest ≡ after_words l.count l.s

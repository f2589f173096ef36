-- Two angles at the front of a text are its arc, of two words: the definition's own case. Assumes nothing.
use mathlib.Core.Path.{◌≡◌}
use mathlib.Core.List.{List}
use Prim.Native.Nat.{ℕ}
use Rattle.std.specs.Prelude.{Some}
use Rattle.query.specs.declared.Arc.{Arc}
use Rattle.words.specs.Words.{first_word, after_word}
use Rattle.page.specs.Page.{arc_read, arc_in, arc_words}

module _ (t : List ℕ) {a : Arc} (e : arc_read (first_word t) (first_word (after_word t)) ≡ Some a) where
  pub arc-two : Some a ≡ arc_in t
  unfolding arc_in
  arc-two = rw e

  pub words-two : 2 ≡ arc_words t
  unfolding arc_words
  words-two = rw e

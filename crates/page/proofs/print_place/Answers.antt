-- `print_place` meets its contract: the words that `print` takes are one constant, which falls into its two names.
-- Assumes nothing.
use mathlib.Core.Path.{◌≡◌}
use borrow.Author.Tests.{lt-ltb, le-ltb}
use Rattle.words.specs.Words.{pieces, is_separator, in_front, place_in}
use Rattle.page.specs.Names.{print_names}
use Rattle.page.specs.Page.{print_read}
use Rattle.page.proofs.print_place.Goals as goal
use Rattle.page.proofs.print_place.Goals.{After-place_in-place}

found : (c : After-place_in-place) → c.place_in-place.result ≡ place_in print_names c.args.word.now
unfolding pieces is_separator in_front
found c = c.place_in-place.ensures

pub returns-then-place-ge2 : goal.returns-then-place-ge2
unfolding print_read
returns-then-place-ge2 c = rw (← found (goal.at.returns-then-place-ge2 c).After-place_in-place, le-ltb _ _ c.if-place-ge2.true)

pub returns : goal.returns
unfolding print_read
returns c = rw (← found (goal.at.returns c).After-place_in-place, lt-ltb _ _ c.if-place-ge2.false)

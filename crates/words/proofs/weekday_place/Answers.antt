-- `weekday_place` meets its contract: the names are the constant's pieces. Assumes nothing.
use Rattle.words.specs.Words.{is_separator, in_front, pieces}
use Rattle.words.proofs.weekday_place.Goals as goal

pub returns : goal.returns
unfolding pieces is_separator in_front
returns c = c.place_in.ensures

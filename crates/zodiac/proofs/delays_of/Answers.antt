-- `delays_of` meets its contract: by the Sun that is meant; the table is the one that is meant.
use Rattle.zodiac.specs.Passed.{delays}
use Rattle.zodiac.proofs.delays_of.Goals as goal

pub returns-in-Mean : goal.returns-in-Mean
unfolding delays
returns-in-Mean c = rw c.in-Mean.is

pub returns-in-True : goal.returns-in-True
unfolding delays
returns-in-True c = rw c.in-True.is

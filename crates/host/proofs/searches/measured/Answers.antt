-- `measured` meets its contract: the library's promise at the host's query.
use Rattle.host.proofs.searches.measured.Goals as goal

pub returns : goal.returns
returns c = rw c.query_of.ensures at c.measure.ensures

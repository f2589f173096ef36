-- `query_of` meets its contract: the query, written out.
use Rattle.host.specs.HostQuery.{host_query}
use Rattle.host.proofs.searches.query_of.Goals as goal

pub returns : goal.returns
unfolding host_query
returns c = rw (c.only-sun.ensures, c.only-weekdays.ensures)

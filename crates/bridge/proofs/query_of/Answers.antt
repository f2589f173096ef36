-- `query_of` meets its contract: part by part.
use Rattle.bridge.specs.Bytes.{arcs_from, true_arcs_from, query_from}
use Rattle.bridge.proofs.query_of.Goals as goal

pub returns : goal.returns
unfolding arcs_from true_arcs_from query_from
returns c = cc

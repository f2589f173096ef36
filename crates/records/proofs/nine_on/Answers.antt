-- `nine_on` meets its contract: the bodies stand in the table's order.
-- Assumes nothing.
use Rattle.longitudes.specs.Longitudes.{table, longitude_at, longitudes_at}
use Rattle.records.proofs.nine_on.Goals as goal

pub returns : goal.returns
unfolding longitudes_at longitude_at table
returns c =
    rw (c.mean_on.ensures, c.mean_on-2.ensures, c.mean_on-3.ensures, c.mean_on-4.ensures, c.mean_on-5.ensures, c.mean_on-6.ensures, c.mean_on-7.ensures, c.mean_on-8.ensures, c.mean_on-9.ensures)

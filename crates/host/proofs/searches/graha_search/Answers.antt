-- `graha_search` meets its contract: the library's promise at the host's query, by its number.
use mathlib.Core.Path.{ap, ◌∙◌}
use Rattle.search.specs.Search.{search_number}
use Rattle.search.proofs.Told.{searched-number}
use Rattle.host.specs.HostQuery.{host_query}
use Rattle.host.proofs.searches.graha_search.Goals as goal

pub returns : goal.returns
unfolding host_query
returns c =
    let s = rw (c.only-sun.ensures, c.only-weekdays.ensures) at c.search.ensures in
    record { value = c.search_number.ensures ∙ ap search_number s.answer ∙ searched-number _ _; list_after = s.list }

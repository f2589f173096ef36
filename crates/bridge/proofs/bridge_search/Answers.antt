-- `bridge_search` meets its contract: the library's promise at the query of the bytes, by its number, or a refusal for
-- another length.
use mathlib.Core.Path.{ap, ◌∙◌}
use borrow.Author.Tests.{eq-eqb, ne_eqb}
use Rattle.search.specs.Search.{search_number}
use Rattle.search.proofs.Told.{searched-number}
use Rattle.bridge.specs.Answers.{bridge_result, bridge_list}
use Rattle.bridge.proofs.bridge_search.Goals as goal

pub returns-then-query-eq-QUERY_BYTES : goal.returns-then-query-eq-QUERY_BYTES
unfolding bridge_result bridge_list
returns-then-query-eq-QUERY_BYTES c =
    let s = rw c.query_of-asked.ensures at c.search.ensures in
    let e = eq-eqb _ _ c.if-query-eq-QUERY_BYTES.true in
    record { value = rw e (c.search_number.ensures ∙ ap search_number s.answer ∙ searched-number _ _); list_after = rw e s.list }

pub returns : goal.returns
unfolding bridge_result bridge_list
returns c =
    let e = ne_eqb _ _ c.if-query-eq-QUERY_BYTES.false in
    record { value = rw e c.number.ensures; list_after = rw e }

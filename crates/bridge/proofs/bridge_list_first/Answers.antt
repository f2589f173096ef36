-- `bridge_list_first` meets its contract: the library's promise at the query of the bytes, by its number, or a refusal
-- for another length.
use mathlib.Core.Path.{◌∙◌}
use borrow.Author.Tests.{eq-eqb, ne_eqb}
use Rattle.search.proofs.Answers.{measured-number}
use Rattle.bridge.specs.Answers.{bridge_refusal, bridge_first}
use Rattle.bridge.proofs.bridge_list_first.Goals as goal

pub returns-then-query-ne-QUERY_BYTES : goal.returns-then-query-ne-QUERY_BYTES
unfolding bridge_refusal bridge_first
returns-then-query-ne-QUERY_BYTES c =
    let e = ne_eqb _ _ c.if-query-ne-QUERY_BYTES.true in
    record { value = rw e c.number.ensures; list_after = rw e }

pub returns : goal.returns
unfolding bridge_refusal bridge_first
returns c =
    let s = rw c.query_of-asked.ensures at c.list_first.ensures in
    let e = eq-eqb _ _ c.if-query-ne-QUERY_BYTES.false in
    record { value = rw e (c.result_number.ensures ∙ measured-number s.measured); list_after = rw e s.list_after }

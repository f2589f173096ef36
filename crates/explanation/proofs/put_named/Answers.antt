-- `put_named` meets its contract: an element's condition is said by name, and all else as by number. Assumes nothing.
use Prim.Native.Nat.{◌≤◌}
use mathlib.Core.Path.{sym, ◌∙◌}
use lib.ListN.{length}
use Rattle.reasons.proofs.Accepted.{accepted-question}
use Rattle.reasons.proofs.Laws.{answered}
use Rattle.explanation.proofs.Elements.{unmet-said, other-alike, counted-room}
use borrow.Author.Rules.{rules}
use Rattle.explanation.proofs.put_named.Goals as goal

pub put_element-requires : goal.put_element-requires
put_element-requires c =
    let said = unmet-said c.args.day _ (sym c.element_for.ensures ∙ c.in-Some.is) in
    let size : 1024 ≤ length c.args.buffer.now = search rules in
    ((accepted-question _ _ (answered _ _ said.0)).day, size)

pub returns-in-Some : goal.returns-in-Some
returns-in-Some c =
    let said = unmet-said c.args.day _ (sym c.element_for.ensures ∙ c.in-Some.is) in
    let put = c.put_element.ensures in
    let day = (accepted-question _ _ (answered _ _ said.0)).day in
    rw said.1 (record { value = put.value; buffer_after = put.buffer_after; upper_bound = counted-room _ _ _ _ _ _ day put.value })

pub returns-in-None : goal.returns-in-None
returns-in-None c =
    rw (other-alike _ _ (sym c.element_for.ensures ∙ c.in-None.is))
    (rw c.line.ensures.whole at c.put_front.ensures)

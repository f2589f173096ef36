-- `other_arcs_met` meets its contract: the first arc that is not met decides, else the last.
use mathlib.Core.Path.{ap, ◌≡◌, sym, ◌∙◌}
use mathlib.Core.Bool.{Bool, true, not, false}
use lib.Dec.{lit<}
use borrow.Author.Tests.{not-false}
use Rattle.query.proofs.Conditions.{arc-not-met, last-arc-met}
use Rattle.query.proofs.other_arcs_met.Goals as goal

met : {b found : Bool} → found ≡ b → not found ≡ false → b ≡ true
met {b} {found} e n = sym e ∙ not-false found n

pub returns-then-not-in_arcs : goal.returns-then-not-in_arcs
returns-then-not-in_arcs c = arc-not-met _ _ 1 _ (lit< tt) (lit< tt) c.in_arcs.ensures (ap not c.if-not-in_arcs.true)

pub returns-then-not-in_arcs-2 : goal.returns-then-not-in_arcs-2
returns-then-not-in_arcs-2 c = arc-not-met _ _ 2 _ (lit< tt) (lit< tt) c.in_arcs-2.ensures (ap not c.if-not-in_arcs-2.true)

pub returns-then-not-in_arcs-3 : goal.returns-then-not-in_arcs-3
returns-then-not-in_arcs-3 c = arc-not-met _ _ 3 _ (lit< tt) (lit< tt) c.in_arcs-3.ensures (ap not c.if-not-in_arcs-3.true)

pub returns-then-not-in_arcs-4 : goal.returns-then-not-in_arcs-4
returns-then-not-in_arcs-4 c = arc-not-met _ _ 4 _ (lit< tt) (lit< tt) c.in_arcs-4.ensures (ap not c.if-not-in_arcs-4.true)

pub returns-then-not-in_arcs-5 : goal.returns-then-not-in_arcs-5
returns-then-not-in_arcs-5 c = arc-not-met _ _ 5 _ (lit< tt) (lit< tt) c.in_arcs-5.ensures (ap not c.if-not-in_arcs-5.true)

pub returns-then-not-in_arcs-6 : goal.returns-then-not-in_arcs-6
returns-then-not-in_arcs-6 c = arc-not-met _ _ 6 _ (lit< tt) (lit< tt) c.in_arcs-6.ensures (ap not c.if-not-in_arcs-6.true)

pub returns-then-not-in_arcs-7 : goal.returns-then-not-in_arcs-7
returns-then-not-in_arcs-7 c = arc-not-met _ _ 7 _ (lit< tt) (lit< tt) c.in_arcs-7.ensures (ap not c.if-not-in_arcs-7.true)

pub returns : goal.returns
returns c =
    last-arc-met _ _ _
    (met c.in_arcs.ensures (ap not c.if-not-in_arcs.false))
    (met c.in_arcs-2.ensures (ap not c.if-not-in_arcs-2.false))
    (met c.in_arcs-3.ensures (ap not c.if-not-in_arcs-3.false))
    (met c.in_arcs-4.ensures (ap not c.if-not-in_arcs-4.false))
    (met c.in_arcs-5.ensures (ap not c.if-not-in_arcs-5.false))
    (met c.in_arcs-6.ensures (ap not c.if-not-in_arcs-6.false))
    (met c.in_arcs-7.ensures (ap not c.if-not-in_arcs-7.false))
    c.in_arcs-8.ensures

-- `element_of` meets its contract: an arm for each case. Assumes nothing.
use Rattle.reasons.specs.Reasons.{cause_of}
use Rattle.explanation.specs.Elements.{element_asked}
use Rattle.explanation.proofs.element_of.Goals as goal

pub returns-in-Fits : goal.returns-in-Fits
unfolding cause_of element_asked
returns-in-Fits c = rw c.in-Fits.is

pub returns-in-BeforeSpan : goal.returns-in-BeforeSpan
unfolding cause_of element_asked
returns-in-BeforeSpan c = rw c.in-BeforeSpan.is

pub returns-in-AfterSpan : goal.returns-in-AfterSpan
unfolding cause_of element_asked
returns-in-AfterSpan c = rw c.in-AfterSpan.is

pub returns-in-Weekday : goal.returns-in-Weekday
unfolding cause_of element_asked
returns-in-Weekday c = rw c.in-Weekday.is

pub returns-in-Tithi : goal.returns-in-Tithi
unfolding cause_of element_asked
returns-in-Tithi c = rw c.in-Tithi.is

pub returns-in-Nakshatra : goal.returns-in-Nakshatra
unfolding cause_of element_asked
returns-in-Nakshatra c = rw c.in-Nakshatra.is

pub returns-in-Yoga : goal.returns-in-Yoga
unfolding cause_of element_asked
returns-in-Yoga c = rw c.in-Yoga.is

pub returns-in-Karana : goal.returns-in-Karana
unfolding cause_of element_asked
returns-in-Karana c = rw c.in-Karana.is

pub returns-in-Arcs : goal.returns-in-Arcs
unfolding cause_of element_asked
returns-in-Arcs c = rw c.in-Arcs.is

pub returns-in-TrueArcs : goal.returns-in-TrueArcs
unfolding cause_of element_asked
returns-in-TrueArcs c = rw c.in-TrueArcs.is

-- `cause_of` meets its contract: an arm for each case. Assumes nothing.
use Prim.Native.Nat.{ℕ, ◌≤◌}
use mathlib.Core.Path.{refl}
use native.Mathlib.Omega.{arith}
use Rattle.query.specs.declared.BodyArcs.{BodyArcs}
use Rattle.reasons.specs.declared.Reason.TheVariants.{Arcs, TrueArcs}
use Rattle.reasons.specs.Reasons.{cause_of}
use Rattle.bridge.specs.Answers.{six_of}
use Rattle.bridge.proofs.whys.cause_of.Goals as goal

-- a condition's number of at most 23 is that of a small number of a body or of a place
body-small : (body : ℕ) (asked : BodyArcs) (found : ℕ) → (cause_of (Arcs body asked found)).condition ≤ 23 → body ≤ 16
unfolding cause_of
body-small body asked found h = omega arith

place-small : (place : ℕ) (asked : BodyArcs) (found : ℕ) → (cause_of (TrueArcs place asked found)).condition ≤ 23 → place ≤ 6
unfolding cause_of
place-small place asked found h = omega arith

pub overflow_add-body : goal.overflow_add-body
overflow_add-body c = omega (arith, body-small _ _ _ (rw c.in-Arcs.is at c.requires))

pub overflow_add-place : goal.overflow_add-place
overflow_add-place c = omega (arith, place-small _ _ _ (rw c.in-TrueArcs.is at c.requires))

pub returns-in-Fits : goal.returns-in-Fits
returns-in-Fits c = rw c.in-Fits.is (unfold cause_of six_of in record { condition = refl; asked = refl; value = refl })

pub returns-in-BeforeSpan : goal.returns-in-BeforeSpan
returns-in-BeforeSpan c = rw (c.in-BeforeSpan.is, c.one_value.ensures) (unfold cause_of six_of in record { condition = refl; asked = refl; value = refl })

pub returns-in-AfterSpan : goal.returns-in-AfterSpan
returns-in-AfterSpan c = rw (c.in-AfterSpan.is, c.one_value-in-AfterSpan.ensures) (unfold cause_of six_of in record { condition = refl; asked = refl; value = refl })

pub returns-in-Weekday : goal.returns-in-Weekday
returns-in-Weekday c = rw (c.in-Weekday.is, c.one_value-in-Weekday.ensures) (unfold cause_of six_of in record { condition = refl; asked = refl; value = refl })

pub returns-in-Tithi : goal.returns-in-Tithi
returns-in-Tithi c = rw (c.in-Tithi.is, c.one_value-in-Tithi.ensures) (unfold cause_of six_of in record { condition = refl; asked = refl; value = refl })

pub returns-in-Nakshatra : goal.returns-in-Nakshatra
returns-in-Nakshatra c = rw (c.in-Nakshatra.is, c.one_value-in-Nakshatra.ensures) (unfold cause_of six_of in record { condition = refl; asked = refl; value = refl })

pub returns-in-Yoga : goal.returns-in-Yoga
returns-in-Yoga c = rw (c.in-Yoga.is, c.one_value-in-Yoga.ensures) (unfold cause_of six_of in record { condition = refl; asked = refl; value = refl })

pub returns-in-Karana : goal.returns-in-Karana
returns-in-Karana c = rw (c.in-Karana.is, c.one_value-in-Karana.ensures) (unfold cause_of six_of in record { condition = refl; asked = refl; value = refl })

pub returns-in-Arcs : goal.returns-in-Arcs
returns-in-Arcs c = rw (c.in-Arcs.is, c.both_arcs.ensures) (unfold cause_of six_of in record { condition = refl; asked = refl; value = refl })

pub returns-in-TrueArcs : goal.returns-in-TrueArcs
returns-in-TrueArcs c = rw (c.in-TrueArcs.is, c.both_arcs-in-TrueArcs.ensures) (unfold cause_of six_of in record { condition = refl; asked = refl; value = refl })

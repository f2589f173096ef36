-- `elements_met` meets its contract: no edition decides, then a pair out of range; with no element of both lights asked
-- for the nakshatra, else the elements in turn.
use borrow.Author.Tests.{not-true}
use mathlib.Core.Bool.{true, and-false}
use mathlib.Core.Path.{◌≡◌, sym, ap, ◌∙◌}
use Rattle.days.specs.Days.{in_range}
use Rattle.panchanga.specs.TrueLongitudes.{is_edition}
use Rattle.panchanga.specs.OnDays.{lights_at, tithi_at, nakshatra_at, yoga_at, karana_at}
use Rattle.panchanga.proofs.Answers.{answered}
use Rattle.query.specs.Conditions.{meets}
use Rattle.query.proofs.TrueBodies.{is-given}
use Rattle.query.proofs.Conditions.{LightsOn, lights-on, only-nakshatra, tithi-not-met, nakshatra-not-met, yoga-not-met, karana-decides, elements-tested}
use Rattle.query.proofs.elements_met.Goals as goal
use Rattle.query.proofs.elements_met.Goals.{After-admits, After-admits-2, After-admits-3, After-admits-4, After-unwrap-found, Else-not-in_range, Else-not-is_edition}

edition : (c : Else-not-is_edition) → is_edition c.args.edition ≡ true
edition c = sym c.is_edition.ensures ∙ c.if-not-is_edition.false

-- a day in range and an edition
known : (c : Else-not-in_range) → (in_range c.args.day ≡ true) × (is_edition c.args.edition ≡ true)
known c = (sym c.in_range.ensures ∙ c.if-not-in_range.false, (sym c.is_edition.ensures ∙ c.if-not-is_edition.false))

-- the lights found are the day's, and each test is of one element of them: a fact each, so that a wrong answer to one
-- is refused by itself
found-on : (c : After-unwrap-found) → LightsOn c.args.edition c.args.day c.unwrap-found.result
found-on c = lights-on _ _ (sym c.unwrap-found.ensures ∙ c.true_lights.ensures)

tithi-is : (c : After-admits) → let a = c.args in meets a.tithi (tithi_at a.edition a.day) ≡ c.admits.result
unfolding tithi_at
tithi-is c = let on = lights-on _ _ (sym c.unwrap-found.ensures ∙ c.true_lights.ensures) in ap (meets _) (sym (c.tithi_of.ensures ∙ rw (on.sun, on.moon))) ∙ sym c.admits.ensures

nakshatra-is : (c : After-admits-2) → let a = c.args in meets a.nakshatra (nakshatra_at a.edition a.day) ≡ c.admits-2.result
unfolding nakshatra_at
nakshatra-is c = let on = lights-on _ _ (sym c.unwrap-found.ensures ∙ c.true_lights.ensures) in ap (meets _) (sym (c.nakshatra_of.ensures ∙ rw on.moon)) ∙ sym c.admits-2.ensures

yoga-is : (c : After-admits-3) → let a = c.args in meets a.yoga (yoga_at a.edition a.day) ≡ c.admits-3.result
unfolding yoga_at
yoga-is c = let on = lights-on _ _ (sym c.unwrap-found.ensures ∙ c.true_lights.ensures) in ap (meets _) (sym (c.yoga_of.ensures ∙ rw (on.sun, on.moon))) ∙ sym c.admits-3.ensures

karana-is : (c : After-admits-4) → let a = c.args in c.admits-4.result ≡ meets a.karana (karana_at a.edition a.day)
unfolding karana_at
karana-is c = let on = lights-on _ _ (sym c.unwrap-found.ensures ∙ c.true_lights.ensures) in c.admits-4.ensures ∙ ap (meets _) (c.karana_of.ensures ∙ rw (on.sun, on.moon))

pub unwrap-found-requires : goal.unwrap-found-requires
unwrap-found-requires c = let k = known (goal.at.unwrap-found-requires c).Else-not-in_range in is-given (c.true_lights.ensures ∙ answered lights_at _ _ (record { edition = k.1; range = k.0 }))

pub returns-then-not-is_edition : goal.returns-then-not-is_edition
returns-then-not-is_edition c = rw (sym c.is_edition.ensures ∙ c.if-not-is_edition.true)

pub returns-then-not-in_range : goal.returns-then-not-in_range
returns-then-not-in_range c = rw (sym c.in_range.ensures ∙ c.if-not-in_range.true) (sym (and-false (is_edition c.args.edition)))

pub nakshatra_met-requires : goal.nakshatra_met-requires
nakshatra_met-requires c = known (goal.at.nakshatra_met-requires c).Else-not-in_range

pub returns-then-not-karana : goal.returns-then-not-karana
returns-then-not-karana c = elements-tested _ _ _ _ _ _ (known (goal.at.returns-then-not-karana c).Else-not-in_range) (only-nakshatra _ _ _ _ _ _ _ (not-true _ c.if-not-tithi.true) (not-true _ c.if-not-yoga.true) (not-true _ c.if-not-karana.true) c.nakshatra_met.ensures)

pub returns-then-not-admits : goal.returns-then-not-admits
returns-then-not-admits c = elements-tested _ _ _ _ _ _ (known (goal.at.returns-then-not-admits c).Else-not-in_range) (tithi-not-met _ _ _ _ _ _ (tithi-is (goal.at.returns-then-not-admits c).After-admits ∙ c.if-not-admits.true))

pub returns-then-not-admits-2 : goal.returns-then-not-admits-2
returns-then-not-admits-2 c =
    elements-tested _ _ _ _ _ _ (known (goal.at.returns-then-not-admits-2 c).Else-not-in_range)
    (nakshatra-not-met _ _ _ _ _ _ (tithi-is (goal.at.returns-then-not-admits-2 c).After-admits ∙ c.if-not-admits.false) (nakshatra-is (goal.at.returns-then-not-admits-2 c).After-admits-2 ∙ c.if-not-admits-2.true))

pub returns-then-not-admits-3 : goal.returns-then-not-admits-3
returns-then-not-admits-3 c =
    elements-tested _ _ _ _ _ _ (known (goal.at.returns-then-not-admits-3 c).Else-not-in_range)
    (yoga-not-met _ _ _ _ _ _ (tithi-is (goal.at.returns-then-not-admits-3 c).After-admits ∙ c.if-not-admits.false) (nakshatra-is (goal.at.returns-then-not-admits-3 c).After-admits-2 ∙ c.if-not-admits-2.false) (yoga-is (goal.at.returns-then-not-admits-3 c).After-admits-3 ∙ c.if-not-admits-3.true))

pub returns : goal.returns
returns c =
    elements-tested _ _ _ _ _ _ (known (goal.at.returns c).Else-not-in_range)
    (karana-decides _ _ _ _ _ _ (tithi-is (goal.at.returns c).After-admits ∙ c.if-not-admits.false) (nakshatra-is (goal.at.returns c).After-admits-2 ∙ c.if-not-admits-2.false) _ (yoga-is (goal.at.returns c).After-admits-3 ∙ c.if-not-admits-3.false) (karana-is (goal.at.returns c).After-admits-4))

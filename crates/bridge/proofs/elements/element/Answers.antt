-- `element` meets its contract: each number's answer is the list's at its place, and behind the list there is none.
-- Assumes nothing.
use mathlib.Core.List.{[], ◌∷◌}
use mathlib.Core.Path.{◌≡◌, sym, ◌∙◌}
use Prim.Native.Nat.{ℕ, ◌≤◌}
use native.Mathlib.Omega.{arith}
use lib.ListN.{get_or-eq_default}
use Rattle.days.specs.declared.Day.{Day}
use Rattle.std.specs.Prelude.{Err}
use Rattle.days.specs.declared.refusal.Refusal.TheVariants.{NoSuchBody}
use Rattle.panchanga.specs.OnDays.{tithi_of, nakshatra_of, yoga_of, karana_of}
use Rattle.bridge.specs.Elements.{element_from}
use Rattle.bridge.proofs.elements.element.Goals as goal

behind : (n ed : ℕ) (d : Day) → 4 ≤ n → Err NoSuchBody ≡ element_from n ed d
unfolding element_from
behind n ed d h = sym (get_or-eq_default (tithi_of ed d ∷ nakshatra_of ed d ∷ yoga_of ed d ∷ karana_of ed d ∷ []) (Err NoSuchBody) h)

pub returns-in-0 : goal.returns-in-0
unfolding element_from
returns-in-0 c =
    let which : c.args.which ≡ 0 = omega arith in
    c.tithi.ensures ∙ rw (c.at-pair.ensures, which)

pub returns-in-1 : goal.returns-in-1
unfolding element_from
returns-in-1 c =
    let which : c.args.which ≡ 1 = omega arith in
    c.nakshatra.ensures ∙ rw (c.at-pair.ensures, which)

pub returns-in-2 : goal.returns-in-2
unfolding element_from
returns-in-2 c =
    let which : c.args.which ≡ 2 = omega arith in
    c.yoga.ensures ∙ rw (c.at-pair.ensures, which)

pub returns-in-3 : goal.returns-in-3
unfolding element_from
returns-in-3 c =
    let which : c.args.which ≡ 3 = omega arith in
    c.karana.ensures ∙ rw (c.at-pair.ensures, which)

pub returns-in_default : goal.returns-in_default
returns-in_default c =
    let which : 4 ≤ c.args.which = omega arith in
    behind _ _ _ which

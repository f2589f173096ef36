-- `bridge_iso_date` meets its contract: the answer in one number, of a date that is small. Assumes nothing.
use borrow.Author.Rules.{rules}
use mathlib.Core.Path.{◌≡◌, ap, ap₂, ◌∙◌}
use Prim.Native.Nat.{ℕ}
use Rattle.days.specs.Refusals.{part_or_zero}
use Rattle.bridge.specs.Iso.{in_one, digits, date_in_one}
use Rattle.bridge.proofs.Iso.{date-small}
use Rattle.bridge.proofs.iso_dates.bridge_iso_date.Goals as goal
use Rattle.bridge.proofs.iso_dates.bridge_iso_date.Goals.{After-map_or}

number : (c : After-map_or) → c.map_or.result ≡ part_or_zero digits c.date_of-answer.result
number c = search rules

pub in_one-requires : goal.in_one-requires
in_one-requires c =
    rw (number (goal.at.in_one-requires c).After-map_or) (date-small _ _ c.date_of-answer.ensures)

pub returns : goal.returns
returns c =
    c.in_one.ensures
    ∙ ap₂ (λ (refusal date : ℕ). in_one refusal date) c.result_number.ensures (number (goal.at.returns c).After-map_or)
    ∙ ap date_in_one c.date_of-answer.ensures

-- `day_line` meets its contract: a number that is a day has its record, and its line. Assumes nothing.
use mathlib.Core.Path.{◌≡◌, ◌∙◌}
use Rattle.blocks.proofs.Numbers.{record-there}
use Rattle.panchanga.specs.TrueLongitudes.{first_edition}
use Rattle.records.specs.Records.{record_on}
use Rattle.text.proofs.Holding.{nothing-held}
use Rattle.almanac_sheet.proofs.Lines.{meant, no-day, a-day}
use Rattle.almanac_sheet.proofs.day_line.Goals as goal

pub returns-then-day : goal.returns-then-day
returns-then-day c = meant (no-day _ c.if-day.true) (nothing-held _ c.empty.ensures)

pub unwrap-filled-requires : goal.unwrap-filled-requires
unwrap-filled-requires c = rw (c.record_of.ensures ∙ record-there _ c.if-day.false)

pub returns : goal.returns
returns c =
    let there = record-there _ c.if-day.false in
    let found : c.unwrap-filled.result ≡ record_on first_edition c.args.day = cc in
    meant (a-day _ c.if-day.false) (rw found at c.record_line.ensures)

-- `sheet::two_lines` meets its contract: the columns are the day's, and what is put one after another is put at once
-- and fits.
-- Assumes nothing.
use mathlib.Core.Path.{sym, ap, ◌∙◌}
use mathlib.Core.List.{append_assoc}
use Rattle.text.specs.Lines.{with_bytes, spaced}
use Rattle.text.proofs.Lines.{with-byte-is, with-bytes-append}
use Rattle.text.proofs.Holding.{holds}
use Rattle.sheet.specs.Sheets.{sheet_heading, two_lines}
use Rattle.sheet.proofs.Fitting.{two-lines-fit}
use Rattle.sheet.proofs.Columns.{elements-told, columns-found}
use Rattle.sheet.proofs.two_lines.Goals as goal

pub unwrap-elements-requires : goal.unwrap-elements-requires
unwrap-elements-requires c = rw (c.of_day.ensures ∙ elements-told _ c.requires c.at-day.ensures)

pub returns : goal.returns
unfolding two_lines sheet_heading
returns c =
    let elements = sym c.of_day.ensures ∙ c.unwrap-elements.ensures in
    let columns = columns-found _ c.requires c.at-day.ensures c.weekday_on.ensures elements in
    let numbers = c.numbers.ensures ∙ ap (λ ns. with_bytes c.number-started.result (spaced ns)) columns in
    holds _ _ (two-lines-fit _ c.requires)
    (rw (c.byte.ensures, numbers, c.number-started.ensures, c.text.ensures, c.empty.ensures)
    (simp (with-byte-is, with-bytes-append, append_assoc)))

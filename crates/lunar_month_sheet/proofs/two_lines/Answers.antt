-- `two_lines` meets its contract: what is put one after another is put at once, and it fits.
use mathlib.Core.List.{append_assoc}
use Rattle.std.specs.Prelude.{Some, None}
use Rattle.text.proofs.Holding.{holds}
use Rattle.text.proofs.Lines.{with-byte-is, with-bytes-append}
use Rattle.lunar_month_sheet.specs.MonthSheets.{month_heading, start_bytes, month_sheet}
use Rattle.lunar_month_sheet.proofs.Sheets.{sheet-fits}
use Rattle.lunar_month_sheet.proofs.two_lines.Goals as goal

pub returns-in-None : goal.returns-in-None
unfolding month_sheet month_heading start_bytes
returns-in-None c =
    rw c.in-None.is
    (holds _ _ (sheet-fits _ None c.requires.0 (rw c.in-None.is at c.requires.1))
    (rw (c.text.ensures, c.byte-line.ensures, c.put_day.ensures, c.text-started.ensures, c.empty.ensures)
    (simp (with-byte-is, with-bytes-append, append_assoc))))

pub returns-in-Some : goal.returns-in-Some
unfolding month_sheet month_heading start_bytes
returns-in-Some c =
    rw c.in-Some.is
    (holds _ _ (sheet-fits _ (Some c.in-Some.start) c.requires.0 (rw c.in-Some.is at c.requires.1))
    (rw (c.byte.ensures, c.put_day-in-Some.ensures, c.byte-begun.ensures, c.wide_number.ensures, c.byte-line.ensures, c.put_day.ensures, c.text-started.ensures, c.empty.ensures)
    (simp (with-byte-is, with-bytes-append, append_assoc))))

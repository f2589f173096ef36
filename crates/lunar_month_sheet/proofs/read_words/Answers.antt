-- `read_words` meets its contract: a third word decides, else the day and the edition.
use mathlib.Core.Path.{ap, ap₂, ◌∙◌}
use Rattle.words.specs.Words.{first_word}
use Rattle.lunar_month_sheet.specs.MonthSheets.{asked}
use Rattle.lunar_month_sheet.proofs.Sheets.{three-words, two-words}
use Rattle.lunar_month_sheet.proofs.read_words.Goals as goal

pub returns-then-more-ne0 : goal.returns-then-more-ne0
returns-then-more-ne0 c =
    three-words _ _ _ _ c.up_to-body.ensures c.after_word-others.ensures (c.first_word-more.ensures ∙ ap first_word c.after_word.ensures) c.if-more-ne0.true

pub returns : goal.returns
returns c =
    c.both.ensures
    ∙ ap₂ asked c.day.ensures c.read_edition.ensures
    ∙ two-words _ _ _ _ c.up_to-body.ensures c.after_word-others.ensures (c.first_word-more.ensures ∙ ap first_word c.after_word.ensures) _ _ c.first_word.ensures c.first_word-2.ensures c.if-more-ne0.false

-- `read_days` meets its contract: a third word decides, else the two days. Assumes nothing.
use mathlib.Core.Path.{sym, ap, ap₂, ◌∙◌}
use Rattle.words.specs.Words.{first_word}
use Rattle.span_line.specs.SpanLine.{both_days}
use Rattle.span_line.proofs.Laws.{three-words, two-words}
use Rattle.span_line.proofs.read_days.Goals as goal

pub returns-then-not-is_empty : goal.returns-then-not-is_empty
returns-then-not-is_empty c =
    three-words _ _ _ _ c.up_to-body.ensures c.after_word-others.ensures (c.first_word-more.ensures ∙ ap first_word c.after_word.ensures) (sym c.is_empty.ensures ∙ c.if-not-is_empty.true)

pub returns : goal.returns
returns c =
    c.both_days.ensures
    ∙ ap₂ both_days c.day.ensures c.day-2.ensures
    ∙ two-words _ _ _ _ c.up_to-body.ensures c.after_word-others.ensures (c.first_word-more.ensures ∙ ap first_word c.after_word.ensures) _ _ c.first_word.ensures c.first_word-2.ensures (sym c.is_empty.ensures ∙ c.if-not-is_empty.false)

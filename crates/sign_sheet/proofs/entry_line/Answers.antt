-- `entry_line` meets its contract: what is found of the day is put together, and it fits. Assumes nothing.
use mathlib.Core.Path.{◌≡◌, ap, sym, ◌∙◌}
use Rattle.text.proofs.Holding.{holds}
use Rattle.zodiac.specs.Zodiac.{sign_of, sign_on}
use Rattle.sign_sheet.proofs.Lines.{sign-there, sign-line-made, sign-line-fits}
use Rattle.sign_sheet.proofs.entry_line.Goals as goal

pub unwrap-sign-requires : goal.unwrap-sign-requires
unwrap-sign-requires c = rw (c.sign_by.ensures ∙ ap (sign_of c.args.sun) c.at.ensures ∙ sign-there c.args.sun c.args.day c.requires)

pub returns : goal.returns
returns c =
    let there = sym c.unwrap-sign.ensures ∙ c.sign_by.ensures ∙ ap (sign_of c.args.sun) c.at.ensures ∙ sign-there c.args.sun c.args.day c.requires in
    let sign : c.unwrap-sign.result ≡ sign_on c.args.sun c.args.day = cc there in
    holds _ _ (sign-line-fits _ _ c.requires)
    (rw (c.byte.ensures, c.numbers.ensures, c.put_named_day.ensures, c.empty.ensures)
    (sign-line-made _ _ _ _ sign))

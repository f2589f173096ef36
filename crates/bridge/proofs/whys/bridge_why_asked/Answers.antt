-- `bridge_why_asked` meets its contract: of the six numbers the one at that place, behind them 0. Assumes nothing.
use borrow.Author.Rules.{rules}
use mathlib.Core.List.{List}
use mathlib.Core.Path.{◌≡◌, ap, ◌∙◌}
use Prim.Native.Nat.{ℕ}
use lib.ListN.{get_or}
use Rattle.bridge.proofs.whys.bridge_why_asked.Goals as goal

pub returns : goal.returns
returns c =
    let number : c.unwrap_or.result ≡ get_or c.values_asked-asked.result c.args.index 0 = search rules in
    number ∙ ap (λ (numbers : List ℕ). get_or numbers c.args.index 0) (c.values_asked-asked.ensures ∙ c.answer.ensures.asked)

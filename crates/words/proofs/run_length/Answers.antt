-- `run_length` meets its contract: the first byte that does not belong to the run ends it. Assumes nothing.
use Rattle.std.proofs.Common.{rules, tests, ◌∙◌, not}
use Rattle.std.proofs.lemmas.Iterator.{YieldsList-from_slice}
use Rattle.std.proofs.lemmas.Iterator.Search.{position_from_yields_List}
use Rattle.words.specs.Words.{in_run}
use Rattle.words.proofs.Runs.{run-found}
use Rattle.words.proofs.run_length.Goals as goal

pub returns : goal.returns
returns c =
    let a = c.args in
    c.unwrap_or.ensures
    ∙ run-found a.separators a.separator a.s.now _
    (position_from_yields_List (λ b. not (in_run a.separators a.separator b)) _ _ c.position.result c.position.ensures.ran (YieldsList-from_slice _ c.iter.ensures.rest) (λ x b q k. search (rules, tests)))

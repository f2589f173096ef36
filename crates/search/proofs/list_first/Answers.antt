-- `list_first` meets its contract: refused, or one pass over the whole span that puts what the list has entries for.
use borrow.Author.Tests.{eq-eqb, ne_eqb}
use mathlib.Core.Path.{◌≡◌, refl, ◌∙◌}
use Rattle.std.proofs.lemmas.Result.{err_from_is_err_and}
use Rattle.query.specs.Query.{refusal_of}
use Rattle.query.proofs.Accepted.{checked, refused-number}
use Rattle.search.specs.Search.{first_listed}
use Rattle.search.proofs.Answers.{measured-refused, measured}
use Rattle.search.proofs.Passes.{scannable-first}
use Rattle.search.proofs.list_first.Goals as goal
use Rattle.search.proofs.list_first.Goals.{In_ok-check}

accepted : (c : In_ok-check) → refusal_of c.args.query ≡ 0
accepted c = checked _ c.in_ok-check.ensures

pub returns-in_err-check : goal.returns-in_err-check
unfolding first_listed
returns-in_err-check c =
    let p = err_from_is_err_and c.from_residual.result c.from_residual.ensures.1 in
    record {
      measured = rw (p.1, p.2) (measured-refused _ c.in_err-check.ensures);
      list_after = rw (ne_eqb (refusal_of c.args.query) 0 (refused-number _ c.in_err-check.ensures));
    }

pub scan-all-requires : goal.scan-all-requires
scan-all-requires c = scannable-first _ _ _ (accepted (goal.at.scan-all-requires c).In_ok-check) c.first_visit-start.ensures

pub returns : goal.returns
unfolding first_listed
returns c =
    let e = accepted (goal.at.returns c).In_ok-check in
    let t = c.scan-all.ensures.tallied in
    record { measured = rw c.found.ensures (measured _ e t.count (t.visits refl)); list_after = c.scan-all.ensures.output_after ∙ rw (eq-eqb _ 0 e) }

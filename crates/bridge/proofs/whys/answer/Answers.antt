-- `answer` meets its contract: the library's answer for the query of the bytes, by its numbers, or a refusal for
-- another length. Assumes nothing.
use native.Mathlib.Omega.{arith}
use mathlib.Core.Path.{◌≡◌, refl, sym, ap, ◌∙◌}
use Rattle.std.specs.Prelude.{Err}
use Rattle.std.proofs.lemmas.Result.{err_from_is_err_and}
use Rattle.days.specs.declared.refusal.Refusal.{Refusal}
use Rattle.days.specs.Refusals.{refusal_number, result_number}
use Rattle.reasons.specs.Reasons.{Numbers, no_answer, numbers_of}
use Rattle.reasons.proofs.Laws.{condition-small}
use Rattle.bridge.specs.Answers.{six_of}
use Rattle.bridge.specs.Numbers.{BridgeWhy}
use Rattle.bridge.proofs.Told.{why-read, why-unread}
use Rattle.bridge.proofs.whys.answer.Goals as goal

refused : (meant : Numbers) (r : Refusal) → meant ≡ no_answer (refusal_number r) → BridgeWhy meant (Err r)
unfolding result_number six_of
refused meant r e = rw e (record { result = refl; edition = refl; condition = refl; asked = refl; value = refl })

pub returns-in_err-asked : goal.returns-in_err-asked
returns-in_err-asked c =
    let p = err_from_is_err_and c.from_residual.result c.from_residual.ensures.1 in
    rw (p.1, p.2) (refused _ _ (why-unread _ _ c.in_err-asked.ensures))

pub returns-in_err-told : goal.returns-in_err-told
unfolding numbers_of
returns-in_err-told c =
    let p = err_from_is_err_and c.from_residual-in_err-told.result c.from_residual-in_err-told.ensures.1 in
    rw (p.1, p.2) (refused _ _ (why-read _ _ c.in_ok-asked.ensures ∙ sym c.in_err-told.ensures))

pub cause_of-cause-requires : goal.cause_of-cause-requires
unfolding numbers_of
cause_of-cause-requires c =
    omega (arith, ap (λ (x : Numbers). x.cause.condition) c.in_ok-told.ensures, condition-small c.in_ok-asked.asked c.args.day)

pub returns : goal.returns
unfolding numbers_of result_number
returns c =
    let cause = c.cause_of-cause.ensures in
    rw (why-read _ _ c.in_ok-asked.ensures ∙ sym c.in_ok-told.ensures)
    (record { result = refl; edition = refl; condition = cause.condition; asked = cause.asked; value = cause.value })

-- `bytes_needed` meets its contract: refused, or the blocks' bytes.
use mathlib.Core.Path.{ap, ◌∙◌}
use native.Mathlib.Omega.{arith}
use Prim.Native.Nat.{ℕ, ◌*◌}
use Rattle.std.specs.Prelude.{Ok}
use Rattle.std.proofs.lemmas.Result.{err_from_is_err_and}
use Rattle.days.proofs.Laws.{Span, checked}
use Rattle.almanac.proofs.Answers.{needed-refused, needed-given}
use Rattle.almanac.proofs.bytes_needed.Goals as goal
use Rattle.almanac.proofs.bytes_needed.Goals.{In_ok-check_span}

span : (c : In_ok-check_span) → Span c.args.first c.args.last
span c = checked _ _ c.in_ok-check_span.ensures

pub returns-in_err-check_span : goal.returns-in_err-check_span
returns-in_err-check_span c = let p = err_from_is_err_and c.from_residual.result c.from_residual.ensures.1 in rw (p.1, p.2) (needed-refused _ _ c.in_err-check_span.ensures)

pub overflow_sub-count : goal.overflow_sub-count
overflow_sub-count c = let s = span (goal.at.overflow_sub-count c).In_ok-check_span in omega (arith, s.ordered, s.ends)

pub overflow_add-count : goal.overflow_add-count
overflow_add-count c = let s = span (goal.at.overflow_add-count c).In_ok-check_span in omega (arith, s.ordered, s.ends)

pub overflow_mul-result : goal.overflow_mul-result
overflow_mul-result c = let s = span (goal.at.overflow_mul-result c).In_ok-check_span in omega (arith, c.blocks_for.ensures, s.ordered, s.ends)

pub returns : goal.returns
returns c = ap (λ (m : ℕ). Ok (512 * m)) c.blocks_for.ensures ∙ needed-given _ _ c.in_ok-check_span.ensures

-- `lines_to_list` meets its contract: by the answer of reading the lines; the days are those that were kept, or read
-- again. Assumes nothing.
use Prim.Native.Nat.{ℕ, ◌*◌}
use mathlib.Core.Path.{refl, ap, sym, ◌∙◌}
use Rattle.std.specs.Prelude.{is_ok}
use native.Mathlib.Omega.{arith}
use lib.ListN.{length, replicate, take, length-replicate}
use lib.Seq.{length-take-le}
use Rattle.std.proofs.lemmas.Result.{err_from_is_err_and}
use Rattle.entries.proofs.Copying.{copied-with-room}
use Rattle.date_lines.proofs.Reading.{front-short, not-read, no_room, all-copied, all-put}
use Rattle.date_lines.proofs.lines_to_list.Goals as goal

pub returns-in_err-lines : goal.returns-in_err-lines
returns-in_err-lines c =
    let p = err_from_is_err_and c.from_residual.result c.from_residual.ensures.1 in
    let both = not-read _ _ _ _ c.in_err-lines.ensures.value in
    record { value = rw (p.1, p.2) both.0; list_after = both.1 }

pub returns-then-list-lines : goal.returns-then-list-lines
returns-then-list-lines c = let r = no_room _ _ _ _ c.in_ok-lines.ensures.value c.if-list-lines.true in record { value = r.0; list_after = r.1 }

pub slice_bounds-copy-end : goal.slice_bounds-copy-end
slice_bounds-copy-end c = sym (length-take-le _ _ (omega arith))

pub returns-then-lines : goal.returns-then-lines
returns-then-lines c =
    let n = c.in_ok-lines.lines in
    let all = copied-with-room (take (4 * n) c.read_lines.new.kept) c.args.list.now (front-short (4 * n) _ (length c.args.list.now) (omega (arith, c.if-list-lines.false))) in
    let both = all-copied _ _ _ _ c.in_ok-lines.ensures.value c.if-list-lines.false (replicate {A = ℕ} 16384 0) _ _ (c.in_ok-lines.ensures.kept_after refl) (omega (arith, length-replicate {A = ℕ} 16384 0, c.if-lines.true)) (rw all at c.copy.ensures.to_after) in
    record { value = both.0; list_after = both.1 }

pub returns : goal.returns
returns c =
    let again = c.read_lines-2.ensures.value ∙ sym c.in_ok-lines.ensures.value in
    let both = all-put _ _ _ _ c.in_ok-lines.ensures.value c.if-list-lines.false _ (c.read_lines-2.ensures.kept_after (ap is_ok again)) in
    record { value = again ∙ both.0; list_after = both.1 }

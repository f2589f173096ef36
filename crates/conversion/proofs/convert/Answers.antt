-- `convert` meets its contract: the days of accepted lines are listed and put as lines of the other kind. Assumes
-- nothing.
use mathlib.Core.Path.{◌≡◌, refl, ap, sym, ◌∙◌}
use mathlib.Core.List.{List}
use Prim.Native.Nat.{ℕ, ◌≤◌}
use native.Mathlib.Omega.{arith}
use lib.ListN.{length, replicate, length-replicate}
use lib.Seq.{length-take-le}
use Rattle.date_lines.specs.Texts.{with_front}
use Rattle.conversion.proofs.Laws.{refused-printed, few, lines-fit, all-printed}
use Rattle.conversion.proofs.convert.Goals as goal
use Rattle.conversion.proofs.convert.Goals.{In-Ok}

lines-few : (c : In-Ok) → c.in-Ok.lines ≤ 4096
lines-few c = few c.args.kind c.args.input.now (replicate {A = ℕ} 16384 0) (length-replicate {A = ℕ} 16384 0) c.in-Ok.ensures.value

pub overflow_mul-end : goal.overflow_mul-end
overflow_mul-end c = omega (arith, lines-few (goal.at.overflow_mul-end c).In-Ok)

pub slice_bounds-list-end : goal.slice_bounds-list-end
slice_bounds-list-end c = omega (arith, lines-few (goal.at.slice_bounds-list-end c).In-Ok)

pub slice_bounds-list_to_lines-end : goal.slice_bounds-list_to_lines-end
slice_bounds-list_to_lines-end c = sym (length-take-le _ _ (omega (arith, lines-few (goal.at.slice_bounds-list_to_lines-end c).In-Ok)))

pub unwrap-length-requires : goal.unwrap-length-requires
unwrap-length-requires c =
    let room : length c.args.output.now ≡ 45056 = omega arith in
    rw (c.list_to_lines.ensures.value ∙ lines-fit c.args.kind c.args.input.now (replicate {A = ℕ} 16384 0) (length-replicate {A = ℕ} 16384 0) c.in-Ok.ensures.value _ _ c.args.output.now room c.in-Ok.ensures.list_after refl _ c.other.ensures)

pub returns-in-Ok : goal.returns-in-Ok
returns-in-Ok c =
    let room : length c.args.output.now ≡ 45056 = omega arith in
    let a = all-printed c.args.kind c.args.input.now (replicate {A = ℕ} 16384 0) (length-replicate {A = ℕ} 16384 0) c.in-Ok.ensures.value _ _ c.args.output.now room c.in-Ok.ensures.list_after refl _ c.other.ensures (sym c.unwrap-length.ensures ∙ c.list_to_lines.ensures.value) in
    record { value = a.0; output_after = c.list_to_lines.ensures.text_after ∙ a.1 }

pub returns-in-Err : goal.returns-in-Err
returns-in-Err c =
    let r = refused-printed c.args.kind c.args.input.now (replicate {A = ℕ} 16384 0) (length-replicate {A = ℕ} 16384 0) c.in-Err.ensures.value in
    let why = c.refusal.ensures in
    record { value = rw (c.put_refusal-length.ensures.value, why) r.0; output_after = rw (c.put_refusal-length.ensures.output_after, why) (ap (λ (t : List ℕ). with_front t c.args.output.now) r.1) }

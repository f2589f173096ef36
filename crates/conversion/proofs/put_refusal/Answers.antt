-- `put_refusal` meets its contract: the line is copied to the front. Assumes nothing.
use Prim.Native.Nat.{ℕ}
use mathlib.Core.Path.{◌≡◌, sym, ◌∙◌}
use mathlib.Core.List.{List}
use native.Mathlib.Omega.{arith}
use lib.ListN.{length-take, take}
use lib.Seq.{length-take-le}
use Rattle.entries.proofs.Copying.{copied-with-room}
use Rattle.text.specs.declared.Line.{Line}
use Rattle.text.specs.Lines.{contents, Holds}
use Rattle.text.proofs.Holding.{holds-within, holds-room}
use Rattle.conversion.proofs.Laws.{copied}
use Rattle.conversion.proofs.put_refusal.Goals as goal

whole : {l : Line} {bs : List ℕ} → Holds l bs → take l.len l.bytes ≡ bs
unfolding contents
whole h = h.whole

pub slice_bounds-bytes-end : goal.slice_bounds-bytes-end
slice_bounds-bytes-end c = holds-within c.refusal_line-line.ensures

pub slice_bounds-copy-end : goal.slice_bounds-copy-end
slice_bounds-copy-end c = sym (length-take-le _ _ (holds-within c.refusal_line-line.ensures))

pub returns : goal.returns
returns c =
    let line = c.refusal_line-line.result in
    let room = holds-room c.refusal_line-line.ensures in
    let all = copied-with-room (take line.len line.bytes) c.args.output.now (omega (arith, length-take line.len line.bytes, room)) in
    let p = copied _ _ _ _ (whole c.refusal_line-line.ensures) (c.copy.ensures.value ∙ all) (rw all at c.copy.ensures.to_after) in
    record { value = rw c.number.ensures at p.0; output_after = rw c.number.ensures at p.1 }

-- `convert_and_print` writes what is printed: the output's front. Assumes nothing.
use mathlib.Core.Path.{sym}
use lib.Seq.{length-take-le}
use Rattle.conversion.proofs.Laws.{shown-within, shown}
use Rattle.conversion.proofs.convert_and_print.Goals as goal

pub slice_bounds-output-end : goal.slice_bounds-output-end
slice_bounds-output-end c = shown-within _ _ _ _ _ c.convert-done.ensures.value c.convert-done.ensures.output_after

pub slice_bounds-write_printed-end : goal.slice_bounds-write_printed-end
slice_bounds-write_printed-end c = sym (length-take-le _ _ (shown-within _ _ _ _ _ c.convert-done.ensures.value c.convert-done.ensures.output_after))

pub write_printed-requires : goal.write_printed-requires
write_printed-requires c = shown _ _ _ _ _ c.convert-done.ensures.value c.convert-done.ensures.output_after

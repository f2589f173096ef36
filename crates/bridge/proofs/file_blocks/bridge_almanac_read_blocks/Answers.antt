-- `bridge_almanac_read_blocks` meets its contract: what is told after the last block, and the library's promise.
use borrow.Author.Rules.{rules}
use Prim.Native.Nat.{ℕ, ◌+◌, ◌*◌}
use mathlib.Core.Path.{◌≡◌, ap, ap₂, ◌∙◌}
use Rattle.days.specs.Refusals.{part_or_zero}
use Rattle.entries.specs.Told.{put_number}
use Rattle.almanac.specs.declared.Reading.{Reading}
use Rattle.almanac.specs.Reading.{ended, reading_result}
use Rattle.bridge.proofs.file_blocks.bridge_almanac_read_blocks.Goals as goal

pub returns : goal.returns
unfolding reading_result
returns c =
    let s = c.read.ensures in
    let days : c.map_or-days.result ≡ part_or_zero (λ (r : Reading). r.count) c.ended-reading.result = search rules in
    record {
      value = ap₂ (λ (refusal days : ℕ). 4294967296 * refusal + days)
          (c.put_number-refusal.ensures ∙ ap put_number s.value)
          (days ∙ ap (part_or_zero (λ (r : Reading). r.count)) (c.ended-reading.ensures ∙ ap ended c.go_through.ensures));
      list_after = s.list_after;
    }

-- `graha_months_extend` meets its contract: the library's promise for the row.
use mathlib.Core.Path.{ap, ◌∙◌}
use Rattle.lunar_months.specs.declared.RowNumbers.{RowNumbers}
use Rattle.lunar_months.specs.Numbers.{row_numbers}
use Rattle.host.proofs.months.graha_months_extend.Goals as goal

pub returns : goal.returns
returns c =
    let s = c.extend.ensures in
    let row = c.row.ensures in
    record {
      value = ap (λ (n : RowNumbers). n.refusal) (c.row_numbers.ensures ∙ ap row_numbers (rw row at s.value));
      list_after = rw row at s.list_after;
    }

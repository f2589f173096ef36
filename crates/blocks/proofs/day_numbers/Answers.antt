-- `day_numbers` meets its contract: the record's numbers, and its elements, which are small, in one.
use mathlib.Core.Path.{sym, ◌∙◌}
use native.Mathlib.Omega.{arith}
use Rattle.blocks.proofs.Numbers.{record-there, small-found, numbers-found}
use Rattle.blocks.proofs.day_numbers.Goals as goal

pub unwrap-filled-requires : goal.unwrap-filled-requires
unwrap-filled-requires c = rw (c.record_of.ensures ∙ record-there _ c.requires)

pub overflow_mul-low : goal.overflow_mul-low
overflow_mul-low c = let s = small-found _ _ (sym c.unwrap-filled.ensures ∙ c.record_of.ensures) c.requires in omega (arith, s.tithi, s.nakshatra, s.yoga, s.karana)

pub overflow_add-low : goal.overflow_add-low
overflow_add-low c = let s = small-found _ _ (sym c.unwrap-filled.ensures ∙ c.record_of.ensures) c.requires in omega (arith, s.tithi, s.nakshatra, s.yoga, s.karana)

pub overflow_mul-high : goal.overflow_mul-high
overflow_mul-high c = let s = small-found _ _ (sym c.unwrap-filled.ensures ∙ c.record_of.ensures) c.requires in omega (arith, s.tithi, s.nakshatra, s.yoga, s.karana)

pub overflow_add-high : goal.overflow_add-high
overflow_add-high c = let s = small-found _ _ (sym c.unwrap-filled.ensures ∙ c.record_of.ensures) c.requires in omega (arith, s.tithi, s.nakshatra, s.yoga, s.karana)

pub overflow_mul-result : goal.overflow_mul-result
overflow_mul-result c = let s = small-found _ _ (sym c.unwrap-filled.ensures ∙ c.record_of.ensures) c.requires in omega (arith, s.tithi, s.nakshatra, s.yoga, s.karana)

pub overflow_add-result : goal.overflow_add-result
overflow_add-result c = let s = small-found _ _ (sym c.unwrap-filled.ensures ∙ c.record_of.ensures) c.requires in omega (arith, s.tithi, s.nakshatra, s.yoga, s.karana)

pub returns : goal.returns
returns c = numbers-found _ _ (sym c.unwrap-filled.ensures ∙ c.record_of.ensures) c.requires

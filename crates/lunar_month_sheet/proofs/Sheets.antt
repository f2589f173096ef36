-- The line's words, by whether there is a third one; and that a sheet fits: the heading has 25 bytes, a day at most 19,
-- and a number six digits.
-- Assumes nothing.
use mathlib.Core.List.{List}
use mathlib.Core.Path.{◌≡◌, sym, ◌∙◌}
use Prim.Native.Nat.{ℕ, ◌≤◌}
use native.Mathlib.Omega.{arith}
use lib.ListN.{length, length-append}
use borrow.Author.Tests.{eq-eqb, ne_eqb}
use Rattle.dated.proofs.Laws.{day-short}
use Rattle.days.specs.Days.{last_day}
use Rattle.std.specs.Prelude.{Option, Some, None, IfSome, Err}
use Rattle.days.specs.declared.refusal.Refusal.TheVariants.{BadInput}
use Rattle.lunar_months.specs.declared.MonthStart.{MonthStart}
use Rattle.text.specs.Lines.{line_capacity}
use Rattle.text.proofs.Printing.{digits-length}
use Rattle.values.specs.Values.{day_read}
use Rattle.words.specs.Words.{hash, up_to, first_word, after_word}
use Rattle.lunar_month_sheet.specs.MonthSheets.{edition_read, asked, asked_line, month_heading, start_bytes, month_sheet}

module _ (line body others more : List ℕ) (eb : body ≡ up_to hash line) (eo : others ≡ after_word body) (em : more ≡ first_word (after_word others)) where
  more-is : length more ≡ length (first_word (after_word (after_word (up_to hash line))))
  more-is = rw (em, eo, eb)

  pub three-words : (length more ≡ 0 → ⊥) → Err BadInput ≡ asked_line line
  unfolding asked_line
  three-words some = rw (ne_eqb (length (first_word (after_word (after_word (up_to hash line))))) 0 (λ z. some (more-is ∙ z)))

  pub two-words : (first second : List ℕ) → first ≡ first_word body → second ≡ first_word others → length more ≡ 0 → asked (day_read first) (edition_read second) ≡ asked_line line
  unfolding asked_line
  two-words first second ef es none = rw (eq-eqb (length (first_word (after_word (after_word (up_to hash line))))) 0 (sym more-is ∙ none), ef, es, eo, eb)

pub sheet-fits : (day : ℕ) (month : Option MonthStart) → day ≤ last_day → IfSome month (λ s. (s.day ≤ last_day) × (s.number ≤ last_day)) → length (month_sheet day month) ≤ line_capacity
unfolding month_sheet month_heading start_bytes
sheet-fits day None hd h = simp length-append (omega (arith, day-short day hd))
sheet-fits day (Some start) hd h = simp length-append (omega (arith, day-short day hd, day-short start.day h.0, digits-length 5 start.number (omega arith)))

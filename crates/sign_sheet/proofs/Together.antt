-- The lines of a listing are those that are printed for its input: the heading and then the line of each entry, by the
-- entries that are read back from the list, which has room for those of every span. Assumes nothing.
use mathlib.Core.Bool.{false}
use mathlib.Core.List.{List, [], ◌∷◌, map}
use mathlib.Core.Path.{◌≡◌, refl, sym, ap, ap₂, ◌∙◌}
use Prim.Native.Nat.{ℕ, suc, ◌+◌, ◌≤◌, ◌<◌}
use native.Mathlib.Omega.{arith}
use lib.ListN.{length, get_or}
use Rattle.std.specs.Prelude.{Result, Ok, Err}
use Rattle.days.specs.declared.refusal.Refusal.{Refusal}
use Rattle.days.specs.Days.{check_span}
use Rattle.days.proofs.Laws.{Span as Ordered, over-span}
use Rattle.entries.specs.declared.NotPut.{NotPut}
use Rattle.entries.specs.Entries.{capacity, entry_at, with_entries}
use Rattle.entries.proofs.Lists.{has-at}
use Rattle.span_line.specs.declared.Span.{Span}
use Rattle.span_line.specs.SpanLine.{span_input}
use Rattle.span_line.proofs.Marks.{as_before, accepted-marked}
use Rattle.zodiac.specs.declared.Sun.{Sun}
use Rattle.zodiac.specs.declared.Sun.TheVariants.{Mean}
use Rattle.zodiac.specs.Zodiac.{sign_entries, listing_of, entries_after}
use Rattle.zodiac.proofs.Answers.{all-written}
use Rattle.zodiac.proofs.Laws.{entered_only, entries-most, entered-read}
use Rattle.sign_sheet.specs.SignSheets.{sign_heading, sign_line, sign_lines, asked, sun_meant, sun_asked, sign_lines_for, no_listing, listed_line, entry_lines, most_entries, listing_lines}
use Rattle.sign_sheet.proofs.Lines.{accepted-lines, entered-lines, day-due}

-- a span in order is not refused
accepts-check : (first last : ℕ) → Ordered first last → Ok tt ≡ check_span first last
accepts-check first last o = sym (over-span (Ok tt) o)

-- the lines from entry k on, where each is the line of the day at its place
lines_of :
    (sun : Sun) (list days : List ℕ) (k : ℕ) →
    ((i : ℕ) → i < length days → listed_line sun (entry_at list (k + i)) ≡ sign_line sun (get_or days i 0)) →
    entry_lines sun list k (length days) ≡ map (sign_line sun) days
unfolding entry_lines
lines_of sun list [] k each = refl
lines_of sun list (d ∷ ds) k each =
    let here : k + 0 ≡ k = omega arith in
    ap₂ (λ (l : List ℕ) (ls : List (List ℕ)). l ∷ ls)
    (rw here at (each 0 (omega arith)))
    (lines_of sun list ds (suc k) (λ i h. let next : k + suc i ≡ suc k + i = omega arith in rw next at (each (suc i) (omega arith))))

module _ (sun : Sun) (first last : ℕ) (o : Ordered first last) (list : List ℕ) (room : most_entries ≤ capacity list) where
  abbrev days : List ℕ
  days = sign_entries sun first last

  fits : length days ≤ capacity list
  fits = omega (arith, entries-most sun first last o.ordered o.ends)

  entry : (i : ℕ) → i < length days → listed_line sun (entry_at (with_entries days list) i) ≡ sign_line sun (get_or days i 0)
  entry i h =
      let day = (entered_only sun first last _ o.ordered (has-at i days h)).to_last in
      day-due sun _ (sym (entered-read sun first last o.ordered list i o.ends fits h)) (omega (arith, day, o.ends))

  all-entered : listing_lines sun (listing_of sun first last (capacity list)) (entries_after sun first last list) ≡ sign_heading ∷ map (sign_line sun) days
  all-entered =
      let written = all-written sun first last list (length days) (accepts-check first last o) refl (with_entries days list) fits refl in
      rw (sym written.0, sym written.1)
      (accepted-lines sun (length days) (with_entries days list)
      ∙ entered-lines sun (length days) (with_entries days list)
      ∙ ap (λ (ls : List (List ℕ)). sign_heading ∷ ls) (lines_of sun (with_entries days list) days 0 (λ i h. let front : 0 + i ≡ i = omega arith in rw front (entry i h))))

-- THE LAW: the lines of a listing are those that are printed for its input; of a refused span, and of one whose entries
-- have room in the list
module _ (sun : Sun) (input list : List ℕ) (es : sun ≡ sun_asked input) where
  pub refused-together : {r : Refusal} → (asked input).span ≡ Err r → listing_lines sun (no_listing r) list ≡ sign_lines_for input
  unfolding sign_lines listing_lines
  refused-together e = rw (← es, e)

  pub listed-together :
      {s : Span} →
      (asked input).span ≡ Ok s →
      most_entries ≤ capacity list →
      (found : Result ℕ NotPut) (after : List ℕ) →
      found ≡ listing_of sun s.first s.last (capacity list) →
      after ≡ entries_after sun s.first s.last list →
      listing_lines sun found after ≡ sign_lines_for input
  unfolding sign_lines
  listed-together {s} e room found after ef ea =
      rw (ef, ea, ← es, e) (all-entered sun s.first s.last (accepted-marked _ input e) list room)

-- THE LAW: without the word `true` the lines are those of the mean Sun, for the span that the line means elsewhere
pub without-true : (input : List ℕ) → (asked input).marked ≡ false → sign_lines_for input ≡ sign_lines Mean (span_input input)
unfolding sun_meant
without-true input e = ap₂ sign_lines (ap sun_meant e) (as_before _ input e)

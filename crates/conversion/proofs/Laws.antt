-- What is printed: the days of lines that are accepted, listed and put as lines of the other kind, or the refusal's
-- line. Assumes nothing.
use mathlib.Core.Path.{◌≡◌, refl, ap, ap₂, sym, ◌∙◌}
use mathlib.Core.List.{List, ◌++◌}
use Prim.Native.Nat.{ℕ, ◌*◌, ◌≤◌}
use native.Mathlib.Omega.{arith}
use lib.ListN.{length, take, drop, length-append}
use lib.Seq.{take_at, take-length}
use borrow.Author.Tests.{le-ltb}
use Rattle.entries.specs.Entries.{entries, capacity, with_entries}
use Rattle.entries.specs.Listed.{listed_from}
use Rattle.entries.proofs.Laws.{entries-length}
use Rattle.entries.proofs.Listed.{listed-entries}
use Rattle.text.specs.Lines.{refusal_line}
use Rattle.date_lines.specs.declared.Kind.{Kind}
use Rattle.std.specs.Prelude.{Result, Ok, Err}
use Rattle.days.specs.Refusals.{refusal_number}
use Rattle.date_lines.specs.declared.NotConverted.{NotConverted}
use Rattle.date_lines.specs.Told.{why_not}
use Rattle.conversion.specs.declared.Printed.{Printed}
use Rattle.date_lines.specs.Texts.{lines_of, days_of, with_room, list_answer, list_after, text_of, converted, days_answer, text_answer, text_after, with_front}
use Rattle.date_lines.proofs.Reading.{Accepted, accepted-lines, days-length}
use Rattle.date_lines.proofs.Laws.{each_read, text-short, days-fit}
use Rattle.conversion.specs.Conversion.{other_kind, read_of, printed, told}

module _ (kind : Kind) (input list : List ℕ) (size : length list ≡ 16384) where
  -- the list has an entry for each line, so that the answer is that of the lines
  is_read : list_answer kind 4096 input list ≡ read_of kind input
  unfolding with_room
  is_read = go (read_of kind input) refl
    where
      go : (r : Result ℕ NotConverted) → read_of kind input ≡ r → with_room (capacity list) r ≡ r
      go (Ok n) z =
          let a = accepted-lines kind 4096 (lines_of input) (sym z) in
          let answer = a.answer in
          let all : n ≡ length (lines_of input) = cc in
          rw (le-ltb (capacity list) n (omega (arith, all, a.few)))
      go (Err f) z = refl

  -- refused: the refusal's line is what is printed
  pub refused-printed : {f : NotConverted} → Err f ≡ list_answer kind 4096 input list → (record { length = length (refusal_line (refusal_number (why_not f))); read = Err f } ≡ told kind input) × (refusal_line (refusal_number (why_not f)) ≡ printed kind input)
  unfolding told printed
  refused-printed {f} e =
      let r : Err f ≡ read_of kind input = e ∙ is_read in
      let p : refusal_line (refusal_number (why_not f)) ≡ printed kind input = rw (← r) in
      (rw (← p, ← r), p)

  module _ {n : ℕ} (e : Ok n ≡ list_answer kind 4096 input list) where
    r : Ok n ≡ read_of kind input
    r = e ∙ is_read

    a : Accepted kind 4096 (lines_of input)
    a = accepted-lines kind 4096 (lines_of input) r

    pub count : n ≡ length (days_of kind (lines_of input))
    count =
        let answer = a.answer in
        let all : n ≡ length (lines_of input) = cc r in
        all ∙ sym (days-length kind (lines_of input))

    pub few : n ≤ 4096
    few = omega (arith, count, days-length kind (lines_of input), a.few)

    print-is : printed kind input ≡ text_of (other_kind kind) (days_of kind (lines_of input))
    unfolding printed
    print-is = rw (← r)

    module _ (after part output : List ℕ) (room : length output ≡ 45056) (l : after ≡ list_after kind 4096 input list) (p : part ≡ take (4 * n) after) where
      -- the list's front is the days' entries and nothing else
      front : part ≡ entries (days_of kind (lines_of input))
      front =
          let put : after ≡ with_entries (days_of kind (lines_of input)) list = l ∙ (unfold list_after in rw (← e)) in
          p
          ∙ ap₂ (λ (k : ℕ) (m : List ℕ). take (4 * k) m) count put
          ∙ take_at (entries (days_of kind (lines_of input))) (drop (4 * length (days_of kind (lines_of input))) list) (4 * length (days_of kind (lines_of input))) (entries-length (days_of kind (lines_of input)))

      listed : listed_from part 0 ≡ days_of kind (lines_of input)
      listed = ap (λ (m : List ℕ). listed_from m 0) front ∙ listed-entries (days_of kind (lines_of input)) (each_read kind (lines_of input) a.good)

      answer : text_answer (other_kind kind) part output ≡ converted (length (text_of (other_kind kind) (days_of kind (lines_of input))))
      answer =
          let each = each_read kind (lines_of input) a.good in
          ap (λ (ds : List ℕ). days_answer (other_kind kind) ds (length output)) listed
          ∙ days-fit (other_kind kind) (days_of kind (lines_of input)) (length output) each
          (omega (arith, text-short (other_kind kind) (days_of kind (lines_of input)) each, count, few))

      after_is : text_after (other_kind kind) part output ≡ with_front (text_of (other_kind kind) (days_of kind (lines_of input))) output
      unfolding text_after
      after_is = rw (answer, listed)

      module _ (to : Kind) (k : to ≡ other_kind kind) where
        pub lines-fit : text_answer to part output ≡ converted (length (text_of (other_kind kind) (days_of kind (lines_of input))))
        lines-fit = rw k answer

        pub all-printed : {m : ℕ} → Ok m ≡ text_answer to part output → (record { length = m; read = Ok n } ≡ told kind input) × (text_after to part output ≡ with_front (printed kind input) output)
        unfolding told
        all-printed {m} h =
            let fit = lines-fit in
            let size : m ≡ length (text_of (other_kind kind) (days_of kind (lines_of input))) = cc in
            (rw (print-is, ← r, size), rw k (after_is ∙ ap (λ (t : List ℕ). with_front t output) (sym print-is)))

-- a line that was made is copied to the output's front
pub copied : (output source made after : List ℕ) {n : ℕ} → source ≡ made → n ≡ length source → after ≡ take (length source) source ++ drop (length source) output → (n ≡ length made) × (after ≡ with_front made output)
copied output source made after {n} e c a = (c ∙ ap length e, a ∙ rw (take-length source, e))

-- what was put at the output's front is what is printed
module _ (kind : Kind) (input output after : List ℕ) (r : Printed) (e : r ≡ told kind input) (a : after ≡ with_front (printed kind input) output) where
  size : r.length ≡ length (printed kind input)
  unfolding told
  size = ap (λ (c : Printed). c.length) e

  pub shown-within : r.length ≤ length after
  shown-within = omega (arith, ap length a, length-append (printed kind input) (drop (length (printed kind input)) output), size)

  pub shown : take r.length after ≡ printed kind input
  shown = ap₂ (λ (n : ℕ) (l : List ℕ). take n l) size a ∙ take_at (printed kind input) (drop (length (printed kind input)) output) (length (printed kind input)) refl

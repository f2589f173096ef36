-- `read_lines` meets its contract: what `Passed`, `Put` and `Left` say holds before each line, and gives the answer at
-- each of the three ends. Assumes nothing.
use Prim.Native.Nat.{ℕ, zero, suc, ◌<◌}
use mathlib.Core.Path.{◌≡◌, refl, ap}
use mathlib.Core.Bool.{false≢true}
use mathlib.Core.List.{◌∷◌}
use native.Mathlib.Omega.{arith}
use borrow.Author.Rules.{rules}
use borrow.Author.Tests.{tests}
use lib.Dec.{eqb}
use lib.ListN.{length, length-append}
use Rattle.std.proofs.lemmas.List.Sorted.{answers_always}
use Rattle.std.specs.Iterator.Adapters.{take_source, take_count}
use Rattle.std.specs.Slice.Iter.{split_inclusive_rest}
use Rattle.text.specs.Lines.{newline}
use Rattle.date_lines.specs.Texts.{lines_of}
use Rattle.date_lines.proofs.Splitting.{line-cut}
use Rattle.date_lines.proofs.Reading.{passed_none, passed-end, passed-many, passed-bad, passed-good, put-none, put-end, put-line, left_none}
use Rattle.date_lines.proofs.read_lines.Goals as goal
use Rattle.date_lines.proofs.read_lines.Goals.{In-Some}

-- the line that came is the first one, and fewer bytes are left
split : (c : In-Some) → lines_of (split_inclusive_rest (take_source c.loop-line.line-iterator)) ≡ c.in-Some.line.now ∷ lines_of (split_inclusive_rest (take_source c.next.new.self))
split c =
    let s = c.in-Some.ensures.steps.0 in
    line-cut _ _ _ s.1.0 s.0 s.1.1 (s.1.2 (λ b. eqb b newline) (answers_always _ _ _ (λ f a r q k. search (rules, tests)))).1 s.2

fewer : (c : In-Some) → length (split_inclusive_rest (take_source c.next.new.self)) < length (split_inclusive_rest (take_source c.loop-line.line-iterator))
fewer c =
    let s = c.in-Some.ensures.steps.0 in
    omega (arith, s.1.1, s.2, ap length s.0, length-append c.in-Some.line.now (split_inclusive_rest (take_source c.next.new.self)))

-- where bytes are left at the end, no more lines may be read
ended : {A : Type 0} (n : ℕ) {m : ℕ} → (0 < n → (m ≡ 0) × A) → 0 < m → n ≡ 0
ended zero steps some = refl
ended (suc n) steps some = absurd (omega (arith, (steps (omega arith)).0))

pub loop-line-init : goal.loop-line-init
loop-line-init c = (passed_none _ _ _ _ (cc), put-none _ _ _ _ (cc), left_none _ _ _ _ (cc) (cc))

pub returns-in-Err : goal.returns-in-Err
returns-in-Err c =
    let at = (goal.at.returns-in-Err c).In-Some in
    let left = c.loop-line.invariant.2.lines_left in
    record {
      value = passed-bad _ _ _ _ _ c.loop-line.invariant.0 _ _ (split at) (omega (arith, left, at.in-Some.ensures.steps.1)) c.in-Err.ensures;
      kept_after = λ z. absurd (false≢true z);
    }

pub loop-line-preserved : goal.loop-line-preserved
loop-line-preserved c =
    let at = (goal.at.loop-line-preserved c).In-Some in
    let s = split at in
    let left = c.loop-line.invariant.2 in
    let step = at.in-Some.ensures.steps in (
      passed-good _ _ _ _ _ c.loop-line.invariant.0 _ _ s (omega (arith, left.lines_left, step.1)) c.in-Ok.ensures (fewer at),
      put-line _ _ _ _ _ _ c.loop-line.invariant.1 _ _ _ s c.in-Ok.ensures c.put_entry.ensures,
      record {
        lines_left = omega (arith, left.lines_left, step.1);
        bytes_left = omega (arith, left.bytes_left, ap length step.0.0, length-append c.in-Some.line.now (split_inclusive_rest (take_source c.next.new.self)));
      },
    )

pub returns-then-seen-text : goal.returns-then-seen-text
returns-then-seen-text c =
    let left = c.loop-line.invariant.2 in
    let some : 0 < length (split_inclusive_rest (take_source c.loop-line.line-iterator)) = omega (arith, left.bytes_left, c.if-seen-text.true) in
    let last : take_count c.loop-line.line-iterator ≡ 0 = ended _ c.in-None.ensures.steps some in
    record { value = passed-many _ _ _ _ _ c.loop-line.invariant.0 (omega (arith, left.lines_left, last)) some; kept_after = λ z. absurd (false≢true z) }

pub returns : goal.returns
returns c =
    let none : length (split_inclusive_rest (take_source c.loop-line.line-iterator)) ≡ 0 = omega (arith, c.loop-line.invariant.2.bytes_left, c.if-seen-text.false) in
    record { value = passed-end _ _ _ _ _ c.loop-line.invariant.0 none; kept_after = λ z. put-end _ _ _ _ _ _ c.loop-line.invariant.1 none }

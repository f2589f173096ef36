-- `entries_by` meets its contract: refused, too many, or the days put one after another; they are as many as the signs
-- that are passed between the ends.
use Prim.Native.Nat.{ℕ, ◌+◌, ◌-◌, ◌≤◌}
use mathlib.Core.List.{List}
use mathlib.Core.Path.{◌≡◌, sym, ap, ap₂, ◌∙◌}
use native.Mathlib.Omega.{arith}
use lib.ListN.{length}
use Rattle.std.proofs.lemmas.Result.{err_from_is_err_and}
use Rattle.days.proofs.Laws.{Span, checked}
use Rattle.zodiac.specs.Zodiac.{sign_entries}
use Rattle.zodiac.specs.Passed.{passed_by, signs_passed}
use Rattle.zodiac.proofs.Suns.{delay-small}
use Rattle.zodiac.proofs.Passed.{passed-at, passed-mono, passed_first, passed-last}
use Rattle.zodiac.proofs.Entering.{entries-count}
use Rattle.zodiac.proofs.Answers.{entries-refused, too_many, all-written, entries-put}
use Rattle.zodiac.proofs.entries_by.Goals as goal
use Rattle.zodiac.proofs.entries_by.Goals.{After-signs_passed-after}

-- the signs passed at the ends, and the entries between them
module _ (c : After-signs_passed-after) where
  met : Span c.args.first c.args.last
  met = checked _ _ c.in_ok-check_span.ensures

  before-is : c.signs_passed-before.result ≡ signs_passed c.args.sun c.args.first
  before-is = c.signs_passed-before.ensures ∙ ap (λ (t : List ℕ). passed_by t c.args.first) c.delays_of-delays.ensures

  after_is : c.signs_passed-after.result ≡ signs_passed c.args.sun c.args.last
  after_is = c.signs_passed-after.ensures ∙ ap (λ (t : List ℕ). passed_by t c.args.last) c.delays_of-delays.ensures

  length-is : c.signs_passed-after.result - c.signs_passed-before.result ≡ length (sign_entries c.args.sun c.args.first c.args.last)
  length-is = ap₂ (λ (a b : ℕ). a - b) after_is before-is ∙ sym (entries-count _ c.args.first c.args.last met.ordered)

  before-few : c.signs_passed-before.result ≤ 13205
  before-few = omega (arith, before-is, passed-last c.args.sun c.args.first (omega (arith, met.ordered, met.ends)))

pub returns-in_err-check_span : goal.returns-in_err-check_span
returns-in_err-check_span c =
    let p = err_from_is_err_and c.from_residual.result c.from_residual.ensures.1 in
    let both = entries-refused _ _ _ _ c.in_err-check_span.ensures in
    record { value = rw (p.1, p.2) both.0; list_after = both.1 }

pub signs_passed-before-requires : goal.signs_passed-before-requires
signs_passed-before-requires c = let s = checked _ _ c.in_ok-check_span.ensures in omega (arith, s.ordered, s.ends)

pub signs_passed-after-requires : goal.signs_passed-after-requires
signs_passed-after-requires c = (checked _ _ c.in_ok-check_span.ensures).ends

pub overflow_sub-length : goal.overflow_sub-length
overflow_sub-length c =
    let r = (goal.at.overflow_sub-length c).After-signs_passed-after in
    let first = c.args.first in
    let last = c.args.last in
    let sun = c.args.sun in
    omega (
      arith,
      (met r).ordered,
      before-is r,
      after_is r,
      passed-mono sun first (last - first),
      passed-at sun {m = first + (last - first)} {n = last} (omega (arith, (met r).ordered)),
    )

pub returns-then-list-length : goal.returns-then-list-length
returns-then-list-length c =
    let r = (goal.at.returns-then-list-length c).After-signs_passed-after in
    let both = too_many _ _ _ _ _ c.in_ok-check_span.ensures (length-is r) c.if-list-length.true in
    record { value = both.0; list_after = both.1 }

pub overflow_add-before : goal.overflow_add-before
overflow_add-before c = omega (arith, before-few (goal.at.overflow_add-before c).After-signs_passed-after)

pub put_days-requires : goal.put_days-requires
put_days-requires c =
    let r = (goal.at.put_days-requires c).After-signs_passed-after in
    let sun = c.args.sun in
    let few = passed-last sun c.args.last (met r).ends in (
      omega (arith, before-is r, after_is r, passed_first sun c.args.first, before-few r, few),
      λ k. rw c.delays_of-delays.ensures (delay-small sun k),
    )

pub returns : goal.returns
returns c =
    let r = (goal.at.returns c).After-signs_passed-after in
    let fits = c.if-list-length.false in
    let table = c.delays_of-delays.ensures in
    let e = c.in_ok-check_span.ensures in
    let n = length-is r in
    let both = all-written _ _ _ _ _ e n _ fits (entries-put _ _ _ _ _ e n _ _ (before-is r) fits (rw table at c.put_days.ensures)) in
    record { value = both.0; list_after = both.1 }

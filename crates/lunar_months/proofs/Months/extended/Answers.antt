-- `extended` meets its contract: refused before the month starts are known, too many for the list, or made.
use mathlib.Core.Path.{ap, ◌∙◌}
use Prim.Native.Nat.{◌/◌}
use native.Mathlib.Omega.{arith}
use Rattle.std.specs.Prelude.{Ok, Err}
use Rattle.std.proofs.lemmas.Result.{err_from_is_err_and}
use Rattle.lunar_months.specs.declared.Months.{Months}
use Rattle.lunar_months.specs.declared.MonthRefusal.TheVariants.{TooShort}
use Rattle.lunar_months.proofs.Finding.{starts-few}
use Rattle.lunar_months.proofs.Answers.{Extendable, refused-before, accepted-before, extended_fits, extended-short}
use Rattle.lunar_months.proofs.Months.extended.Goals as goal
use Rattle.lunar_months.proofs.Months.extended.Goals.{In_ok-before_extension}

known : (c : In_ok-before_extension) → Extendable c.args.self c.args.days (c.args.bytes / 4)
known c = accepted-before _ _ _ c.in_ok-before_extension.ensures

pub returns-in_err-before_extension : goal.returns-in_err-before_extension
returns-in_err-before_extension c =
    let p = err_from_is_err_and c.from_residual.result c.from_residual.ensures.1 in
    rw (p.1, p.2) (refused-before _ _ _ c.in_err-before_extension.ensures)

pub find_starts-found-requires : goal.find_starts-found-requires
find_starts-found-requires c = (known (goal.at.find_starts-found-requires c).In_ok-before_extension).days

pub grown-after-requires : goal.grown-after-requires
grown-after-requires c =
    let k = known (goal.at.grown-after-requires c).In_ok-before_extension in
    (k.days.within, omega (arith, k.stored, k.days.within, c.find_starts-found.ensures.count, starts-few c.args.self.edition c.args.self.covered c.args.days))

pub returns-then-capacity-after : goal.returns-then-capacity-after
returns-then-capacity-after c =
    let count = c.find_starts-found.ensures.count in
    let starts = ap (λ (a : Months). a.starts) c.grown-after.ensures in
    ap (λ n. Err (TooShort n)) starts ∙ extended-short _ _ _ (known (goal.at.returns-then-capacity-after c).In_ok-before_extension) _ count (omega (arith, starts, c.if-capacity-after.true))

pub returns : goal.returns
returns c =
    let count = c.find_starts-found.ensures.count in
    let starts = ap (λ (a : Months). a.starts) c.grown-after.ensures in
    ap Ok c.grown-after.ensures ∙ extended_fits _ _ _ (known (goal.at.returns c).In_ok-before_extension) _ count (omega (arith, starts, c.if-capacity-after.false))

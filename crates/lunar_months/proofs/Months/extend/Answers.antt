-- `extend` meets its contract: refused, or the month starts stand in the list, which has an entry for each.
use mathlib.Core.Path.{sym, ap, ◌∙◌}
use Prim.Native.Nat.{◌+◌, ◌≤◌}
use native.Mathlib.Omega.{arith}
use lib.ListN.{length}
use Rattle.entries.specs.Entries.{capacity}
use Rattle.std.specs.Prelude.{Ok}
use Rattle.std.proofs.lemmas.Result.{err_from_is_err_and}
use Rattle.lunar_months.specs.Rows.{starts_behind}
use Rattle.lunar_months.proofs.Finding.{starts-few}
use Rattle.lunar_months.proofs.Answers.{Extendable, refused-before, accepted-before, extended_fits, fits-accepted, list-kept, list-grown}
use Rattle.lunar_months.proofs.Months.extend.Goals as goal
use Rattle.lunar_months.proofs.Months.extend.Goals.{In_ok-before_extension, Joined-capacity-self, then-capacity-self+in_ok-extended, else-capacity-self}

known : (c : In_ok-before_extension) → Extendable c.args.self c.args.days (capacity c.args.list.now)
known c = accepted-before _ _ _ c.in_ok-before_extension.ensures

-- the month starts fit: there is an entry for each day, or they were counted
fits : (c : Joined-capacity-self) → c.args.self.starts + length (starts_behind c.args.self c.args.days) ≤ capacity c.args.list.now
fits c =
    let k = accepted-before _ _ _ c.in_ok-before_extension.ensures in
    elim c.if-capacity-self.branch [
      | then-capacity-self+in_ok-extended w ↦ fits-accepted _ _ _ k w.in_ok-extended.ensures
      | else-capacity-self w ↦ omega (arith, k.stored, w.if-capacity-self.false, starts-few c.args.self.edition c.args.self.covered c.args.days)
    ]

pub returns-in_err-before_extension : goal.returns-in_err-before_extension
returns-in_err-before_extension c =
    let p = err_from_is_err_and c.from_residual.result c.from_residual.ensures.1 in
    let same = refused-before _ _ _ c.in_err-before_extension.ensures in
    rw (p.1, p.2) (record { value = same; list_after = sym (list-kept _ _ _ same) })

pub overflow_sub-capacity : goal.overflow_sub-capacity
overflow_sub-capacity c = (known (goal.at.overflow_sub-capacity c).In_ok-before_extension).stored

pub returns-in_err-extended : goal.returns-in_err-extended
returns-in_err-extended c =
    let p = err_from_is_err_and c.from_residual-in_err-extended.result c.from_residual-in_err-extended.ensures.1 in
    let same = c.in_err-extended.ensures in
    rw (p.1, p.2) (record { value = same; list_after = sym (list-kept _ _ _ same) })

pub put_starts-found-requires : goal.put_starts-found-requires
put_starts-found-requires c = let k = known (goal.at.put_starts-found-requires c).In_ok-before_extension in (k.days, k.stored)

pub grown-requires : goal.grown-requires
grown-requires c =
    let few = fits (goal.at.grown-requires c).Joined-capacity-self in
    ((known (goal.at.grown-requires c).In_ok-before_extension).days.within, omega (arith, few, c.put_starts-found.ensures.counted.count))

pub returns : goal.returns
returns c =
    let put = c.put_starts-found.ensures in
    let few = fits (goal.at.returns c).Joined-capacity-self in
    let same = extended_fits _ _ _ (known (goal.at.returns c).In_ok-before_extension) _ put.counted.count (omega (arith, few, put.counted.count)) in
    record { value = ap Ok c.grown.ensures ∙ same; list_after = put.list_after ∙ sym (list-grown _ _ _ same) }

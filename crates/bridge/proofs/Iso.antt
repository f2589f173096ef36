-- The numbers of a date are small, those of a refusal 0. Assumes nothing.
use mathlib.Core.Bool.{Bool, true, false, cond}
use mathlib.Core.Path.{◌≡◌, refl}
use Prim.Native.Nat.{ℕ, ◌<◌}
use native.Mathlib.Omega.{arith}
use lib.Dec.{leb}
use borrow.Author.Tests.{leb-true}
use Rattle.std.specs.Prelude.{Result, Ok, Err}
use Rattle.days.specs.declared.refusal.Refusal.{Refusal}
use Rattle.days.specs.declared.refusal.Refusal.TheVariants.{OutOfRange}
use Rattle.days.specs.Refusals.{part_or_zero}
use Rattle.days.specs.Days.{last_day}
use Rattle.civil.specs.declared.Date.{Date}
use Rattle.iso.specs.Calendar.{iso_on, iso_date_of}
use Rattle.iso.proofs.Laws.{iso-small}
use Rattle.bridge.specs.Iso.{digits}

pub date-small : (n : ℕ) (a : Result Date Refusal) → a ≡ iso_date_of n → part_or_zero digits a < 4294967296
unfolding iso_date_of
date-small n a e = rw e (go (leb n last_day) refl)
  where
    go : (t : Bool) → leb n last_day ≡ t → part_or_zero digits (cond t (Ok (iso_on n)) (Err OutOfRange)) < 4294967296
    go true h = omega (arith, iso-small n (leb-true n last_day h))
    go false h = omega arith

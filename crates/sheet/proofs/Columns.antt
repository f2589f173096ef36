-- The numbers found for a day's pair are its columns: the pair is in range, so that nothing is refused. Assumes
-- nothing.
use mathlib.Core.Path.{◌≡◌, refl}
use mathlib.Core.List.{List, [], ◌∷◌}
use Prim.Native.Nat.{ℕ, ◌≤◌}
use Rattle.std.specs.Prelude.{Ok}
use Rattle.days.specs.declared.Day.{Day}
use Rattle.days.specs.Days.{last_day, pair_at, weekday_on}
use Rattle.days.proofs.Laws.{pair-in-range}
use Rattle.panchanga.specs.declared.Panchanga.{Panchanga}
use Rattle.panchanga.specs.TrueLongitudes.{first_edition, is_edition}
use Rattle.panchanga.specs.OnDays.{panchanga_at, panchanga_of}
use Rattle.panchanga.proofs.Answers.{answered}
use Rattle.sheet.specs.Sheets.{columns}

-- the columns made of what is told of a day
abbrev pub found : Day → ℕ → Panchanga → List ℕ
found d w p =
    d.cycle
    ∷ d.within
    ∷ w
    ∷ p.sun
    ∷ p.moon
    ∷ p.tithi
    ∷ p.nakshatra
    ∷ p.yoga
    ∷ p.karana
    ∷ []

module _ (n : ℕ) {d : Day} (h : n ≤ last_day) (pair : d ≡ pair_at n) where
  pub elements-told : panchanga_of first_edition d ≡ Ok (panchanga_at first_edition (pair_at n))
  unfolding is_edition
  elements-told = rw pair (answered panchanga_at first_edition (pair_at n) (record { edition = refl; range = pair-in-range n h }))

  pub columns-found : {w : ℕ} {p : Panchanga} → w ≡ weekday_on n → panchanga_of first_edition d ≡ Ok p → found d w p ≡ columns n
  unfolding columns
  columns-found {w} {p} weekday elements = let e : p ≡ panchanga_at first_edition (pair_at n) = cc (elements, elements-told) in rw (pair, weekday, e)

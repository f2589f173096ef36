-- A day's thirteen numbers: what a record has, laid out one by one, and how large its elements are.
-- Assumes nothing.
use Prim.Native.Nat.{ℕ, ◌+◌, ◌*◌, ◌≤◌, ◌<◌}
use mathlib.Core.Path.{◌≡◌, refl, ap, ◌∙◌}
use mathlib.Core.List.{List, [], ◌∷◌, ◌++◌}
use native.Mathlib.Omega.{arith}
use borrow.Author.Tests.{le-leb}
use lib.ListN.{length, get_or}
use Rattle.days.specs.Days.{last_day, pair_at}
use Rattle.longitudes.proofs.Table.{nine-long}
use Rattle.panchanga.specs.TrueLongitudes.{is_edition}
use Rattle.panchanga.proofs.Bounds.{tithi-small, nakshatra-small, yoga-small, karana-range}
use Rattle.records.specs.declared.DayRecord.{DayRecord}
use Rattle.std.specs.Prelude.{Ok}
use Rattle.records.specs.Records.{record_on, record_of}
use Rattle.blocks.specs.Blocks.{elements_of, day_numbers}

pub record-there : (n : ℕ) → n ≤ last_day → record_of 1 n ≡ Ok (record_on 1 n)
unfolding record_of is_edition
record-there n h = rw (le-leb n last_day h)

record-found : (n : ℕ) (a : DayRecord) → Ok a ≡ record_of 1 n → n ≤ last_day → a ≡ record_on 1 n
record-found n a e h = cc (record-there n h)

pub record Small (r : DayRecord) : Type 0 where
  pub tithi : r.tithi < 30
  pub nakshatra : r.nakshatra < 27
  pub yoga : r.yoga < 27
  pub karana : r.karana ≤ 11

pub small-on : (n : ℕ) → Small (record_on 1 n)
unfolding record_on
small-on n = record { tithi = tithi-small 1 (pair_at n); nakshatra = nakshatra-small 1 (pair_at n); yoga = yoga-small 1 (pair_at n); karana = (karana-range 1 (pair_at n)).1 }

pub small-found : (n : ℕ) (a : DayRecord) → Ok a ≡ record_of 1 n → n ≤ last_day → Small a
small-found n a e h = rw (record-found n a e h) (small-on n)

nine-laid : (xs rest : List ℕ) → length xs ≡ 9 → get_or xs 0 0 ∷ get_or xs 1 0 ∷ get_or xs 2 0 ∷ get_or xs 3 0 ∷ get_or xs 4 0 ∷ get_or xs 5 0 ∷ get_or xs 6 0 ∷ get_or xs 7 0 ∷ get_or xs 8 0 ∷ rest ≡ xs ++ rest
nine-laid [] rest h = absurd (omega arith)
nine-laid (a ∷ []) rest h = absurd (omega arith)
nine-laid (a ∷ b ∷ []) rest h = absurd (omega arith)
nine-laid (a ∷ b ∷ c ∷ []) rest h = absurd (omega arith)
nine-laid (a ∷ b ∷ c ∷ d ∷ []) rest h = absurd (omega arith)
nine-laid (a ∷ b ∷ c ∷ d ∷ e ∷ []) rest h = absurd (omega arith)
nine-laid (a ∷ b ∷ c ∷ d ∷ e ∷ f ∷ []) rest h = absurd (omega arith)
nine-laid (a ∷ b ∷ c ∷ d ∷ e ∷ f ∷ g ∷ []) rest h = absurd (omega arith)
nine-laid (a ∷ b ∷ c ∷ d ∷ e ∷ f ∷ g ∷ i ∷ []) rest h = absurd (omega arith)
nine-laid (a ∷ b ∷ c ∷ d ∷ e ∷ f ∷ g ∷ i ∷ j ∷ []) rest h = refl
nine-laid (a ∷ b ∷ c ∷ d ∷ e ∷ f ∷ g ∷ i ∷ j ∷ k ∷ xs) rest h = absurd (omega arith)

-- a record's numbers one by one
abbrev laid : DayRecord → List ℕ
laid r =
    r.day
    ∷ get_or r.longitudes 0 0
    ∷ get_or r.longitudes 1 0
    ∷ get_or r.longitudes 2 0
    ∷ get_or r.longitudes 3 0
    ∷ get_or r.longitudes 4 0
    ∷ get_or r.longitudes 5 0
    ∷ get_or r.longitudes 6 0
    ∷ get_or r.longitudes 7 0
    ∷ get_or r.longitudes 8 0
    ∷ r.sun
    ∷ r.moon
    ∷ (r.tithi + 256 * r.nakshatra + 65536 * (r.yoga + 256 * r.karana))
    ∷ []

pub longitudes-long : (n : ℕ) → length (record_on 1 n).longitudes ≡ 9
unfolding record_on
longitudes-long n = nine-long (pair_at n)

pub numbers-found : (n : ℕ) (a : DayRecord) → Ok a ≡ record_of 1 n → n ≤ last_day → laid a ≡ day_numbers n
unfolding day_numbers elements_of
numbers-found n a e h =
    let r : DayRecord = record_on 1 n in
    let packed : r.tithi + 256 * r.nakshatra + 65536 * (r.yoga + 256 * r.karana) ≡ r.tithi + 256 * r.nakshatra + 65536 * r.yoga + 16777216 * r.karana = omega arith in
    ap laid (record-found n a e h)
    ∙ ap (λ (t : List ℕ). r.day ∷ t) (nine-laid r.longitudes _ (longitudes-long n))
    ∙ ap (λ (x : ℕ). r.day ∷ (r.longitudes ++ (r.sun ∷ r.moon ∷ x ∷ []))) packed

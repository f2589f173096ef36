-- The lines of a month's sheet by index, and how many there are; and that a record's line is put together from its
-- parts. Assumes nothing.
use mathlib.Core.List.{List, [], ◌∷◌, ◌++◌, map, append_assoc}
use mathlib.Core.Path.{◌≡◌, refl, sym, ◌∙◌, subst}
use Prim.Native.Nat.{ℕ, zero, suc, ◌-◌, ◌≤◌, ◌<◌}
use native.Mathlib.Omega.{arith}
use lib.ListN.{length, get_or, length-map}
use Rattle.std.specs.Prelude.{Ok}
use Rattle.records.specs.declared.DayRecord.{DayRecord}
use Rattle.text.specs.declared.Line.{Line}
use Rattle.text.specs.Decimal.{digits_of}
use Rattle.text.specs.Lines.{newline, empty_line, with_bytes, ended, spaced, Holds, whole_line}
use Rattle.text.specs.Sheets.{line_at}
use Rattle.text.proofs.Holding.{ended-holds}
use Rattle.text.proofs.Lines.{with-bytes-append}
use Rattle.text.proofs.Sheets.{line_first, line-next, line-behind}
use Rattle.month_sheet.specs.MonthSheets.{true_columns, record_bytes, record_line, month_lines}

-- ---- the lines of a month
-- what a read behind the last record would give; none is made there
abbrev pub behind : DayRecord
behind = record { day = 0; weekday = 0; longitudes = []; sun = 0; moon = 0; tithi = 0; nakshatra = 0; yoga = 0; karana = 0 }

mapped_at : (rs : List DayRecord) (k : ℕ) → k < length rs → line_at (map record_line rs) k ≡ record_line (get_or rs k behind)
mapped_at [] k h = absurd (omega arith)
mapped_at (r ∷ rs) zero h = line_first _ _
mapped_at (r ∷ rs) (suc k) h = line-next _ _ k ∙ mapped_at rs k (omega arith)

-- what owning a month tells of its records: their array's length, of its elements as they are laid out
pub unmapped : (X Y : Type 0) (f : X → Y) (l : List X) (n : ℕ) → length (map f l) ≡ n → length l ≡ n
unmapped X Y f l n e = sym (length-map l f) ∙ e

-- ---- how many there are
pub all_lines : (rs : List DayRecord) → length rs ≡ 30 → 31 ≡ length (month_lines (Ok rs))
all_lines rs long = omega (arith, length-map rs record_line)

-- ---- which line is meant
module _ (rs : List DayRecord) (k : ℕ) where
  pub none-behind : length rs ≡ 30 → 31 ≤ k → line_at (month_lines (Ok rs)) k ≡ []
  none-behind long l = line-behind (month_lines (Ok rs)) k (omega (arith, all_lines rs long))

pub line-of-record : (rs : List DayRecord) (k : ℕ) → length rs ≡ 30 → (k ≡ 0 → ⊥) → k < 31 → line_at (month_lines (Ok rs)) k ≡ record_line (get_or rs (k - 1) behind)
line-of-record rs zero long h l = absurd (h refl)
line-of-record rs (suc k) long h l =
    let back : suc k - 1 ≡ k = omega arith in
    rw back (line-next _ _ k ∙ mapped_at rs k (omega arith))

-- ---- a record's line is put together from its parts
pub record-line-held :
    (l : Line) (r : DayRecord) →
    l ≡ with_bytes (with_bytes (with_bytes (with_bytes empty_line (digits_of r.day)) (spaced (r.weekday ∷ []))) (spaced r.longitudes)) (spaced (true_columns r)) →
    Holds (ended l) (record_line r)
unfolding record_line record_bytes
record-line-held l r e = of_parts (digits_of r.day) (spaced (r.weekday ∷ [])) (spaced r.longitudes) (spaced (true_columns r)) e
  where
    together : (a b c d : List ℕ) → with_bytes (with_bytes (with_bytes (with_bytes empty_line a) b) c) d ≡ with_bytes empty_line (a ++ (b ++ (c ++ d)))
    together a b c d = simp (with-bytes-append, append_assoc)

    with_newline : (a b c d : List ℕ) → (a ++ (b ++ (c ++ d))) ++ (newline ∷ []) ≡ a ++ (b ++ (c ++ (d ++ (newline ∷ []))))
    with_newline a b c d = simp append_assoc

    of_parts :
        (a b c d : List ℕ) →
        l ≡ with_bytes (with_bytes (with_bytes (with_bytes empty_line a) b) c) d →
        Holds (ended l) (whole_line (a ++ (b ++ (c ++ (d ++ (newline ∷ []))))))
    of_parts a b c d h =
        subst (λ (bs : List ℕ). Holds (ended l) (whole_line bs)) (with_newline a b c d) (ended-holds l (a ++ (b ++ (c ++ d))) (h ∙ together a b c d))

-- A block laid out: its numbers put one after another are its bytes in front, and with their sum behind them the block;
-- by the entries' laws.
-- Assumes nothing.
use Prim.Native.Nat.{ℕ, zero, suc, ◌+◌, ◌-◌, ◌*◌, ◌/◌, ◌%◌, ◌≤◌, ◌<◌}
use mathlib.Core.Path.{◌≡◌, refl, ap, ap₂, sym, ◌∙◌}
use mathlib.Core.List.{List, [], ◌∷◌, ◌++◌, append_assoc}
use native.Mathlib.Omega.{arith}
use lib.ListN.{length, take, drop, replicate, length-append, length-replicate, replicate-append-replicate}
use lib.Seq.{take_at}
use Rattle.days.specs.Days.{days_from}
use Rattle.entries.specs.Entries.{entry, entries, with_entry, with_entries_from}
use Rattle.entries.proofs.Laws.{entries-length, entries-snoc, entries_next}
use Rattle.entries.proofs.Putting.{put-append, put_all}
use Rattle.panchanga.specs.TrueLongitudes.{first_edition}
use Rattle.records.specs.declared.DayRecord.{DayRecord}
use Rattle.records.specs.Records.{record_on}
use Rattle.blocks.specs.Blocks.{elements_of, day_numbers, record_bytes, day_bytes, days_bytes, days_in, checksum, front, sealed, block_of}
use Rattle.blocks.specs.Parts.{numbers_of}
use Rattle.blocks.proofs.Steps.{day-long}
use Rattle.blocks.proofs.Numbers.{Small, small-on}

-- four bytes in one number
pub packed : (t n y k : ℕ) → t < 256 → n < 256 → y < 256 → k < 256 → entry (t + 256 * n + 65536 * y + 16777216 * k) ≡ t ∷ n ∷ y ∷ k ∷ []
unfolding entry
packed t n y k a b c d =
    let x : ℕ = t + 256 * n + 65536 * y + 16777216 * k in
    let q₁ : x / 256 ≡ n + 256 * y + 65536 * k = omega arith in
    let q₂ : x / 65536 ≡ y + 256 * k = omega arith in
    let q₃ : x / 16777216 ≡ k = omega arith in
    let e₀ : x % 256 ≡ t = omega arith in
    let e₁ : x / 256 % 256 ≡ n = ap (λ (m : ℕ). m % 256) q₁ ∙ omega arith in
    let e₂ : x / 65536 % 256 ≡ y = ap (λ (m : ℕ). m % 256) q₂ ∙ omega arith in
    let e₃ : x / 16777216 % 256 ≡ k = ap (λ (m : ℕ). m % 256) q₃ ∙ omega arith in
    rw (e₀, e₁, e₂, e₃)

pub entries-append : (xs ys : List ℕ) → entries (xs ++ ys) ≡ entries xs ++ entries ys
unfolding entries
entries-append [] ys = refl
entries-append (x ∷ xs) ys = ap (λ (t : List ℕ). entry x ++ t) (entries-append xs ys) ∙ sym (append_assoc (entry x) (entries xs) (entries ys))

-- a day's bytes are its numbers'
pub day-entries : (n : ℕ) → entries (day_numbers n) ≡ day_bytes n
unfolding day_numbers day_bytes record_bytes elements_of
day-entries n =
    let r : DayRecord = record_on first_edition n in
    let s : Small r = small-on n in
    let split : r.day ∷ (r.longitudes ++ (r.sun ∷ r.moon ∷ elements_of r ∷ [])) ≡ (r.day ∷ (r.longitudes ++ (r.sun ∷ r.moon ∷ []))) ++ (elements_of r ∷ []) = ap (λ (t : List ℕ). r.day ∷ t) (sym (append_assoc r.longitudes (r.sun ∷ r.moon ∷ []) (elements_of r ∷ []))) in
    ap entries split
    ∙ entries-snoc (r.day ∷ (r.longitudes ++ (r.sun ∷ r.moon ∷ []))) (elements_of r)
    ∙ ap (λ (t : List ℕ). entries (r.day ∷ (r.longitudes ++ (r.sun ∷ r.moon ∷ []))) ++ t)
    (packed r.tithi r.nakshatra r.yoga r.karana (omega (arith, s.tithi)) (omega (arith, s.nakshatra)) (omega (arith, s.yoga)) (omega (arith, s.karana)))

pub days-entries : (ds : List ℕ) → entries (numbers_of ds) ≡ days_bytes ds
unfolding entries numbers_of days_bytes
days-entries [] = refl
days-entries (d ∷ ds) = entries-append (day_numbers d) (numbers_of ds) ∙ ap₂ ◌++◌ (day-entries d) (days-entries ds)

zero-entries : (m : ℕ) → entries (replicate m 0) ≡ replicate (4 * m) 0
unfolding entries entry
zero-entries zero = refl
zero-entries (suc m) =
    let four : 4 * suc m ≡ suc (suc (suc (suc (4 * m)))) = omega arith in
    rw (four, zero-entries m)

pub numbers-long : (day n : ℕ) → length (numbers_of (days_from day n)) ≡ 13 * n
unfolding numbers_of days_from
numbers-long day zero = refl
numbers-long day (suc n) = length-append (day_numbers day) (numbers_of (days_from (suc day) n)) ∙ omega (arith, day-long day, numbers-long (suc day) n)

pub few : (count index : ℕ) → days_in count index ≤ 9
unfolding days_in
few count index = omega arith

-- a block's numbers but for its checksum
abbrev pub numbers : ℕ → ℕ → ℕ → List ℕ
numbers first count index =
    index ∷ count ∷ (numbers_of (days_from (first + 9 * index) (days_in count index)) ++ replicate (127 - (2 + 13 * days_in count index)) 0)

module _ (first count index : ℕ) where
  pub numbers-length : length (numbers first count index) ≡ 127
  numbers-length =
      let n : ℕ = days_in count index in
      let ds : List ℕ = numbers_of (days_from (first + 9 * index) n) in
      omega (
        arith,
        length-append ds (replicate (127 - (2 + 13 * n)) 0),
        numbers-long (first + 9 * index) n,
        length-replicate {A = ℕ} (127 - (2 + 13 * n)) 0,
        few count index,
      )

  pub front-entries : entries (numbers first count index) ≡ front first count index
  unfolding entries front
  front-entries =
      let n : ℕ = days_in count index in
      let ds : List ℕ = days_from (first + 9 * index) n in
      let many : 4 * (127 - (2 + 13 * n)) ≡ 52 * (9 - n) + 32 = omega (arith, few count index) in
      ap (λ (t : List ℕ). entry index ++ (entry count ++ t))
      (entries-append (numbers_of ds) (replicate (127 - (2 + 13 * n)) 0)
      ∙ ap₂ ◌++◌ (days-entries ds) (zero-entries (127 - (2 + 13 * n)) ∙ ap (λ (m : ℕ). replicate m 0) many ∙ sym (replicate-append-replicate (52 * (9 - n)) 32 0)))

  pub front_long : length (front first count index) ≡ 508
  front_long = sym (ap length front-entries) ∙ entries-length (numbers first count index) ∙ ap (λ (m : ℕ). 4 * m) numbers-length

  pub block-long : length (block_of first count index) ≡ 512
  unfolding block_of sealed entry
  block-long = length-append (front first count index) (entry (checksum (front first count index))) ∙ ap (λ (m : ℕ). m + 4) front_long

  -- the numbers put from the first on, and the sum behind them
  module _ (l : List ℕ) (h : 512 ≤ length l) where
    all-put :
        (l₃ l₄ : List ℕ) →
        l₃ ≡ with_entries_from (with_entry (with_entry l 0 index) 1 count) 2 (numbers_of (days_from (first + 9 * index) (days_in count index))) →
        l₄ ≡ with_entries_from l₃ (2 + 13 * days_in count index) (replicate (127 - (2 + 13 * days_in count index)) 0) →
        l₄ ≡ front first count index ++ drop 508 l
    unfolding with_entries_from
    all-put l₃ l₄ e f =
        let n : ℕ = days_in count index in
        let ds : List ℕ = numbers_of (days_from (first + 9 * index) n) in
        let zs : List ℕ = replicate (127 - (2 + 13 * n)) 0 in
        let at : 2 + 13 * n ≡ 2 + length ds = omega (arith, numbers-long (first + 9 * index) n) in
        f
        ∙ ap₂ (λ (t : List ℕ) (k : ℕ). with_entries_from t k zs) e at
        ∙ sym (put-append (with_entry (with_entry l 0 index) 1 count) 2 ds zs)
        ∙ put_all (numbers first count index) l (omega (arith, numbers-length))
        ∙ ap₂ (λ (s : List ℕ) (k : ℕ). s ++ drop (4 * k) l) front-entries numbers-length

    pub block-put :
        (l₁ l₂ l₃ l₄ l₅ : List ℕ) (n sum : ℕ) →
        n ≡ days_in count index →
        l₁ ≡ with_entry l 0 index →
        l₂ ≡ with_entry l₁ 1 count →
        l₃ ≡ with_entries_from l₂ 2 (numbers_of (days_from (first + 9 * index) n)) →
        l₄ ≡ with_entries_from l₃ (2 + 13 * n) (replicate (127 - (2 + 13 * n)) 0) →
        sum ≡ checksum (take 508 l₄) →
        l₅ ≡ with_entry l₄ 127 sum →
        l₅ ≡ block_of first count index ++ drop 512 l
    unfolding block_of sealed
    block-put l₁ l₂ l₃ l₄ l₅ n sum d e₁ e₂ e₃ e₄ s e₅ =
        let laid : l₄ ≡ front first count index ++ drop 508 l =
        all-put l₃ l₄
        (e₃ ∙ ap₂ (λ (t : List ℕ) (m : ℕ). with_entries_from t 2 (numbers_of (days_from (first + 9 * index) m))) (e₂ ∙ ap (λ (t : List ℕ). with_entry t 1 count) e₁) d)
        (e₄ ∙ ap (λ (m : ℕ). with_entries_from l₃ (2 + 13 * m) (replicate (127 - (2 + 13 * m)) 0)) d) in
        let total : sum ≡ checksum (front first count index) = s ∙ ap checksum (ap (take 508) laid ∙ take_at (front first count index) (drop 508 l) 508 front_long) in
        e₅
        ∙ entries_next (numbers first count index) sum l₄ l 127 numbers-length (omega arith) (laid ∙ ap (λ (t : List ℕ). t ++ drop 508 l) (sym front-entries))
        ∙ ap (λ (t : List ℕ). t ++ drop 512 l)
        (entries-snoc (numbers first count index) sum ∙ ap₂ (λ (t : List ℕ) (x : ℕ). t ++ entry x) front-entries total)

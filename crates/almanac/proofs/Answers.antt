-- What is answered, case by case: a span's bytes, a file or a block written or refused, a file's days read or refused.
-- Assumes nothing.
use Prim.Native.Nat.{ℕ, zero, suc, ◌+◌, ◌-◌, ◌*◌, ◌≤◌, ◌<◌}
use mathlib.Core.Path.{◌≡◌, refl, ap, ap₂, sym, ◌∙◌}
use mathlib.Core.Bool.{Bool, true, false, cond, ◌&&◌, false≢true, true≢false}
use mathlib.Core.List.{List, ◌++◌}
use native.Mathlib.Omega.{arith}
use lib.Dec.{leb, ltb, eqb}
use lib.ListN.{length, take, drop}
use lib.Seq.{drop-drop}
use borrow.Author.Tests.{le-leb, lt-leb, lt-ltb, le-ltb, eq-eqb, ne_eqb, eqb-true, leb-true}
use Rattle.std.specs.Prelude.{Result, Ok, Err, is_ok}
use Rattle.days.specs.declared.refusal.Refusal.{Refusal}
use Rattle.days.specs.declared.refusal.Refusal.TheVariants.{NoSuchDate, OutOfRange, BadInput, NoSuchWeekday, LastBeforeFirst, BadCondition, ListTooShort, NoExtraMonth, BadLength, BadChecksum, BadIndex, NotZero, BadDay, BadEdition, BadLine, NoSuchBody}
use Rattle.days.specs.Refusals.{result_number, and_then}
use Rattle.days.specs.Days.{check_span, days_from}
use Rattle.days.proofs.Laws.{Span, checked, over-span, over-refused}
use Rattle.entries.specs.declared.NotPut.{NotPut}
use Rattle.entries.specs.declared.NotPut.TheVariants.{Refused, TooShort}
use Rattle.entries.specs.Entries.{capacity, entry_day, entry_at, with_entry, with_entries_from}
use Rattle.entries.specs.Told.{put_if, put_number}
use Rattle.entries.proofs.Putting.{put_all}
use Rattle.entries.proofs.Told.{not-put, put-short, put-done, span-number, refused-number, over-given}
use Rattle.blocks.specs.Blocks.{days_in, block_of, block_refusal}
use Rattle.blocks.proofs.Steps.{entry_found}
use Rattle.blocks.proofs.Laws.{Sound, sound, held-days}
use Rattle.almanac.specs.declared.Reader.{Reader}
use Rattle.almanac.specs.declared.Reading.{Reading}
use Rattle.almanac.specs.Files.{blocks_for, bytes_for, span_days, bytes_needed, writing_result, writing_of, file_after, block_result, block_written}
use Rattle.almanac.specs.Reading.{the_days, no_days, count_in, first_in, length_holds, first_bad, days_unless, reading_of, count_read, reading_result, listing_of, list_after, opened, taken, ended, fault_at}
use Rattle.almanac.specs.Parts.{with_file}

-- what is not refused by its length has another number than 9
other-number : (r : Refusal) → (r ≡ BadLength → ⊥) → eqb (result_number {A = Reading} (Err r)) 9 ≡ false
unfolding result_number
other-number NoSuchDate h = refl
other-number OutOfRange h = refl
other-number BadInput h = refl
other-number NoSuchWeekday h = refl
other-number LastBeforeFirst h = refl
other-number BadCondition h = refl
other-number ListTooShort h = refl
other-number NoExtraMonth h = refl
other-number BadLength h = absurd (h refl)
other-number BadChecksum h = refl
other-number BadIndex h = refl
other-number NotZero h = refl
other-number BadDay h = refl
other-number BadEdition h = refl
other-number BadLine h = refl
other-number NoSuchBody h = refl

another : (a : Result Reading Refusal) → (Err BadLength ≡ a → ⊥) → eqb (result_number a) 9 ≡ false
unfolding result_number
another (Ok r) h = refl
another (Err r) h = other-number r (λ e. h (cc))

module _ (first last : ℕ) where
  pub needed-refused : {r : Refusal} → Err r ≡ check_span first last → Err r ≡ bytes_needed first last
  unfolding bytes_needed
  needed-refused e = over-refused first last (Ok (bytes_for (span_days first last))) e

  pub needed-given : Ok tt ≡ check_span first last → Ok (bytes_for (span_days first last)) ≡ bytes_needed first last
  unfolding bytes_needed
  needed-given e = sym (over-span (Ok (bytes_for (span_days first last))) (checked first last e))

  -- and back
  pub record Needed (n : ℕ) : Type 0 where
    pub span : Span first last
    pub bytes : n ≡ bytes_for (span_days first last)

  pub needed : {n : ℕ} → Ok n ≡ bytes_needed first last → Needed n
  unfolding bytes_needed
  needed {n} e =
      let m = over-given first last (Ok (bytes_for (span_days first last))) e in
      record { span = m.span; bytes = (cc m.given) }

  -- what is told of the writing has the number of the result
  pub writing-number : (room : ℕ) → put_number (writing_of first last room) ≡ writing_result first last room
  unfolding writing_of bytes_needed writing_result
  writing-number room = span-number first last (bytes_for (span_days first last)) room

  module _ (l : List ℕ) where
    -- what is handed back, and the bytes after it
    abbrev pub Written : Result ℕ NotPut → List ℕ → Type 0
    Written done after = (done ≡ writing_of first last (length l)) × (after ≡ file_after first last l)

    pub write-refused : {r : Refusal} → Err r ≡ bytes_needed first last → Written (Err (Refused r)) l
    unfolding writing_of file_after put_number
    write-refused {r} e =
        let told : Err (Refused r) ≡ writing_of first last (length l) = not-put _ _ e in
        (told, rw (← writing-number (length l), ← told, refused-number r))

    module _ {n : ℕ} (e : Ok n ≡ bytes_needed first last) where
      pub write-short : length l < n → Written (Err (TooShort n)) l
      unfolding writing_of file_after put_number
      write-short h =
          let told : Err (TooShort n) ≡ writing_of first last (length l) = put-short _ _ e h in
          (told, rw (← writing-number (length l), ← told))

      pub write_done : (m : List ℕ) → n ≤ length l → m ≡ with_file first (span_days first last) l → Written (Ok n) m
      unfolding writing_of file_after put_number
      write_done m h w =
          let told : Ok n ≡ writing_of first last (length l) = put-done _ _ e h in
          (told, rw (← writing-number (length l), ← told) w)

  module _ (index : ℕ) (l : List ℕ) where
    -- the result for one block, and the bytes after it
    abbrev pub Block : Result (Unit {0}) Refusal → List ℕ → Type 0
    Block result after = (result ≡ block_result first last index (length l)) × (after ≡ block_written first last index l)

    pub block_refused : {r : Refusal} → Err r ≡ check_span first last → Block (Err r) l
    unfolding block_result block_written
    block_refused {r} e =
        let told : Err r ≡ block_result first last index (length l) = over-refused first last _ e in
        (told, rw (← told))

    module _ (e : Ok tt ≡ check_span first last) where
      inside : block_result first last index (length l) ≡ cond (ltb index (blocks_for (span_days first last))) (cond (leb 512 (length l)) (Ok tt) (Err ListTooShort)) (Err OutOfRange)
      unfolding block_result
      inside = over-span _ (checked first last e)

      pub block-behind : blocks_for (span_days first last) ≤ index → Block (Err OutOfRange) l
      unfolding block_written
      block-behind h = let t = le-ltb index (blocks_for (span_days first last)) h in (rw (inside, t), rw (inside, t))

      pub block-short : index < blocks_for (span_days first last) → length l < 512 → Block (Err ListTooShort) l
      unfolding block_written
      block-short h k =
          let t = lt-ltb index (blocks_for (span_days first last)) h in
          let u = lt-leb 512 (length l) k in
          (rw (inside, t, u), rw (inside, t, u))

      pub block-done : (m : List ℕ) → index < blocks_for (span_days first last) → 512 ≤ length l → m ≡ block_of first (span_days first last) index ++ drop 512 l → Block (Ok tt) m
      unfolding block_written
      block-done m h k w =
          let t = lt-ltb index (blocks_for (span_days first last)) h in
          let u = le-leb 512 (length l) k in
          (rw (inside, t, u), rw (inside, t, u) w)

-- a file that is read: its length holds, no block is bad, and these are its days
pub record Whole (f : List ℕ) : Type 0 where
  pub long : 512 ≤ length f
  pub length-is : length f ≡ 512 * blocks_for (count_in f)
  pub none-bad : first_bad (first_in f) (count_in f) 0 (blocks_for (count_in f)) f ≡ Ok tt
  pub days-are : reading_of f ≡ the_days (first_in f) (count_in f)

pub whole : (f : List ℕ) {r : Reading} → Ok r ≡ reading_of f → Whole f
unfolding reading_of length_holds days_unless
whole f e = go (leb 512 (length f)) (eqb (length f) (512 * blocks_for (count_in f))) (first_bad (first_in f) (count_in f) 0 (blocks_for (count_in f)) f) refl refl refl e
  where
    go :
        {r : Reading} (a b : Bool) (sound : Result (Unit {0}) Refusal) →
        leb 512 (length f) ≡ a →
        eqb (length f) (512 * blocks_for (count_in f)) ≡ b →
        first_bad (first_in f) (count_in f) 0 (blocks_for (count_in f)) f ≡ sound →
        Ok r ≡ cond (a && b) (and_then sound (λ _. the_days (first_in f) (count_in f))) (no_days BadLength) →
        Whole f
    go true true (Ok tt) h k i e = record { long = leb-true _ _ h; length-is = eqb-true _ _ k; none-bad = i; days-are = rw (h, k, i) }
    go true true (Err q) h k i e = absurd cc
    go true false sound h k i e = absurd cc
    go false b sound h k i e = absurd cc

-- each of its blocks is sound
good-at : (first count i k : ℕ) (f : List ℕ) → first_bad first count i k f ≡ Ok tt → (j : ℕ) → j < k → block_refusal first count (i + j) (take 512 (drop (512 * j) f)) ≡ Ok tt
unfolding first_bad
good-at first count i zero f e j h = absurd (omega arith)
good-at first count i (suc k) f e j h = go (block_refusal first count i (take 512 f)) refl e (good-at first count (suc i) k (drop 512 f)) j h
  where
    go :
        (t : Result (Unit {0}) Refusal) →
        block_refusal first count i (take 512 f) ≡ t →
        and_then t (λ _. first_bad first count (suc i) k (drop 512 f)) ≡ Ok tt →
        (first_bad first count (suc i) k (drop 512 f) ≡ Ok tt → (j : ℕ) → j < k → block_refusal first count (suc i + j) (take 512 (drop (512 * j) (drop 512 f))) ≡ Ok tt) →
        (j : ℕ) →
        j < suc k →
        block_refusal first count (i + j) (take 512 (drop (512 * j) f)) ≡ Ok tt
    go (Ok tt) t e deeper zero h = let here : i + 0 ≡ i = omega arith in ap (λ (m : ℕ). block_refusal first count m (take 512 f)) here ∙ t
    go (Ok tt) t e deeper (suc j) h =
        let at : i + suc j ≡ suc i + j = omega arith in
        let off : 512 * suc j ≡ 512 + 512 * j = omega arith in
        ap₂ (λ (m : ℕ) (s : List ℕ). block_refusal first count m (take 512 s)) at (ap (λ (m : ℕ). drop m f) off ∙ sym (drop-drop (512 * j) 512 f)) ∙ deeper e j (omega arith)
    go (Err r) t e deeper j h = absurd cc

pub good-block : (first count k : ℕ) (f : List ℕ) → first_bad first count 0 k f ≡ Ok tt → (j : ℕ) → j < k → block_refusal first count j (take 512 (drop (512 * j) f)) ≡ Ok tt
good-block first count k f e j h =
    let here : 0 + j ≡ j = omega arith in
    sym (ap (λ (m : ℕ). block_refusal first count m (take 512 (drop (512 * j) f))) here) ∙ good-at first count 0 k f e j h

-- and its days are days
pub days-fit : (f : List ℕ) → Whole f → first_in f + count_in f ≤ 401600
unfolding days_in
days-fit f w =
    let first : ℕ = first_in f in
    let count : ℕ = count_in f in
    let last : ℕ = blocks_for count - 1 in
    let s : Sound first count last (take 512 (drop (512 * last) f)) = sound first count last (take 512 (drop (512 * last) f)) (good-block first count (blocks_for count) f w.none-bad last (omega (arith, w.long, w.length-is))) in
    let h = held-days (take 512 (drop (512 * last) f)) 0 (first + 9 * last) (days_in count last) s.held (omega (arith, w.long, w.length-is)) in
    omega (arith, h, w.long, w.length-is)

pub days-long : (n m : ℕ) → length (days_from n m) ≡ m
unfolding days_from
days-long n zero = refl
days-long n (suc m) = ap suc (days-long (suc n) m)

module _ (f l : List ℕ) where
  -- what is handed back, and the list after it
  abbrev pub Listed : Result ℕ NotPut → List ℕ → Type 0
  Listed done after = (done ≡ listing_of f (capacity l)) × (after ≡ list_after f l)

  pub read-refused : {r : Refusal} → Err r ≡ reading_of f → Listed (Err (Refused r)) l
  unfolding listing_of list_after reading_result put_number
  read-refused {r} e =
      let none : Err r ≡ count_read (reading_of f) = rw (← e) in
      let told : Err (Refused r) ≡ put_if (count_read (reading_of f)) (capacity l) = not-put _ _ none in
      (told, rw (← told, refused-number r))

  module _ {r : Reading} (e : Ok r ≡ reading_of f) where
    count : Ok r.count ≡ count_read (reading_of f)
    count = rw (← e)

    pub read_short : capacity l < r.count → Listed (Err (TooShort r.count)) l
    unfolding listing_of list_after reading_result put_number
    read_short h =
        let told : Err (TooShort r.count) ≡ put_if (count_read (reading_of f)) (capacity l) = put-short _ _ count h in
        (told, rw (← told))

    pub fit : r.first + r.count ≤ 401600
    fit =
        let w : Whole f = whole f e in
        let a : Ok r ≡ the_days (first_in f) (count_in f) = e ∙ w.days-are in
        let b : r ≡ record { first = first_in f; count = count_in f } = cc in
        omega (arith, ap (λ (x : Reading). x.first) b, ap (λ (x : Reading). x.count) b, days-fit f w)

    pub read_done : (m : List ℕ) → r.count ≤ capacity l → m ≡ with_entries_from l 0 (days_from r.first r.count) → Listed (Ok r.count) m
    unfolding listing_of list_after reading_result put_number
    read_done m h w =
        let told : Ok r.count ≡ put_if (count_read (reading_of f)) (capacity l) = put-done _ _ count h in
        (told, rw (← told, ← e) (w ∙ put_all (days_from r.first r.count) l (omega (arith, days-long r.first r.count))))

-- the reader's state, case by case
module _ (r : Reader) where
  pub ended-broken : r.broken ≡ true → ended r ≡ no_days BadLength
  unfolding ended
  ended-broken u = rw u

  module _ (u : r.broken ≡ false) where
    pub ended-none : r.blocks ≡ 0 → ended r ≡ no_days BadLength
    unfolding ended
    ended-none z = rw (u, eq-eqb r.blocks 0 z)

    module _ (n : r.blocks ≡ 0 → ⊥) (k : ℕ) (e : k ≡ blocks_for r.count) where
      pub ended-other : (r.blocks ≡ k → ⊥) → ended r ≡ no_days BadLength
      unfolding ended
      ended-other d = rw (u, ne_eqb r.blocks 0 n, ne_eqb r.blocks (blocks_for r.count) (λ z. d (z ∙ sym e)))

      pub ended-whole : r.blocks ≡ k → ended r ≡ days_unless r.sound r.first r.count
      unfolding ended
      ended-whole d = rw (u, ne_eqb r.blocks 0 n, eq-eqb r.blocks (blocks_for r.count) (d ∙ e))

  pub fault-length : Err BadLength ≡ ended r → r.blocks ≡ fault_at r
  unfolding fault_at result_number
  fault-length e = rw (← e)

  pub fault-block : (Err BadLength ≡ ended r → ⊥) → r.block ≡ fault_at r
  unfolding fault_at
  fault-block h = rw (another (ended r) h)

  module _ (b : List ℕ) where
    pub opened-now : (x y : ℕ) → r.blocks ≡ 0 → 512 ≤ length b → Ok x ≡ entry_at b 1 → Ok y ≡ entry_at b 2 → record { broken = r.broken; blocks = r.blocks; count = x; first = y; sound = r.sound; block = r.block } ≡ opened r b
    unfolding opened
    opened-now x y z h e f =
        let x-is : x ≡ entry_day b 1 = cc (entry_found b 1 (omega arith)) in
        let y-is : y ≡ entry_day b 2 = cc (entry_found b 2 (omega arith)) in
        rw (eq-eqb r.blocks 0 z, x-is, y-is)

    pub taken-checked : (x : Result (Unit {0}) Refusal) → is_ok r.sound ≡ true → x ≡ block_refusal r.first r.count r.blocks b → record { broken = r.broken; blocks = r.blocks + 1; count = r.count; first = r.first; sound = x; block = r.blocks } ≡ taken r b
    unfolding taken
    taken-checked x t e = go r.sound t
      where
        go :
            (s : Result (Unit {0}) Refusal) →
            is_ok s ≡ true →
            ◌≡◌ {A = Reader} (record { broken = r.broken; blocks = r.blocks + 1; count = r.count; first = r.first; sound = x; block = r.blocks })
            (record { broken = r.broken; blocks = r.blocks + 1; count = r.count; first = r.first; sound = and_then s (λ _. block_refusal r.first r.count r.blocks b); block = cond (is_ok s) r.blocks r.block })
        go (Ok tt) t = ap (λ (y : Result (Unit {0}) Refusal). record { broken = r.broken; blocks = r.blocks + 1; count = r.count; first = r.first; sound = y; block = r.blocks }) e
        go (Err q) t = absurd (false≢true t)

    pub taken-passed : is_ok r.sound ≡ false → record { broken = r.broken; blocks = r.blocks + 1; count = r.count; first = r.first; sound = r.sound; block = r.block } ≡ taken r b
    unfolding taken
    taken-passed t = go r.sound t
      where
        go :
            (s : Result (Unit {0}) Refusal) →
            is_ok s ≡ false →
            ◌≡◌ {A = Reader} (record { broken = r.broken; blocks = r.blocks + 1; count = r.count; first = r.first; sound = s; block = r.block })
            (record { broken = r.broken; blocks = r.blocks + 1; count = r.count; first = r.first; sound = and_then s (λ _. block_refusal r.first r.count r.blocks b); block = cond (is_ok s) r.blocks r.block })
        go (Ok tt) t = absurd (true≢false t)
        go (Err q) t = refl

-- days put one after another into a list
abbrev pub DaysPut : ℕ → ℕ → List ℕ → List ℕ → ℕ → Type 0
DaysPut first count l₀ l i = with_entries_from l i (days_from (first + i) (count - i)) ≡ with_entries_from l₀ 0 (days_from first count)

pub put-start : (first count : ℕ) (l : List ℕ) → DaysPut first count l l 0
put-start first count l =
    let here : first + 0 ≡ first = omega arith in
    let all : count - 0 ≡ count = omega arith in
    ap₂ (λ (d n : ℕ). with_entries_from l 0 (days_from d n)) here all

pub put_next : (first count i : ℕ) (l₀ l m : List ℕ) → i < count → m ≡ with_entry l i (first + i) → DaysPut first count l₀ l i → DaysPut first count l₀ m (i + 1)
unfolding with_entries_from days_from
put_next first count i l₀ l m h e inv =
    let one : count - i ≡ suc (count - (i + 1)) = omega arith in
    let later : first + (i + 1) ≡ suc (first + i) = omega arith in
    ap₂ (λ (t : List ℕ) (d : ℕ). with_entries_from t (i + 1) (days_from d (count - (i + 1)))) e later ∙ sym (ap (λ (n : ℕ). with_entries_from l i (days_from (first + i) n)) one) ∙ inv

pub put-end : (first count i : ℕ) (l₀ l : List ℕ) → count ≤ i → DaysPut first count l₀ l i → l ≡ with_entries_from l₀ 0 (days_from first count)
unfolding with_entries_from days_from
put-end first count i l₀ l h inv = let none : count - i ≡ 0 = omega arith in sym (ap (λ (n : ℕ). with_entries_from l i (days_from (first + i) n)) none) ∙ inv

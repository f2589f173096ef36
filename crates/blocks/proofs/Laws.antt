-- What paper 02 says of a block: what is put is sound, and nothing else is; and a block whose checksum holds has none
-- that holds where one byte, wherever it stands, is another.
-- By the bytes of a number of four and back, and by the sum, which changes by the byte's difference times its position.
-- Assumes nothing.
use Prim.Native.Nat.{ℕ, zero, suc, ◌+◌, ◌-◌, ◌*◌, ◌≤◌, ◌<◌}
use mathlib.Core.Path.{◌≡◌, refl, ap, ap₂, sym, ◌∙◌}
use mathlib.Core.Bool.{Bool, true, false, cond, ◌&&◌, false≢true}
use mathlib.Core.List.{List, [], ◌∷◌, ◌++◌, append_assoc, append-nil}
use native.Mathlib.Omega.{arith}
use native.Mathlib.Decide.{dec_le}
use native.Mathlib.Nat.{le_of_mul-le-mul_right}
use lib.Dec.{leb, eqb}
use lib.ListN.{length, get_or, take, drop, set, replicate, take-append-drop, length-append, length-drop, length-replicate, replicate-append-replicate, get_or-append}
use lib.Seq.{take-add, take_all, drop-drop, length-take-le, take-set-le, take-set-lt, get_or-take, get_or-set_same, get_or-set_other, get_or-append_seam, get_or-append-add, get_or_at, take_at, drop_at}
use borrow.Author.Tests.{leb-true, eqb-true, eq-eqb, ne_eqb, le-leb}
use Rattle.std.specs.Prelude.{Result, Ok, Err}
use Rattle.days.specs.declared.refusal.Refusal.{Refusal}
use Rattle.days.specs.declared.refusal.Refusal.TheVariants.{BadLength, BadChecksum, BadIndex, NotZero, BadDay}
use Rattle.days.specs.Days.{last_day, days_from, pair_at}
use Rattle.entries.specs.Entries.{entry, entries, entry_day}
use Rattle.blocks.specs.Blocks.{elements_of, day_numbers, days_bytes, days_in, weighted, checksum, front, sealed, block_of, all_zero, checksum_holds, has_numbers, day_holds, days_hold, block_refusal}
use Rattle.entries.proofs.Laws.{entry_length, entries-length, entries-snoc, read-entry}
use Rattle.longitudes.proofs.Table.{longitude-small, nine-at}
use Rattle.panchanga.proofs.Bounds.{sun-small, moon-small}
use Rattle.records.specs.Records.{record_on}
use Rattle.blocks.specs.Parts.{numbers_of}
use Rattle.blocks.proofs.Steps.{day-long, product_small}
use Rattle.blocks.proofs.Laying.{packed, day-entries, days-entries, few, numbers, numbers-long, numbers-length, front-entries, front_long, block-long}
use Rattle.blocks.proofs.Numbers.{Small, small-on, longitudes-long}
use Rattle.blocks.proofs.Answers.{days-fit, good-block}

both : (a b : Bool) → (a && b) ≡ true → (a ≡ true) × (b ≡ true)
both true b e = (refl, e)
both false b e = absurd (false≢true e)

-- a block that is not refused
pub record Sound (first count index : ℕ) (b : List ℕ) : Type 0 where
  pub whole : 512 ≤ length b
  pub summed : checksum_holds b ≡ true
  pub index_is : entry_day b 0 ≡ index
  pub count-is : entry_day b 1 ≡ count
  pub zeros : all_zero (take (508 - (8 + 52 * days_in count index)) (drop (8 + 52 * days_in count index) b)) ≡ true
  pub held : days_hold b 0 (first + 9 * index) (days_in count index) ≡ true

pub sound : (first count index : ℕ) (b : List ℕ) → block_refusal first count index b ≡ Ok tt → Sound first count index b
unfolding block_refusal
sound first count index b e =
    go
    (leb 512 (length b))
    (checksum_holds b)
    (eqb (entry_day b 0) index && eqb (entry_day b 1) count)
    (all_zero (take (508 - (8 + 52 * days_in count index)) (drop (8 + 52 * days_in count index) b)))
    (days_hold b 0 (first + 9 * index) (days_in count index))
    refl
    refl
    refl
    refl
    refl
    e
  where
    go :
        (a c i z d : Bool) →
        leb 512 (length b) ≡ a →
        checksum_holds b ≡ c →
        (eqb (entry_day b 0) index && eqb (entry_day b 1) count) ≡ i →
        all_zero (take (508 - (8 + 52 * days_in count index)) (drop (8 + 52 * days_in count index) b)) ≡ z →
        days_hold b 0 (first + 9 * index) (days_in count index) ≡ d →
        ◌≡◌ {A = Result (Unit {0}) Refusal} (cond a (cond c (cond i (cond z (cond d (Ok tt) (Err BadDay)) (Err NotZero)) (Err BadIndex)) (Err BadChecksum)) (Err BadLength)) (Ok tt) →
        Sound first count index b
    go true true true true true h k i z d e =
        let n = both (eqb (entry_day b 0) index) (eqb (entry_day b 1) count) i in
        record { whole = leb-true _ _ h; summed = k; index_is = eqb-true _ _ n.0; count-is = eqb-true _ _ n.1; zeros = z; held = d }
    go true true true true false h k i z d e = absurd (cc)
    go true true true false t h k i z d e = absurd (cc)
    go true true false t u h k i z d e = absurd (cc)
    go true false t u v h k i z d e = absurd (cc)
    go false t u v w h k i z d e = absurd (cc)

-- the days that places hold are days
pub held-days : (b : List ℕ) (j d n : ℕ) → days_hold b j d n ≡ true → 1 ≤ n → d + n ≤ 401600
unfolding days_hold day_holds
held-days b j d zero e h = absurd (omega arith)
held-days b j d (suc zero) e h =
    let one = both (day_holds b j d) (days_hold b (suc j) (suc d) 0) e in
    let day = both (leb d last_day) (has_numbers b (2 + 13 * j) (day_numbers d)) one.0 in
    omega (arith, leb-true d last_day day.0)
held-days b j d (suc (suc n)) e h =
    let one = both (day_holds b j d) (days_hold b (suc j) (suc d) (suc n)) e in
    omega (arith, held-days b (suc j) (suc d) (suc n) one.1 (omega arith))

-- the first place has the number of its day
pub held_first : (b : List ℕ) (d n : ℕ) → days_hold b 0 d n ≡ true → 1 ≤ n → entry_day b 2 ≡ d
unfolding days_hold day_holds has_numbers day_numbers record_on
held_first b d zero e h = absurd (omega arith)
held_first b d (suc n) e h =
    let one = both (day_holds b 0 d) (days_hold b 1 (suc d) n) e in
    let day = both (leb d last_day) (has_numbers b 2 (day_numbers d)) one.0 in
    eqb-true (entry_day b 2) d (both (eqb (entry_day b 2) d) _ day.1).0

-- every element is a byte, as in every list of a byte slice
abbrev pub Bytes : List ℕ → Type 0
Bytes b = (i : ℕ) → get_or b i 0 < 256

four-taken : (b : List ℕ) (m : ℕ) → m + 4 ≤ length b → take 4 (drop m b) ≡ get_or b m 0 ∷ get_or b (m + 1) 0 ∷ get_or b (m + 2) 0 ∷ get_or b (m + 3) 0 ∷ []
four-taken [] zero h = absurd (omega arith)
four-taken (x ∷ []) zero h = absurd (omega arith)
four-taken (x ∷ y ∷ []) zero h = absurd (omega arith)
four-taken (x ∷ y ∷ z ∷ []) zero h = absurd (omega arith)
four-taken (x ∷ y ∷ z ∷ w ∷ b) zero h = refl
four-taken [] (suc m) h = absurd (omega arith)
four-taken (x ∷ b) (suc m) h =
    let one : suc m + 1 ≡ suc (m + 1) = omega arith in
    let two : suc m + 2 ≡ suc (m + 2) = omega arith in
    let three : suc m + 3 ≡ suc (m + 3) = omega arith in
    rw (one, two, three) (four-taken b m (omega arith))

-- four bytes are the entry of their number
quad : (b : List ℕ) → Bytes b → (k : ℕ) → 4 * k + 4 ≤ length b → take 4 (drop (4 * k) b) ≡ entry (entry_day b k)
unfolding entry_day
quad b u k h = four-taken b (4 * k) h ∙ sym (packed _ _ _ _ (u (4 * k)) (u (4 * k + 1)) (u (4 * k + 2)) (u (4 * k + 3)))

numbers-bytes : (b : List ℕ) → Bytes b → (k : ℕ) (xs : List ℕ) → 4 * (k + length xs) ≤ length b → has_numbers b k xs ≡ true → take (4 * length xs) (drop (4 * k) b) ≡ entries xs
unfolding has_numbers entries
numbers-bytes b u k [] h e = refl
numbers-bytes b u k (x ∷ xs) h e =
    let two = both (eqb (entry_day b k) x) (has_numbers b (suc k) xs) e in
    let more : 4 * suc (length xs) ≡ 4 + 4 * length xs = omega arith in
    let later : 4 * k + 4 ≡ 4 * suc k = omega arith in
    ap (λ (m : ℕ). take m (drop (4 * k) b)) more
    ∙ take-add 4 (4 * length xs) (drop (4 * k) b)
    ∙ ap₂ ◌++◌ (quad b u k (omega arith) ∙ ap entry (eqb-true _ _ two.0))
    (ap (take (4 * length xs)) (drop-drop 4 (4 * k) b ∙ ap (λ (m : ℕ). drop m b) later) ∙ numbers-bytes b u (suc k) xs (omega arith) two.1)

days-bytes : (b : List ℕ) → Bytes b → (j d n : ℕ) → 8 + 52 * (j + n) ≤ length b → days_hold b j d n ≡ true → take (52 * n) (drop (8 + 52 * j) b) ≡ days_bytes (days_from d n)
unfolding days_hold day_holds days_bytes days_from
days-bytes b u j d zero h e = refl
days-bytes b u j d (suc n) h e =
    let one = both (day_holds b j d) (days_hold b (suc j) (suc d) n) e in
    let day = both (leb d last_day) (has_numbers b (2 + 13 * j) (day_numbers d)) one.0 in
    let long : length (day_numbers d) ≡ 13 = day-long d in
    let more : 52 * suc n ≡ 52 + 52 * n = omega arith in
    let later : 8 + 52 * j + 52 ≡ 8 + 52 * suc j = omega arith in
    let bytes : 4 * length (day_numbers d) ≡ 52 = omega arith in
    let at : 4 * (2 + 13 * j) ≡ 8 + 52 * j = omega arith in
    ap (λ (m : ℕ). take m (drop (8 + 52 * j) b)) more
    ∙ take-add 52 (52 * n) (drop (8 + 52 * j) b)
    ∙ ap₂ ◌++◌
    (sym (ap₂ (λ (m a : ℕ). take m (drop a b)) bytes at) ∙ numbers-bytes b u (2 + 13 * j) (day_numbers d) (omega arith) day.1 ∙ day-entries d)
    (ap (take (52 * n)) (drop-drop 52 (8 + 52 * j) b ∙ ap (λ (m : ℕ). drop m b) later) ∙ days-bytes b u (suc j) (suc d) n (omega arith) one.1)

only-zeros : (xs : List ℕ) → all_zero xs ≡ true → xs ≡ replicate (length xs) 0
unfolding all_zero
only-zeros [] e = refl
only-zeros (x ∷ xs) e = let two = both (eqb x 0) (all_zero xs) e in ap₂ ◌∷◌ (eqb-true x 0 two.0) (only-zeros xs two.1)

-- NOTHING ELSE IS SOUND: the bytes are those that are put
module _ (first count index : ℕ) (b : List ℕ) (u : Bytes b) (l : length b ≡ 512) (s : Sound first count index b) where
  front-is : take 508 b ≡ front first count index
  unfolding front
  front-is =
      let n : ℕ = days_in count index in
      let small : n ≤ 9 = few count index in
      let used : ℕ = 8 + 52 * n in
      let rest : 508 - used ≡ 52 * (9 - n) + 32 = omega arith in
      let split : 500 ≡ 52 * n + (508 - used) = omega arith in
      let zs : take (508 - used) (drop used b) ≡ replicate (52 * (9 - n)) 0 ++ replicate 32 0 =
      only-zeros (take (508 - used) (drop used b)) s.zeros
      ∙ ap (λ (m : ℕ). replicate m 0) (length-take-le (508 - used) (drop used b) (omega (arith, length-drop used b)) ∙ rest)
      ∙ sym (replicate-append-replicate (52 * (9 - n)) 32 0) in
      take-add 4 504 b
      ∙ ap₂ ◌++◌ (quad b u 0 (omega arith) ∙ ap entry s.index_is)
      (take-add 4 500 (drop 4 b)
      ∙ ap₂ ◌++◌ (quad b u 1 (omega arith) ∙ ap entry s.count-is)
      (ap (take 500) (drop-drop 4 4 b)
      ∙ ap (λ (m : ℕ). take m (drop 8 b)) split
      ∙ take-add (52 * n) (508 - used) (drop 8 b)
      ∙ ap₂ ◌++◌ (days-bytes b u 0 (first + 9 * index) n (omega arith) s.held) (ap (take (508 - used)) (drop-drop (52 * n) 8 b) ∙ zs)))

  pub only-block : b ≡ block_of first count index
  unfolding block_of sealed checksum_holds
  only-block =
      sym (take-append-drop 508 b)
      ∙ ap₂ ◌++◌ front-is
      (sym (take_all 4 (drop 508 b) (omega (arith, length-drop 508 b)))
      ∙ quad b u 127 (omega arith)
      ∙ ap entry (eqb-true (entry_day b 127) (checksum (take 508 b)) s.summed ∙ ap checksum front-is))

-- ONE BYTE CHANGED: the sum changes by the difference times the position, and a checksum's own byte changes the
-- checksum
weighted-set : (p : ℕ) (l : List ℕ) (i v : ℕ) → i < length l → weighted p (set l i v) + get_or l i 0 * (p + i) ≡ weighted p l + v * (p + i)
unfolding weighted
weighted-set p [] i v h = absurd (omega arith)
weighted-set p (x ∷ l) zero v h = let z : p + 0 ≡ p = omega arith in rw z (omega arith)
weighted-set p (x ∷ l) (suc i) v h =
    let at : suc p + i ≡ p + suc i = omega arith in
    let deeper : weighted (suc p) (set l i v) + get_or l i 0 * (p + suc i) ≡ weighted (suc p) l + v * (p + suc i) = rw at at (weighted-set (suc p) l i v (omega arith)) in
    omega (arith, deeper)

cancel : (a b m : ℕ) → 0 < m → a * m ≡ b * m → a ≡ b
cancel a b m h e = let x : a ≤ b = le_of_mul-le-mul_right (omega arith) h in let y : b ≤ a = le_of_mul-le-mul_right (omega arith) h in omega arith

module _ (b : List ℕ) (v : ℕ) (l : length b ≡ 512) (w : entry_day b 127 ≡ checksum (take 508 b)) where
  in-front : (p : ℕ) → p < 508 → (v ≡ get_or b p 0 → ⊥) → entry_day (set b p v) 127 ≡ checksum (take 508 (set b p v)) → ⊥
  unfolding entry_day checksum
  in-front p h n e =
      let same : entry_day (set b p v) 127 ≡ entry_day b 127 =
      rw (
        get_or-set_other b p 508 v 0 (λ z. omega arith),
        get_or-set_other b p 509 v 0 (λ z. omega arith),
        get_or-set_other b p 510 v 0 (λ z. omega arith),
        get_or-set_other b p 511 v 0 (λ z. omega arith),
      ) in
      let sums : weighted 1 (set (take 508 b) p v) ≡ weighted 1 (take 508 b) = sym (ap (weighted 1) (take-set-lt 508 b p v h)) ∙ sym e ∙ same ∙ w in
      let old : get_or (take 508 b) p 0 ≡ get_or b p 0 = get_or-take 508 b p 0 h in
      let moved = weighted-set 1 (take 508 b) p v (omega (arith, length-take-le 508 b (omega arith))) in
      n (sym (cancel (get_or b p 0) v (1 + p) (omega arith) (omega (arith, moved, sums, ap (λ (x : ℕ). x * (1 + p)) old))))

  last-four : (p : ℕ) → entry_day (set b p v) 127 ≡ entry_day b 127 → get_or (set b p v) 508 0 + 256 * get_or (set b p v) 509 0 + 65536 * get_or (set b p v) 510 0 + 16777216 * get_or (set b p v) 511 0 ≡ get_or b 508 0 + 256 * get_or b 509 0 + 65536 * get_or b 510 0 + 16777216 * get_or b 511 0
  unfolding entry_day
  last-four p e = e

  behind : (p : ℕ) → 508 ≤ p → p < 512 → (v ≡ get_or b p 0 → ⊥) → entry_day (set b p v) 127 ≡ checksum (take 508 (set b p v)) → ⊥
  behind p h k n e = go (dec_le p 508) (dec_le p 509) (dec_le p 510)
    where
      same : get_or (set b p v) 508 0 + 256 * get_or (set b p v) 509 0 + 65536 * get_or (set b p v) 510 0 + 16777216 * get_or (set b p v) 511 0 ≡ get_or b 508 0 + 256 * get_or b 509 0 + 65536 * get_or b 510 0 + 16777216 * get_or b 511 0
      same = last-four p (e ∙ ap checksum (take-set-le 508 b p v h) ∙ sym w)

      hit : (q : ℕ) → p ≡ q → get_or (set b p v) q 0 ≡ v
      hit q z = ap (λ (i : ℕ). get_or (set b p v) i 0) (sym z) ∙ get_or-set_same b p v 0 (omega arith)

      was : (q : ℕ) → p ≡ q → get_or b q 0 ≡ get_or b p 0
      was q z = ap (λ (i : ℕ). get_or b i 0) (sym z)

      miss : (q : ℕ) → (q ≡ p → ⊥) → get_or (set b p v) q 0 ≡ get_or b q 0
      miss q z = get_or-set_other b p q v 0 z

      go : Dec (p ≤ 508) → Dec (p ≤ 509) → Dec (p ≤ 510) → ⊥
      go (yes a) c d =
          n (omega (arith, same, hit 508 (omega arith), was 508 (omega arith), miss 509 (λ z. omega arith), miss 510 (λ z. omega arith), miss 511 (λ z. omega arith)))
      go (no a) (yes c) d =
          n (omega (arith, same, hit 509 (omega arith), was 509 (omega arith), miss 508 (λ z. omega arith), miss 510 (λ z. omega arith), miss 511 (λ z. omega arith)))
      go (no a) (no c) (yes d) =
          n (omega (arith, same, hit 510 (omega arith), was 510 (omega arith), miss 508 (λ z. omega arith), miss 509 (λ z. omega arith), miss 511 (λ z. omega arith)))
      go (no a) (no c) (no d) =
          n (omega (arith, same, hit 511 (omega arith), was 511 (omega arith), miss 508 (λ z. omega arith), miss 509 (λ z. omega arith), miss 510 (λ z. omega arith)))

-- A CHANGED BYTE IS FOUND, wherever it stands
pub change-found : (b : List ℕ) (p v : ℕ) → length b ≡ 512 → p < 512 → (v ≡ get_or b p 0 → ⊥) → checksum_holds b ≡ true → checksum_holds (set b p v) ≡ false
unfolding checksum_holds
change-found b p v l h n e =
    let w : entry_day b 127 ≡ checksum (take 508 b) = eqb-true (entry_day b 127) (checksum (take 508 b)) e in
    ne_eqb (entry_day (set b p v) 127) (checksum (take 508 (set b p v))) (go (dec_le 508 p) w)
  where
    go : Dec (508 ≤ p) → entry_day b 127 ≡ checksum (take 508 b) → entry_day (set b p v) 127 ≡ checksum (take 508 (set b p v)) → ⊥
    go (yes k) w = behind b v l w p k h n
    go (no k) w = in-front b v l w p (omega arith) n

-- WHAT IS PUT IS SOUND
entries-bytes : (xs : List ℕ) → Bytes (entries xs)
unfolding entries entry
entries-bytes [] zero = omega arith
entries-bytes [] (suc i) = omega arith
entries-bytes (x ∷ xs) zero = omega arith
entries-bytes (x ∷ xs) (suc zero) = omega arith
entries-bytes (x ∷ xs) (suc (suc zero)) = omega arith
entries-bytes (x ∷ xs) (suc (suc (suc zero))) = omega arith
entries-bytes (x ∷ xs) (suc (suc (suc (suc i)))) = entries-bytes xs i

weighted-small : (p : ℕ) (xs : List ℕ) → Bytes xs → p + length xs ≤ 509 → weighted p xs ≤ 129540 * length xs
unfolding weighted
weighted-small p [] u h = omega arith
weighted-small p (x ∷ xs) u h = omega (arith, product_small x p (u 0) (omega arith), weighted-small (suc p) xs (λ i. u (suc i)) (omega arith))

-- numbers of 32 bits in a row are had
has-entries : (pre xs post l : List ℕ) → ((k : ℕ) → get_or xs k 0 < 4294967296) → has_numbers (entries (pre ++ (xs ++ post)) ++ l) (length pre) xs ≡ true
unfolding has_numbers
has-entries pre [] post l s = refl
has-entries pre (x ∷ xs) post l s =
    let all : List ℕ = pre ++ ((x ∷ xs) ++ post) in
    let here : get_or all (length pre) 0 ≡ x = get_or-append_seam pre x (xs ++ post) 0 in
    let long : length pre < length all = omega (arith, length-append pre ((x ∷ xs) ++ post)) in
    let read : entry_day (entries all ++ l) (length pre) ≡ x = read-entry all l (length pre) long (omega (arith, here, s 0)) ∙ here in
    let moved : pre ++ (x ∷ (xs ++ post)) ≡ (pre ++ (x ∷ [])) ++ (xs ++ post) = sym (append_assoc pre (x ∷ []) (xs ++ post)) in
    let one : suc (length pre) ≡ length (pre ++ (x ∷ [])) = omega (arith, length-append pre (x ∷ [])) in
    ap₂ ◌&&◌ (eq-eqb (entry_day (entries all ++ l) (length pre)) x read)
    (ap₂ (λ (t : List ℕ) (k : ℕ). has_numbers (entries t ++ l) k xs) moved one ∙ has-entries (pre ++ (x ∷ [])) xs post l (λ k. s (suc k)))

elements-small : (n : ℕ) → elements_of (record_on 1 n) < 4294967296
unfolding elements_of
elements-small n = let s : Small (record_on 1 n) = small-on n in omega (arith, s.tithi, s.nakshatra, s.yoga, s.karana)

day-small : (n : ℕ) → n ≤ last_day → (record_on 1 n).day < 4294967296
unfolding record_on
day-small n h = omega arith

longitude-at : (n k : ℕ) → k < 9 → get_or (record_on 1 n).longitudes k 0 < 4294967296
unfolding record_on
longitude-at n k h = omega (arith, nine-at k (pair_at n) h, longitude-small k (pair_at n))

tail-small : (n m : ℕ) → get_or ((record_on 1 n).sun ∷ (record_on 1 n).moon ∷ elements_of (record_on 1 n) ∷ []) m 0 < 4294967296
unfolding record_on
tail-small n zero = omega (arith, sun-small (pair_at n))
tail-small n (suc zero) = omega (arith, moon-small 1 (pair_at n))
tail-small n (suc (suc zero)) = elements-small n
tail-small n (suc (suc (suc m))) = omega arith

numbers-small : (n k : ℕ) → n ≤ last_day → get_or (day_numbers n) k 0 < 4294967296
unfolding day_numbers
numbers-small n zero h = day-small n h
numbers-small n (suc k) h = go (dec_le (suc k) 9)
  where
    nine : length (record_on 1 n).longitudes ≡ 9
    nine = longitudes-long n

    go : Dec (suc k ≤ 9) → get_or ((record_on 1 n).longitudes ++ ((record_on 1 n).sun ∷ (record_on 1 n).moon ∷ elements_of (record_on 1 n) ∷ [])) k 0 < 4294967296
    go (yes l) = omega (arith, get_or-append (record_on 1 n).longitudes ((record_on 1 n).sun ∷ (record_on 1 n).moon ∷ elements_of (record_on 1 n) ∷ []) 0 k (omega (arith, nine)), longitude-at n k l)
    go (no l) =
        let at : k ≡ length (record_on 1 n).longitudes + (k - 9) = omega (arith, nine) in
        omega (
          arith,
          ap (λ (i : ℕ). get_or ((record_on 1 n).longitudes ++ ((record_on 1 n).sun ∷ (record_on 1 n).moon ∷ elements_of (record_on 1 n) ∷ [])) i 0) at,
          get_or-append-add (record_on 1 n).longitudes ((record_on 1 n).sun ∷ (record_on 1 n).moon ∷ elements_of (record_on 1 n) ∷ []) (k - 9) 0,
          tail-small n (k - 9),
        )

days-put : (pre post l : List ℕ) (j d n : ℕ) → length pre ≡ 2 + 13 * j → d + n ≤ 401600 → days_hold (entries (pre ++ (numbers_of (days_from d n) ++ post)) ++ l) j d n ≡ true
unfolding days_hold day_holds numbers_of days_from
days-put pre post l j d zero e h = refl
days-put pre post l j d (suc n) e h =
    let rest : List ℕ = numbers_of (days_from (suc d) n) in
    let grouped : pre ++ ((day_numbers d ++ rest) ++ post) ≡ pre ++ (day_numbers d ++ (rest ++ post)) = ap (λ (t : List ℕ). pre ++ t) (append_assoc (day_numbers d) rest post) in
    let moved : pre ++ ((day_numbers d ++ rest) ++ post) ≡ (pre ++ day_numbers d) ++ (rest ++ post) = grouped ∙ sym (append_assoc pre (day_numbers d) (rest ++ post)) in
    ap₂ ◌&&◌
    (ap₂ ◌&&◌ (le-leb d last_day (omega arith))
    (ap₂ (λ (t : List ℕ) (k : ℕ). has_numbers (entries t ++ l) k (day_numbers d)) grouped (sym e) ∙ has-entries pre (day_numbers d) (rest ++ post) l (λ k. numbers-small d k (omega arith))))
    (ap (λ (t : List ℕ). days_hold (entries t ++ l) (suc j) (suc d) n) moved
    ∙ days-put (pre ++ day_numbers d) post l (suc j) (suc d) n (length-append pre (day_numbers d) ∙ omega (arith, e, day-long d)) (omega arith))

all-zeros : (n : ℕ) → all_zero (replicate n 0) ≡ true
unfolding all_zero
all-zeros zero = refl
all-zeros (suc n) = all-zeros n

module _ (first count index : ℕ) (f : first + count ≤ 401600) (i : 9 * index < count) where
  laid : block_of first count index ≡ entries (numbers first count index) ++ entry (checksum (front first count index))
  unfolding block_of sealed
  laid = ap (λ (t : List ℕ). t ++ entry (checksum (front first count index))) (sym (front-entries first count index))

  total-small : checksum (front first count index) < 4294967296
  unfolding checksum
  total-small =
      let u : Bytes (front first count index) = λ k. rw (sym (front-entries first count index)) (entries-bytes (numbers first count index) k) in
      omega (arith, front_long first count index, weighted-small 1 (front first count index) u (omega (arith, front_long first count index)))

  front-taken : take 508 (block_of first count index) ≡ front first count index
  unfolding block_of sealed
  front-taken = take_at (front first count index) (entry (checksum (front first count index))) 508 (front_long first count index)

  summed-up : entry_day (block_of first count index) 127 ≡ checksum (take 508 (block_of first count index))
  summed-up =
      let s : ℕ = checksum (front first count index) in
      let W : List ℕ = numbers first count index in
      let whole : block_of first count index ≡ entries (W ++ (s ∷ [])) ++ [] = laid ∙ sym (entries-snoc W s) ∙ sym (append-nil (entries (W ++ (s ∷ [])))) in
      let at : get_or (W ++ (s ∷ [])) 127 0 ≡ s = get_or_at W s [] 0 127 (numbers-length first count index) in
      let long : 127 < length (W ++ (s ∷ [])) = omega (arith, length-append W (s ∷ []), numbers-length first count index) in
      let shown : take 508 (block_of first count index) ≡ front first count index = front-taken in
      ap (λ (t : List ℕ). entry_day t 127) whole ∙ read-entry (W ++ (s ∷ [])) [] 127 long (omega (arith, at, total-small)) ∙ at ∙ ap checksum (sym shown)

  numbered : (k x : ℕ) → k < 127 → get_or (numbers first count index) k 0 ≡ x → x < 4294967296 → entry_day (block_of first count index) k ≡ x
  numbered k x h e s =
      ap (λ (t : List ℕ). entry_day t k) laid
      ∙ read-entry (numbers first count index) (entry (checksum (front first count index))) k (omega (arith, numbers-length first count index)) (omega (arith, e, s))
      ∙ e

  zeros-put : all_zero (take (508 - (8 + 52 * days_in count index)) (drop (8 + 52 * days_in count index) (block_of first count index))) ≡ true
  unfolding block_of sealed front
  zeros-put =
      let n : ℕ = days_in count index in
      let ds : List ℕ = days_from (first + 9 * index) n in
      let P : List ℕ = entry index ++ (entry count ++ days_bytes ds) in
      let Z : List ℕ = replicate (52 * (9 - n)) 0 ++ replicate 32 0 in
      let sum : List ℕ = entry (checksum (front first count index)) in
      let small : n ≤ 9 = few count index in
      let days-length : length (days_bytes ds) ≡ 52 * n = sym (ap length (days-entries ds)) ∙ entries-length (numbers_of ds) ∙ omega (arith, numbers-long (first + 9 * index) n) in
      let used : length P ≡ 8 + 52 * n = length-append (entry index) (entry count ++ days_bytes ds) ∙ omega (arith, entry_length index, entry_length count, length-append (entry count) (days_bytes ds), days-length) in
      let zeros-length : length Z ≡ 508 - (8 + 52 * n) = length-append (replicate (52 * (9 - n)) 0) (replicate 32 0) ∙ omega (arith, length-replicate {A = ℕ} (52 * (9 - n)) 0, length-replicate {A = ℕ} 32 0) in
      let split : block_of first count index ≡ P ++ (Z ++ sum) =
      ap (λ (t : List ℕ). t ++ sum) (sym (append_assoc (entry index) (entry count ++ days_bytes ds) Z ∙ ap (λ (t : List ℕ). entry index ++ t) (append_assoc (entry count) (days_bytes ds) Z)))
      ∙ append_assoc P Z sum in
      ap (λ (t : List ℕ). all_zero (take (508 - (8 + 52 * n)) t)) (ap (drop (8 + 52 * n)) split ∙ drop_at P (Z ++ sum) (8 + 52 * n) used)
      ∙ ap all_zero (take_at Z sum (508 - (8 + 52 * n)) zeros-length)
      ∙ ap all_zero (replicate-append-replicate (52 * (9 - n)) 32 0)
      ∙ all-zeros (52 * (9 - n) + 32)

  days-in-place : days_hold (block_of first count index) 0 (first + 9 * index) (days_in count index) ≡ true
  days-in-place =
      ap (λ (t : List ℕ). days_hold t 0 (first + 9 * index) (days_in count index)) laid
      ∙ days-put (index ∷ count ∷ []) (replicate (127 - (2 + 13 * days_in count index)) 0) (entry (checksum (front first count index))) 0 (first + 9 * index) (days_in count index) refl
      (days-fit first count index (days_in count index) refl i f)

  pub put-sound : block_refusal first count index (block_of first count index) ≡ Ok tt
  put-sound =
      sym
      (good-block first count index (block_of first count index)
      (omega (arith, block-long first count index))
      summed-up
      (numbered 0 index (omega arith) refl (omega arith))
      (numbered 1 count (omega arith) refl (omega arith))
      zeros-put
      days-in-place)

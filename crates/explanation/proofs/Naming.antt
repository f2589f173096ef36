-- The names of a set's weekdays are put one after another: from each weekday on, its own name is put and then those
-- from the next one on. So are the numbers of an element's set.
-- Assumes nothing.
use Prim.Native.Nat.{ℕ, zero, suc, ◌+◌, ◌-◌, ◌<◌}
use mathlib.Core.Path.{◌≡◌, refl, sym}
use mathlib.Core.List.{◌++◌}
use native.Mathlib.Omega.{arith}
use lib.ListN.{drop}
use Rattle.text.specs.declared.Line.{Line}
use Rattle.text.specs.Lines.{with_bytes}
use Rattle.text.proofs.Lines.{with-bytes-none, with-bytes-append}
use Rattle.explanation.specs.Explanations.{name_in, names_in, seven_days, number_in, numbers_in}

-- a line with the names from weekday w on
abbrev pub with_names : Line → ℕ → ℕ → Line
with_names l set w = with_bytes l (names_in set (drop w seven_days))

names-from : (set w : ℕ) → w < 7 → names_in set (drop w seven_days) ≡ name_in set w ++ names_in set (drop (w + 1) seven_days)
unfolding names_in
names-from set zero h = refl
names-from set (suc zero) h = refl
names-from set (suc (suc zero)) h = refl
names-from set (suc (suc (suc zero))) h = refl
names-from set (suc (suc (suc (suc zero)))) h = refl
names-from set (suc (suc (suc (suc (suc zero))))) h = refl
names-from set (suc (suc (suc (suc (suc (suc zero)))))) h = refl
names-from set (suc (suc (suc (suc (suc (suc (suc w))))))) h = absurd (omega arith)

pub next-name : (l : Line) (set w : ℕ) → w < 7 → with_names (with_bytes l (name_in set w)) set (w + 1) ≡ with_names l set w
next-name l set w h = rw (names-from set w h) (with-bytes-append l (name_in set w) (names_in set (drop (w + 1) seven_days)))

pub no-name-left : (l : Line) (set w : ℕ) → w ≡ 7 → l ≡ with_names l set w
unfolding names_in
no-name-left l set w e = rw e (sym (with-bytes-none l))

-- a line with the numbers from n on
abbrev pub with_numbers : Line → ℕ → ℕ → Line
with_numbers l set n = with_bytes l (numbers_in set n (30 - n))

pub next-number : (l : Line) (set n : ℕ) → n < 30 → with_numbers (with_bytes l (number_in set n)) set (n + 1) ≡ with_numbers l set n
unfolding numbers_in
next-number l set n h =
    let left : 30 - n ≡ suc (30 - (n + 1)) = omega arith in
    rw left (with-bytes-append l (number_in set n) (numbers_in set (n + 1) (30 - (n + 1))))

pub no-number-left : (l : Line) (set n : ℕ) → n ≡ 30 → l ≡ with_numbers l set n
unfolding numbers_in
no-number-left l set n e = rw e (sym (with-bytes-none l))

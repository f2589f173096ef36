-- The lines of a day: which of them is meant, and what is found for its body. Assumes nothing.
use mathlib.Core.List.{[]}
use mathlib.Core.Path.{◌≡◌, refl, ap, ◌∙◌}
use Prim.Native.Nat.{ℕ, zero, suc, ◌+◌, ◌-◌, ◌≤◌, ◌<◌}
use native.Mathlib.Omega.{arith}
use lib.ListN.{get_or}
use Rattle.std.specs.Prelude.{Ok}
use Rattle.days.specs.declared.Day.{Day}
use Rattle.days.specs.Days.{pair_at}
use Rattle.longitudes.specs.declared.MeanLongitudes.{MeanLongitudes}
use Rattle.longitudes.specs.Longitudes.{circle}
use Rattle.longitudes.specs.Answers.{longitudes_of}
use Rattle.longitudes.proofs.Answers.{nine-given}
use Rattle.longitudes.proofs.Table.{longitude-small, thirds-small}
use Rattle.text.specs.Sheets.{line_at}
use Rattle.text.proofs.Sheets.{line_first, line-next, line-behind}
use Rattle.plate.specs.Plates.{plate_heading, body_line, body_line_on, body_lines, lines_of}

pub heading-first : (n k : ℕ) → k ≡ 0 → line_at (lines_of n) k ≡ plate_heading
heading-first n k h = rw h (line_first _ _)

pub none-behind : (n k : ℕ) → 10 ≤ k → line_at (lines_of n) k ≡ []
unfolding body_lines
none-behind n k l = line-behind (lines_of n) k (omega arith)

-- the line of body b + k is line k from body b on
body_at : (n b m k : ℕ) → k < m → line_at (body_lines n b m) k ≡ body_line_on n (b + k)
unfolding body_lines
body_at n b zero k l = absurd (omega arith)
body_at n b (suc m) zero l = let here : b + 0 ≡ b = omega arith in rw here (line_first _ _)
body_at n b (suc m) (suc k) l =
    let next : suc b + k ≡ b + suc k = omega arith in
    line-next _ _ k ∙ body_at n (suc b) m k (omega arith) ∙ ap (body_line_on n) next

pub line-of-body : (n k : ℕ) → (k ≡ 0 → ⊥) → k < 10 → line_at (lines_of n) k ≡ body_line_on n (k - 1)
line-of-body n zero h l = absurd (h refl)
line-of-body n (suc k) h l =
    let back : suc k - 1 ≡ k = omega arith in
    let front : 0 + k ≡ k = omega arith in
    rw back (line-next _ _ k ∙ body_at n 0 9 k (omega arith) ∙ ap (body_line_on n) front)

-- what is found for a body on day n is its line's, and small
pub record Found (n b seconds rest : ℕ) : Type 0 where
  pub line : body_line b seconds rest ≡ body_line_on n b
  pub below-circle : seconds < circle
  pub below-60 : rest < 60

pub found : (n b : ℕ) {d : Day} {all : MeanLongitudes} → b < 9 → d ≡ pair_at n → Ok all ≡ longitudes_of d → Found n b (get_or all.longitudes b 0) (get_or all.thirds b 0)
found n b l ed el =
    let e = nine-given (pair_at n) (el ∙ ap longitudes_of ed) b l in
    rw (e.0, e.1) (record { line = refl; below-circle = longitude-small b (pair_at n); below-60 = thirds-small b (pair_at n) l })

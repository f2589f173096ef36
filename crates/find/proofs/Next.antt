-- Bytes that are the output's next ones, and what is left behind them. Assumes nothing.
use mathlib.Core.Path.{◌≡◌, ap, ap₂, sym, ◌∙◌}
use mathlib.Core.List.{List, ◌++◌}
use Prim.Native.Nat.{ℕ, ◌+◌}
use lib.ListN.{length, take, drop, take-append-drop}
use lib.Seq.{take-append_seam, drop-append_seam, drop-drop}
use Rattle.names.specs.declared.Print.{Print}
use Rattle.query.specs.declared.Query.{Query}
use Rattle.find.specs.Output.{output_of, NextBytes}

module _ (form : Print) (q : Query) where
  pub next_of : (n : ℕ) (bytes rest : List ℕ) → drop n (output_of form q) ≡ bytes ++ rest → NextBytes form q n bytes
  next_of n bytes rest e = ap (take (length bytes)) e ∙ take-append_seam bytes rest

  pub due-of : (n : ℕ) (bytes : List ℕ) → NextBytes form q n bytes → drop n (output_of form q) ≡ bytes ++ drop (n + length bytes) (output_of form q)
  due-of n bytes e =
      sym (take-append-drop (length bytes) (drop n (output_of form q)))
      ∙ ap₂ (λ (a b : List ℕ). a ++ b) e (drop-drop (length bytes) n (output_of form q))

  pub left-of : (n : ℕ) (bytes rest : List ℕ) → drop n (output_of form q) ≡ bytes ++ rest → drop (n + length bytes) (output_of form q) ≡ rest
  left-of n bytes rest e = sym (drop-drop (length bytes) n (output_of form q)) ∙ ap (drop (length bytes)) e ∙ drop-append_seam bytes rest

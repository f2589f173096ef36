-- What is said, case by case: of an arc, of a span, of a line by its words, and whether a line asks for something.
-- Assumes nothing.
use Prim.Native.Nat.{ℕ, ◌<◌}
use mathlib.Core.Path.{◌≡◌, ap, ap₂, sym, ◌∙◌}
use mathlib.Core.Bool.{true, false, and-eq-true_iff}
use mathlib.Core.List.{List, ◌++◌}
use native.Mathlib.Omega.{arith}
use borrow.Author.Tests.{ltb-true, ne_eqb}
use lib.Dec.{leb, ltb}
use lib.ListN.{length}
use Rattle.std.specs.Prelude.{Option, None, []}
use Rattle.page.specs.Names.{keywords}
use Rattle.page.specs.Page.{span_keyword, arc_keywords, print_keyword, keyword_count, has_arcs, arc_words}
use Rattle.text.specs.declared.Line.{Line}
use Rattle.text.specs.Decimal.{number_read}
use Rattle.text.specs.Lines.{empty_line, contents, Holds}
use Rattle.text.proofs.Holding.{nothing-held, holds-length}
use Rattle.values.specs.Values.{angle_read}
use Rattle.words.specs.Words.{hash, up_to, first_word, after_word, after_words, place_in}
use Rattle.remarks.specs.Remarks.{width_text, likely_degrees, likely_end, said_of, plain_remark, arc_remark, span_remark, first_remark, second_remark, line_remarks}

-- what is said of no numbers, where nothing else is said
pub nothing-said : (o : Option (ℕ × ℕ)) (said : ℕ → ℕ → List ℕ) {l : Line} → o ≡ None → l ≡ empty_line → Holds l (said_of o said [])
nothing-said o said e none = rw e (nothing-held _ none)

pub nothing-plain :
    (n : ℕ) (name start width : List ℕ) {l : Line} →
    likely_degrees (number_read start) (number_read width) ≡ None →
    likely_end (angle_read start) (angle_read width) ≡ None →
    l ≡ empty_line →
    Holds l (plain_remark n name start width)
unfolding plain_remark
nothing-plain n name start width d e none = rw d (nothing-said (likely_end (angle_read start) (angle_read width)) (width_text n name) e none)

pub arcs-keyword : (k : ℕ) → has_arcs k ≡ true → k < keyword_count
unfolding has_arcs
arcs-keyword k e =
    omega (arith, ltb-true k print_keyword ((and-eq-true_iff (ltb k print_keyword) _).0 ((and-eq-true_iff (leb arc_keywords k) _).0 e).1).0)

-- the two lines that are made of a line's words
abbrev pub SaidOf : ℕ → List ℕ → List ℕ → Line → Line → Type 0
SaidOf n name values a b = Holds a (first_remark n name values) × Holds b (second_remark n name values)

module _ (n : ℕ) (name values : List ℕ) (k : ℕ) (ek : k ≡ place_in keywords name) {a b : Line} where
  module _ (start others width : List ℕ) (es : start ≡ first_word values) (eo : others ≡ after_word values) (ew : width ≡ first_word others) where
    pub words-span : k ≡ span_keyword → Holds a (span_remark n start width) → b ≡ empty_line → SaidOf n name values a b
    unfolding first_remark second_remark has_arcs
    words-span e h none = rw (← ek, e) ((rw (es, ew, eo) at h), nothing-held b none)

  pub words-arcs :
      (k ≡ span_keyword → ⊥) →
      has_arcs k ≡ true →
      (m : ℕ) (more : List ℕ) →
      m ≡ arc_words values →
      more ≡ after_words m values →
      Holds a (arc_remark n name values) →
      Holds b (arc_remark n name more) →
      SaidOf n name values a b
  unfolding first_remark second_remark
  words-arcs e t m more en em ha hb = rw (← ek, ne_eqb k span_keyword e, t) (ha, (rw (em, en) at hb))

  pub words-none : (k ≡ span_keyword → ⊥) → has_arcs k ≡ false → a ≡ empty_line → b ≡ empty_line → SaidOf n name values a b
  unfolding first_remark second_remark
  words-none e t none none2 = rw (← ek, ne_eqb k span_keyword e, t) (nothing-held a none, nothing-held b none2)

module _ (l body name : List ℕ) (eb : body ≡ up_to hash l) (en : name ≡ first_word body) where
  -- they are what is said of the line
  pub line-said : (n : ℕ) (values : List ℕ) → values ≡ after_word body → {a b : Line} → SaidOf n name values a b → line_remarks n l ≡ contents a ++ contents b
  unfolding line_remarks
  line-said n values ev {a} {b} h = sym (ap₂ (λ (x y : List ℕ). x ++ y) h.0.whole h.1.whole ∙ rw (en, ev, eb))

-- a line's length is that of its contents
pub contents-length : {l : Line} {bs : List ℕ} → Holds l bs → l.len ≡ length (contents l)
contents-length h = holds-length h ∙ ap length (sym h.whole)

-- `of_words` meets its contract: by the cases of a line (Cases); the word of an arc is a keyword, and so it is short.
-- Assumes nothing.
use mathlib.Core.Path.{sym, ◌∙◌}
use native.Mathlib.Omega.{arith}
use Rattle.remarks.proofs.Cases.{arcs-keyword, words-span, words-none, words-arcs}
use Rattle.remarks.proofs.Fitting.{keyword-short}
use Rattle.remarks.proofs.of_words.Goals as goal

pub returns-then-keyword-eq-SPAN : goal.returns-then-keyword-eq-SPAN
returns-then-keyword-eq-SPAN c = words-span _ _ _ _ c.keyword_of-keyword.ensures _ _ _ c.first_word.ensures c.after_word.ensures c.first_word-then-keyword-eq-SPAN.ensures c.if-keyword-eq-SPAN.true c.span_remark-first.ensures c.empty-second.ensures

pub returns-then-not-has_arcs : goal.returns-then-not-has_arcs
returns-then-not-has_arcs c = words-none _ _ _ _ c.keyword_of-keyword.ensures c.if-keyword-eq-SPAN.false (sym c.has_arcs.ensures ∙ c.if-not-has_arcs.true) c.empty-first.ensures c.empty-second-then-not-has_arcs.ensures

pub arc_remark-first-requires : goal.arc_remark-first-requires
arc_remark-first-requires c = keyword-short c.args.name.now (omega (arith, c.keyword_of-keyword.ensures, arcs-keyword _ (sym c.has_arcs.ensures ∙ c.if-not-has_arcs.false)))

pub arc_remark-second-requires : goal.arc_remark-second-requires
arc_remark-second-requires c = keyword-short c.args.name.now (omega (arith, c.keyword_of-keyword.ensures, arcs-keyword _ (sym c.has_arcs.ensures ∙ c.if-not-has_arcs.false)))

pub returns : goal.returns
returns c = words-arcs _ _ _ _ c.keyword_of-keyword.ensures c.if-keyword-eq-SPAN.false (sym c.has_arcs.ensures ∙ c.if-not-has_arcs.false) _ _ c.arc_words.ensures c.after_words-more.ensures c.arc_remark-first.ensures c.arc_remark-second.ensures

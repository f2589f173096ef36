-- `fill_records` meets its contract, case by case: behind the test every day is in range, so that each turn of the loop
-- may fill its record, and behind that all are filled.
-- Assumes nothing.
use borrow.Author.Tests.{tests}
use Rattle.std.proofs.Common.{◌≡◌, ◌≤◌, sym, ap, ◌∙◌, length, leb, arith, rules}
use Rattle.std.proofs.lemmas.Iterator.{YieldsList-from_slice}
use Rattle.std.proofs.lemmas.Iterator.Search.{all_from_yields_List}
use Rattle.days.specs.Days.{last_day}
use Rattle.records.specs.declared.DayRecord.{DayRecord}
use Rattle.records.specs.Records.{no_record, all_days}
use Rattle.records.proofs.Turns.{at-start, partly, still, turned, all_done}
use Rattle.records.proofs.Answers.{filling, fill-bad-edition, fill-out-of-range, fill-given, all-is, in_all}
use Rattle.records.proofs.fill_records.Goals as goal
use Rattle.records.proofs.fill_records.Goals.{After-all}

-- what the test tells of all records
tested : (c : After-all) → c.all.result ≡ all_days c.args.records.now
tested c = all_from_yields_List (λ (x : DayRecord). leb x.day last_day) _ _ _ c.all.ensures.ran (YieldsList-from_slice c.args.records.now cc) (λ x b q k. search (rules, tests)) ∙ sym (all-is _)

pub returns-then-not-is_edition : goal.returns-then-not-is_edition
returns-then-not-is_edition c =
    let f = fill-bad-edition _ _ (sym c.is_edition.ensures ∙ c.if-not-is_edition.true) in
    (c.number.ensures ∙ f.0, f.1)

pub returns-then-not-all : goal.returns-then-not-all
returns-then-not-all c =
    let f = fill-out-of-range _ _ (sym c.is_edition.ensures ∙ c.if-not-is_edition.false) (sym (tested (goal.at.returns-then-not-all c).After-all) ∙ c.if-not-all.true) in
    (c.number-then-not-all.ensures ∙ f.0, f.1)

pub loop-record-init : goal.loop-record-init
loop-record-init c = sym (at-start _ _)

pub filled-requires : goal.filled-requires
filled-requires c =
    (sym c.is_edition.ensures ∙ c.if-not-is_edition.false, still _ (λ (r : DayRecord). r.day ≤ last_day) _ _ _ _ _ c.loop-record.invariant (omega arith) (in_all _ _ no_record (omega arith) (sym (tested (goal.at.filled-requires c).After-all) ∙ c.if-not-all.false)))

pub loop-record-preserved : goal.loop-record-preserved
loop-record-preserved c = turned _ _ _ _ _ _ c.loop-record.invariant (omega arith) c.filled.ensures

pub returns : goal.returns
returns c =
    let xs = c.args.records.now in
    let given = fill-given _ xs (sym c.is_edition.ensures ∙ c.if-not-is_edition.false) (sym (tested (goal.at.returns c).After-all) ∙ c.if-not-all.false) in
    let behind : c.loop-record.record-index ≡ length xs = omega arith in
    (given.0, c.loop-record.invariant ∙ ap (partly (filling c.args.edition) xs) behind ∙ all_done _ xs ∙ given.1)

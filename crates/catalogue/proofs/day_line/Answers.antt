-- `day_line` meets its contract: in each form what is found of the day is put together, and it fits. Assumes nothing.
use mathlib.Core.Path.{◌≡◌, sym, ap, ◌∙◌}
use Rattle.std.specs.Prelude.{Ok}
use Rattle.days.specs.Days.{pair_at}
use Rattle.days.proofs.Laws.{pair-in-range}
use Rattle.names.specs.declared.Print.TheVariants.{Numbers, Names, Csv}
use Rattle.panchanga.specs.OnDays.{panchanga_at, panchanga_of}
use Rattle.panchanga.proofs.Answers.{answered}
use Rattle.text.specs.Lines.{empty_line, with_bytes}
use Rattle.text.proofs.Holding.{holds}
use Rattle.catalogue.proofs.DayLines.{numbers-made, columns-made, csv-made, line-fits}
use Rattle.catalogue.proofs.day_line.Goals as goal
use Rattle.catalogue.proofs.day_line.Goals.{After-unwrap-elements}

-- the elements are those of the day's pair
elements : (c : After-unwrap-elements) → Ok c.unwrap-elements.result ≡ panchanga_of c.args.edition (pair_at c.args.day)
elements c = sym c.unwrap-elements.ensures ∙ rw (c.of_day.ensures, c.at.ensures)

pub unwrap-elements-requires : goal.unwrap-elements-requires
unwrap-elements-requires c =
    rw (c.of_day.ensures, c.at.ensures, answered panchanga_at c.args.edition (pair_at c.args.day) (record { edition = c.requires.1; range = pair-in-range c.args.day c.requires.0 }))

pub returns-in-Numbers : goal.returns-in-Numbers
returns-in-Numbers c =
    rw c.in-Numbers.is
    (holds _ _ (line-fits Numbers _ _ c.requires.1 c.requires.0)
    (rw (c.byte.ensures, c.put_elements.ensures, c.put_named_day-named.ensures, c.empty.ensures)
    (numbers-made _ _ _ (elements (goal.at.returns-in-Numbers c).After-unwrap-elements) _)))

pub returns-in-Names : goal.returns-in-Names
returns-in-Names c =
    rw c.in-Names.is
    (holds _ _ (line-fits Names _ _ c.requires.1 c.requires.0)
    (rw (c.column_line.ensures, c.weekday_on-weekday.ensures)
    (ap (with_bytes empty_line) (columns-made _ _ _ (elements (goal.at.returns-in-Names c).After-unwrap-elements)))))

pub returns-in-Csv : goal.returns-in-Csv
returns-in-Csv c =
    rw c.in-Csv.is
    (holds _ _ (line-fits Csv _ _ c.requires.1 c.requires.0)
    (rw (c.csv_line.ensures, c.weekday_on-weekday.ensures)
    (ap (with_bytes empty_line) (csv-made _ _ _ (elements (goal.at.returns-in-Csv c).After-unwrap-elements)))))

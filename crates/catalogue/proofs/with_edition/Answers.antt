-- `with_edition` meets its contract: the meaning's test. Assumes nothing.
use borrow.Author.Tests.{eq-eqb, ne_eqb}
use Rattle.panchanga.specs.TrueLongitudes.{second_edition}
use Rattle.catalogue.specs.Catalogue.{edition_text}
use Rattle.catalogue.proofs.with_edition.Goals as goal

pub returns-then-edition-eq-SECOND_EDITION : goal.returns-then-edition-eq-SECOND_EDITION
unfolding edition_text
returns-then-edition-eq-SECOND_EDITION c = rw (eq-eqb _ second_edition c.if-edition-eq-SECOND_EDITION.true) c.text.ensures

pub returns-else-edition-eq-SECOND_EDITION : goal.returns-else-edition-eq-SECOND_EDITION
unfolding edition_text
returns-else-edition-eq-SECOND_EDITION c = rw (ne_eqb _ second_edition c.if-edition-eq-SECOND_EDITION.false) c.text-else-edition-eq-SECOND_EDITION.ensures

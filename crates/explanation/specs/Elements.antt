-- An element's condition that does not hold, which is all that is written by name: what private contracts cite.
-- Assumes nothing.
use Rattle.std.specs.Prelude.{cond, List, ◌++◌, ℕ, eqb, Option, Some, None}
use Rattle.catalogue.specs.Catalogue.{edition_text}
use Rattle.dated.specs.Dated.{day_bytes}
use Rattle.days.specs.Refusals.{accepted}
use Rattle.names.specs.declared.Kind.{Kind}
use Rattle.names.specs.Names.{name_of}
use Rattle.reasons.specs.Conditions.{Wanted, nothing, bound, any_of, mean_arcs, true_arcs, Cause}
use Rattle.reasons.specs.Reasons.{Numbers}
use Rattle.text.specs.Ascii.{ascii}
use Rattle.explanation.specs.declared.Unmet.{Unmet}
use Rattle.explanation.specs.Explanations.{element_kind, kind_word, unfit, names_text}

abbrev pub unmet : Kind → ℕ → ℕ → ℕ → Option Unmet
unmet kind edition asked found = Some (record { kind = kind; edition = edition; asked = asked; found = found })

-- by what was asked, in an edition; none where it is no element's
unfoldable pub element_asked : ℕ → Wanted → ℕ → ℕ → Option Unmet
element_asked edition nothing k found = None
element_asked edition (bound day) k found = None
element_asked edition (any_of set) k found = cond (eqb k 3) None (unmet (element_kind k) edition set found)
element_asked edition (mean_arcs arcs) k found = None
element_asked edition (true_arcs arcs) k found = None

abbrev pub element_of : ℕ → Cause → Option Unmet
element_of edition c = element_asked edition c.asked c.condition c.found

-- of an answer
unfoldable pub element_for : Numbers → Option Unmet
element_for w = cond (eqb w.refusal accepted) (element_of w.edition w.cause) None

-- the line for day n by names, and its parts before and behind the names asked
unfoldable pub element_line : Kind → ℕ → ℕ → ℕ → ℕ → List ℕ
element_line kind edition asked found n = day_bytes n ++ (unfit (names_text kind asked found) ++ (edition_text edition ++ ascii "\n"))

unfoldable pub element_front : Kind → ℕ → List ℕ
element_front kind n = day_bytes n ++ (ascii " does not fit: " ++ (kind_word kind ++ ascii " asked"))

unfoldable pub element_end : Kind → ℕ → ℕ → List ℕ
element_end kind edition found = ascii " found " ++ (name_of kind found ++ (edition_text edition ++ ascii "\n"))

-- The host's query: one Sun arc and one weekday, both always, and no other condition.
-- Assumes nothing.
use Rattle.std.specs.Prelude.{true, ◌∷◌, ℕ, replicate}
use Rattle.panchanga.specs.TrueLongitudes.{first_edition}
use Rattle.query.specs.declared.Query.{Query}
use Rattle.query.specs.Conditions.{not_asked, only_weekday, only_arc, no_arcs}

unfoldable pub host_query : ℕ → ℕ → ℕ → ℕ → ℕ → Query
host_query first last start width weekday =
    record {
      first = first;
      last = last;
      edition = first_edition;
      weekdays = only_weekday weekday;
      tithi = not_asked;
      nakshatra = not_asked;
      yoga = not_asked;
      karana = not_asked;
      arcs = only_arc (record { given = true; start = start; width = width }) ∷ replicate 8 no_arcs;
      true_arcs = replicate 7 no_arcs;
    }

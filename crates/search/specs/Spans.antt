-- A part of a query's span: what laws, and private contracts above, cite.
-- Assumes nothing.
use Rattle.std.specs.Prelude.{ℕ}
use Rattle.query.specs.declared.Query.{Query}

-- the query over the days from a to b, both counted
abbrev pub between : Query → ℕ → ℕ → Query
between q a b =
    record {
      first = a;
      last = b;
      edition = q.edition;
      weekdays = q.weekdays;
      tithi = q.tithi;
      nakshatra = q.nakshatra;
      yoga = q.yoga;
      karana = q.karana;
      arcs = q.arcs;
      true_arcs = q.true_arcs;
    }

-- What the program writes to standard output for a query that is not refused, and says beside it, in a form: what its
-- own contracts cite.
-- Assumes nothing.
use Rattle.std.specs.Prelude.{◌≡◌, List, ◌++◌, ℕ, ◌*◌, length, take, drop}
use Rattle.names.specs.declared.Print.{Print}
use Rattle.query.specs.declared.Query.{Query}
use Rattle.query.specs.SunArcs.{with_sun_arcs}
use Rattle.search.specs.Days.{matching_days, visited_days}
use Rattle.catalogue.specs.Catalogue.{catalogue_heading, counts_said}
use Rattle.entries.specs.Listed.{listed_from}
use Rattle.catalogue.specs.Pieces.{day_lines}
use Rattle.catalogue.specs.Each.{EachFits}

-- the number of the days looked at in the walk that is made: that of the query which asks for the mean Sun too where
-- the true Sun is asked for alone
abbrev pub looked_at : Query → ℕ
looked_at q = length (visited_days (with_sun_arcs q))

-- the heading for a query, in its edition, with the number of matching days, and of the days looked at
abbrev pub heading_of : Print → Query → List ℕ
heading_of form q = catalogue_heading form q.edition (length (matching_days q)) (looked_at q)

-- ALL THAT IS WRITTEN: the heading, and the line of each matching day, earliest first
unfoldable pub output_of : Print → Query → List ℕ
output_of form q = heading_of form q ++ day_lines form q.edition (matching_days q)

-- all that is said of them on standard error
abbrev pub said_of : Print → Query → List ℕ
said_of form q = counts_said form q.edition (length (matching_days q)) (looked_at q)

-- these bytes are the output's, behind its first n
abbrev pub NextBytes : Print → Query → ℕ → List ℕ → Type 0
NextBytes form q n bytes = take (length bytes) (drop n (output_of form q)) ≡ bytes

-- the bytes of a list's first n entries
abbrev pub front : List ℕ → ℕ → List ℕ
front list n = take (4 * n) list

-- the days of these entries
abbrev pub front_days : List ℕ → ℕ → List ℕ
front_days list n = listed_from (front list n) 0

-- a list has n entries, their days' lines are the output's next bytes, and each line fits whole into a buffer of so
-- many bytes
pub record NextDays (form : Print) (q : Query) (before : ℕ) (list : List ℕ) (n room : ℕ) : Type 0 where
  pub there : length (front list n) ≡ 4 * n
  pub next : NextBytes form q before (day_lines form q.edition (front_days list n))
  pub each : EachFits form q.edition room (front_days list n)

-- The loop of `print_parts`, and the whole span as its one turn: the output from the bytes written on is the lines of
-- the days that are left of the span; a part's list has its days and no more, and they are the first of those left, by
-- the law of the parts. Assumes nothing.
use mathlib.Core.Path.{◌≡◌, refl, ap, sym, ◌∙◌}
use mathlib.Core.List.{List, [], ◌++◌}
use Prim.Native.Nat.{ℕ, ◌+◌, ◌-◌, ◌≤◌, ◌<◌}
use native.Mathlib.Omega.{arith}
use lib.ListN.{length, drop, length-append, length-drop}
use lib.Seq.{drop-append_seam}
use Rattle.names.specs.declared.Print.{Print}
use Rattle.query.specs.declared.Query.{Query}
use Rattle.query.specs.Query.{refusal_of}
use Rattle.query.specs.SunArcs.{with_sun_arcs}
use Rattle.query.proofs.Accepted.{accepted-by}
use mathlib.Core.Bool.{true}
use Rattle.std.specs.Prelude.{Result, Ok}
use Rattle.std.specs.Result.{is_ok}
use Rattle.search.specs.declared.Found.{Found}
use Rattle.search.specs.declared.SearchError.{SearchError}
use Rattle.search.specs.Days.{matching_days}
use Rattle.search.specs.Search.{Searched}
use Rattle.search.specs.Spans.{between}
use Rattle.search.proofs.Spans.{adjoining, no-days, part-accepted}
use Rattle.text.specs.Lines.{line_capacity}
use Rattle.catalogue.specs.Pieces.{day_lines}
use Rattle.catalogue.proofs.Together.{lines-append}
use Rattle.find.specs.Output.{heading_of, output_of, front_days, NextDays}
use Rattle.find.proofs.Bounds.{matching-short}
use Rattle.find.proofs.Next.{next_of, left-of}
use Rattle.find.proofs.Listed.{Filled, search-there, by-search, there, listed, each}

-- the lines of the days from day `first` to the last are due
pub record Parting (form : Print) (q : Query) (first written : ℕ) : Type 0 where
  pub low : q.first ≤ first
  pub high : first ≤ q.last + 1
  pub within : written ≤ length (output_of form q)
  pub left : drop written (output_of form q) ≡ day_lines form q.edition (matching_days (between q first q.last))

module _ (form : Print) (q : Query) (e : refusal_of q ≡ 0) where
  pub parting-start : (written : ℕ) → written ≡ length (heading_of form q) → Parting form q q.first written
  unfolding output_of
  parting-start written h =
      record {
        low = omega arith;
        high = omega (arith, (accepted-by q e).first);
        within = omega (arith, length-append (heading_of form q) (day_lines form q.edition (matching_days q)));
        left = ap (λ (n : ℕ). drop n (output_of form q)) h ∙ drop-append_seam (heading_of form q) (day_lines form q.edition (matching_days q));
      }

  -- the last line is written
  pub parted : (first written : ℕ) → Parting form q first written → q.last < first → written ≡ length (output_of form q)
  parted first written p h =
      let end : first ≡ q.last + 1 = omega (arith, p.high) in
      let none : drop written (output_of form q) ≡ [] = p.left ∙ ap (day_lines form q.edition) (ap (λ (a : ℕ). matching_days (between q a q.last)) end ∙ no-days q q.last) ∙ (unfold day_lines in refl) in
      omega (arith, p.within, length-drop written (output_of form q), ap length none)

  -- a part of the span, searched with enough entries
  module _ (first written last : ℕ) (p : Parting form q first written) (low : first ≤ last) (high : last ≤ q.last) where
    pub good-part : refusal_of (between q first last) ≡ 0
    good-part = part-accepted q first last e low high

    -- an entry for each day is enough
    module _ (list : List ℕ) (answer : Result Found SearchError) (after : List ℕ) (s : Searched (with_sun_arcs (between q first last)) list answer after) (near : last < first + 131072) (room : 524288 ≤ length list) where
      pub part-there : is_ok answer ≡ true
      part-there = search-there (between q first last) good-part list answer after s (omega (arith, matching-short (between q first last)))

      pub part_filled : (found : Found) → answer ≡ Ok found → Filled (between q first last) list found.length after
      part_filled found is =
          by-search (between q first last) good-part list answer found after s is (omega (arith, matching-short (between q first last)))

    abbrev days : List ℕ
    days = matching_days (between q first last)

    abbrev later : List ℕ
    later = day_lines form q.edition (matching_days (between q (last + 1) q.last))

    left-now : drop written (output_of form q) ≡ day_lines form q.edition days ++ later
    left-now = p.left ∙ ap (day_lines form q.edition) (adjoining q first last q.last (omega arith) high) ∙ lines-append form q.edition days (matching_days (between q (last + 1) q.last))

    module _ (list : List ℕ) (n : ℕ) (after : List ℕ) (f : Filled (between q first last) list n after) where
      here : front_days after n ≡ days
      here = listed (between q first last) good-part list n after f

      pub part-next : (room : ℕ) → line_capacity ≤ room → NextDays form q written after n room
      part-next room h =
          record {
            there = there (between q first last) good-part list n after f;
            next = rw here (next_of form q written (day_lines form q.edition days) later left-now);
            each = each (between q first last) good-part list n after f form room h;
          }

      pub parting-step : (bytes : ℕ) → bytes ≡ written + length (day_lines form q.edition (front_days after n)) → Parting form q (last + 1) bytes
      parting-step bytes h =
          let sum : bytes ≡ written + length (day_lines form q.edition days) = h ∙ ap (λ (ds : List ℕ). written + length (day_lines form q.edition ds)) here in
          let more : length (output_of form q) - written ≡ length (day_lines form q.edition days) + length later = sym (length-drop written (output_of form q)) ∙ ap length left-now ∙ length-append (day_lines form q.edition days) later in
          record {
            low = omega (arith, p.low);
            high = omega arith;
            within = omega (arith, p.within);
            left = ap (λ (n : ℕ). drop n (output_of form q)) sum ∙ left-of form q written (day_lines form q.edition days) later left-now;
          }

  -- the whole span is a part too
  module _ (written : ℕ) (h : written ≡ length (heading_of form q)) (list : List ℕ) (n : ℕ) (after : List ℕ) (f : Filled q list n after) where
    pub whole-next : (room : ℕ) → line_capacity ≤ room → NextDays form q written after n room
    whole-next = part-next q.first written q.last (parting-start written h) (accepted-by q e).first (omega arith) list n after f

    pub whole-printed : (bytes : ℕ) → bytes ≡ written + length (day_lines form q.edition (front_days after n)) → bytes ≡ length (output_of form q)
    whole-printed bytes b =
        parted (q.last + 1) bytes
        (parting-step q.first written q.last (parting-start written h) (accepted-by q e).first (omega arith) list n after f bytes b)
        (omega arith)

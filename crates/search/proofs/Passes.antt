-- The passes over the visited days: what holds before the visit of a day, and how a visit carries it on.
-- Assumes nothing.
use Prim.Native.Nat.{ℕ, zero, suc, ◌+◌, ◌-◌, ◌≤◌, ◌<◌}
use mathlib.Core.Path.{◌≡◌, refl, ap, sym, subst, ◌∙◌}
use mathlib.Core.Bool.{Bool, true, false}
use mathlib.Core.List.{List, [], ◌∷◌}
use native.Mathlib.Omega.{arith}
use native.Mathlib.Decide.{dec_le}
use lib.ListN.{length, drop}
use lib.Seq.{drop-drop}
use borrow.Author.Tests.{le-leb}
use Rattle.days.specs.Days.{last_day}
use Rattle.entries.specs.Entries.{capacity, with_entry, with_entries_from}
use Rattle.entries.specs.Runs.{filtered}
use Rattle.entries.proofs.Laws.{with-entry-length}
use Rattle.query.specs.declared.Query.{Query}
use Rattle.query.specs.Conditions.{body_arcs_in_range, elements_in_range, conditions_in_range}
use Rattle.query.specs.Query.{sun_arcs, conditions_met, in_span, refusal_of}
use Rattle.query.proofs.Accepted.{accepted-by, accepts}
use Rattle.search.specs.declared.Examined.{Examined}
use Rattle.search.specs.declared.Visit.{Visit}
use Rattle.search.specs.declared.Tally.{Tally}
use Rattle.search.specs.Look.{sun_in_arcs, next_day, looked}
use Rattle.search.specs.Spans.{between as over}
use Rattle.search.specs.Days.{visited_from, visited_days, matching_days}
use Rattle.search.specs.Parts.{VisitAt, visits_from, matches_from, Reached, first_visit, visit_after, NoneAfter, Scannable, LastMatch, Tallied}
use Rattle.search.proofs.Arc.{next-after}
use Rattle.entries.proofs.Filter.{filtered-in, filtered-out, filtered-nil}
use Rattle.search.proofs.Skip.{rest_end, rest_more, visit-end, visit-more, skipped, outside-unmatched, matching-visited}
use Rattle.search.proofs.Look.{looked-at}

-- what the visit of a day of the span hands back: a day not past the last day there is, and the next day, which is
-- later
pub record Seen (q : Query) (d : ℕ) (seen : Examined) : Type 0 where
  pub handed : seen ≡ record { matches = conditions_met q d; next = next_day q d }
  pub low : d ≤ last_day
  pub later : d < seen.next

pub in-span : (q : Query) (d : ℕ) → q.first ≤ d → d ≤ q.last → in_span q d ≡ true
in-span q d f h = rw (le-leb _ _ f, le-leb _ _ h)

pub seen_at : (q : Query) (d : ℕ) (seen : Examined) → refusal_of q ≡ 0 → q.first ≤ d → d ≤ q.last → seen ≡ looked q d → Seen q d seen
seen_at q d seen e f h s =
    let a = accepted-by q e in
    let t : seen ≡ record { matches = conditions_met q d; next = next_day q d } = s ∙ looked-at q d (in-span q d f h) in
    record { handed = t; low = omega (arith, a.last); later = rw t (next-after q a.sun d) }

module _ (q : Query) (r : body_arcs_in_range (sun_arcs q) ≡ true) where
  matches-in : (d : ℕ) → d ≤ q.last → conditions_met q d ≡ true → matches_from q d ≡ d ∷ matches_from q (next_day q d)
  matches-in d h f = ap (filtered (conditions_met q)) (rest_more q r d h) ∙ filtered-in (conditions_met q) d (visits_from q (next_day q d)) f

  matches-out : (d : ℕ) → d ≤ q.last → conditions_met q d ≡ false → matches_from q d ≡ matches_from q (next_day q d)
  matches-out d h f = ap (filtered (conditions_met q)) (rest_more q r d h) ∙ filtered-out (conditions_met q) d (visits_from q (next_day q d)) f

  reached-start : Reached q 0 (first_visit q)
  unfolding visited_days
  reached-start =
      record {
        visits = refl;
        matching = matching-visited q r;
        counted = omega (arith, ap length (matching-visited q r));
        seen = omega arith;
        fewer = omega arith;
        gone = omega arith;
      }

  module _ (n : ℕ) (visit : Visit) (h : visit.day ≤ q.last) (c : Reached q n visit) where
    visits-next : drop (visit.examined + 1) (visited_days q) ≡ visits_from q (next_day q visit.day)
    visits-next = sym (drop-drop 1 visit.examined (visited_days q)) ∙ ap (drop 1) (c.visits ∙ rest_more q r visit.day h)

    reached-visit : VisitAt q visit.examined visit.day
    reached-visit = c.visits ∙ rest_more q r visit.day h ∙ ap (λ (t : List ℕ). visit.day ∷ t) (sym visits-next)

    reached-in : conditions_met q visit.day ≡ true → Reached q (n + 1) (visit_after visit (next_day q visit.day))
    reached-in f =
        let m = matches-in visit.day h f in
        record {
          visits = visits-next;
          matching = ap (drop 1) (sym m ∙ c.matching) ∙ drop-drop 1 n (matching_days q);
          counted = omega (arith, c.counted, ap length m);
          seen = omega (arith, c.seen, ap length (rest_more q r visit.day h));
          fewer = omega (arith, c.fewer);
          gone = omega (arith, c.gone, next-after q r visit.day);
        }

    reached-out : conditions_met q visit.day ≡ false → Reached q n (visit_after visit (next_day q visit.day))
    reached-out f =
        let m = matches-out visit.day h f in
        record {
          visits = visits-next;
          matching = sym m ∙ c.matching;
          counted = omega (arith, c.counted, ap length m);
          seen = omega (arith, c.seen, ap length (rest_more q r visit.day h));
          fewer = omega (arith, c.fewer);
          gone = omega (arith, c.gone, next-after q r visit.day);
        }

  -- past the last day, and past the last match
  none_ahead : (until : ℕ) → NoneAfter q until → (n d : ℕ) → until < d → filtered (conditions_met q) (visited_from q n d) ≡ []
  none_ahead until quiet zero d h = unfold visited_from filtered in refl
  none_ahead until quiet (suc n) d h = go (dec_le d q.last) (none_ahead until quiet n (next_day q d) (omega (arith, next-after q r d)))
    where
      go : Dec (d ≤ q.last) → filtered (conditions_met q) (visited_from q n (next_day q d)) ≡ [] → filtered (conditions_met q) (visited_from q (suc n) d) ≡ []
      go (yes l) ih =
          ap (filtered (conditions_met q)) (visit-more q r n d l) ∙ filtered-out (conditions_met q) d (visited_from q n (next_day q d)) (quiet d h l) ∙ ih
      go (no l) ih = ap (filtered (conditions_met q)) (visit-end q r (suc n) d (omega arith)) ∙ filtered-nil (conditions_met q)

  between : (d m : ℕ) → d < m → m < next_day q d → conditions_met q m ≡ false
  between d m h l =
      ap (conditions_met q) (omega arith)
      ∙ outside-unmatched q (d + (m - d)) (skipped q r d (m - d) (omega arith) (omega arith))

-- `latest` is a day of the span, and no day after it and before d matches
pub record Latest (q : Query) (d latest : ℕ) : Type 0 where
  pub from_first : q.first ≤ latest
  pub to_last : latest ≤ q.last
  pub quiet : (m : ℕ) → latest < m → m < d → conditions_met q m ≡ false

module _ (q : Query) (r : body_arcs_in_range (sun_arcs q) ≡ true) where
  latest-start : q.first ≤ q.last → (d : ℕ) → d ≡ q.first → Latest q d d
  latest-start h d e = record { from_first = omega arith; to_last = omega arith; quiet = λ m a b. absurd (omega arith) }

  latest-in : (d : ℕ) → d ≤ q.last → q.first ≤ d → Latest q (next_day q d) d
  latest-in d h f = record { from_first = f; to_last = h; quiet = λ m a b. between q r d m a b }

  latest-out : (d latest : ℕ) → conditions_met q d ≡ false → Latest q d latest → Latest q (next_day q d) latest
  latest-out d latest f c =
      record { from_first = c.from_first; to_last = c.to_last; quiet = λ m a b. before m a b (dec_le (suc m) d) (dec_le (suc d) m) }
    where
      before : (m : ℕ) → latest < m → m < next_day q d → Dec (suc m ≤ d) → Dec (suc d ≤ m) → conditions_met q m ≡ false
      before m a b (yes l) u = c.quiet m a (omega arith)
      before m a b (no l) (yes u) = between q r d m (omega arith) b
      before m a b (no l) (no u) = ap (conditions_met q) (omega arith) ∙ f

  latest-end : (until : ℕ) → NoneAfter q until → (d latest : ℕ) → until < d → Latest q d latest → LastMatch q latest
  latest-end until quiet d latest h c =
      record { from_first = c.from_first; to_last = c.to_last; none-later = λ m a b. after-match m a b (dec_le (suc m) d) }
    where
      after-match : (m : ℕ) → latest < m → m ≤ q.last → Dec (suc m ≤ d) → conditions_met q m ≡ false
      after-match m a b (yes l) = c.quiet m a (omega arith)
      after-match m a b (no l) = quiet m (omega arith) b

-- all that holds of a pass before a visit: n days match so far, of which those for which the output has room were put,
-- and `resume` is the visit after the last of these
pub record Scanning (q : Query) (start : Visit) (count : ℕ) (output output' : List ℕ) (visit : Visit) (n latest : ℕ) (resume : Visit) : Type 0 where
  pub reached : Reached q n visit
  pub early : n ≤ capacity output → Reached q n resume
  pub late : capacity output ≤ n → Reached q (capacity output) resume
  pub last-match : start.day ≡ q.first → Latest q visit.day latest
  pub put : with_entries_from output' n (matches_from q visit.day) ≡ with_entries_from output count (drop count (matching_days q))
  pub size : length output' ≡ length output

module _ (q : Query) (start : Visit) (count : ℕ) (output : List ℕ) (e : refusal_of q ≡ 0) where
  pub scanning-start : Reached q count start → count ≤ capacity output → Scanning q start count output output start count start.day start
  scanning-start c h =
      record {
        reached = c;
        early = λ l. c;
        late = λ l. subst (λ (k : ℕ). Reached q k start) (omega arith) c;
        last-match = λ f. latest-start q (accepted-by q e).sun (accepted-by q e).first start.day f;
        put = ap (with_entries_from output count) c.matching;
        size = refl;
      }

  module _ (output' : List ℕ) (visit : Visit) (n latest : ℕ) (resume : Visit) (s : Scanning q start count output output' visit n latest resume) where
    pub scanning-end :
        (until : ℕ) → until ≤ q.last → NoneAfter q until → until < visit.day →
        Tallied q start until (capacity output) (record { length = n; examined = visit.examined; latest = latest; resume = resume })
        × (output' ≡ with_entries_from output count (drop count (matching_days q)))
    scanning-end until h quiet d =
        let r = (accepted-by q e).sun in
        let none = none_ahead q r until quiet (q.last + 1 - visit.day) visit.day d in (
          record {
            count = omega (arith, s.reached.counted, ap length none);
            visits = λ f. omega (arith, s.reached.seen, ap length (rest_end q r visit.day (omega arith)));
            last-match = λ f. latest-end q r until quiet visit.day latest d (s.last-match f);
            resumes = λ l. s.late l;
          },
          nothing-more none ∙ s.put,
        )
      where
        nothing-more : matches_from q visit.day ≡ [] → output' ≡ with_entries_from output' n (matches_from q visit.day)
        nothing-more f = sym (ap (with_entries_from output' n) f ∙ unfold with_entries_from in refl)

    module _ (h : visit.day ≤ q.last) where
      pub scanning-visit : VisitAt q visit.examined visit.day
      scanning-visit = reached-visit q (accepted-by q e).sun n visit h s.reached

      module _ (seen : Examined) (v : Seen q visit.day seen) where
        matched : (b : Bool) → seen.matches ≡ b → conditions_met q visit.day ≡ b
        matched b f = sym (ap (λ (x : Examined). x.matches) v.handed) ∙ f

        pub scanning-in :
            (output'' : List ℕ) (resume' : Visit) →
            seen.matches ≡ true →
            output'' ≡ with_entry output' n visit.day →
            (n < capacity output → resume' ≡ visit_after visit seen.next) →
            (capacity output ≤ n → resume' ≡ resume) →
            Scanning q start count output output'' (visit_after visit seen.next) (n + 1) visit.day resume'
        scanning-in output'' resume' f w put-here not-put =
            let r = (accepted-by q e).sun in
            let next = reached-in q r n visit h s.reached (matched true f) in
            let after-it = ap (λ (x : Examined). x.next) v.handed in
            let here : n < capacity output → resume' ≡ visit_after visit (next_day q visit.day) = λ l. put-here l ∙ ap (visit_after visit) after-it in
            rw after-it
            (record {
              reached = next;
              early = λ l. rw (here (omega arith)) next;
              late = λ l. full next here not-put (dec_le (suc n) (capacity output)) l;
              last-match = λ g. latest-in q r visit.day h (omega (arith, s.reached.gone));
              put = rw w (one_more r f) ∙ s.put;
              size = ap length w ∙ with-entry-length output' n visit.day ∙ s.size;
            })
          where
            full :
                Reached q (n + 1) (visit_after visit (next_day q visit.day)) →
                (n < capacity output → resume' ≡ visit_after visit (next_day q visit.day)) →
                (capacity output ≤ n → resume' ≡ resume) →
                Dec (suc n ≤ capacity output) →
                capacity output ≤ n + 1 →
                Reached q (capacity output) resume'
            full next here not (yes l) g = rw (here l) (subst (λ (k : ℕ). Reached q k (visit_after visit (next_day q visit.day))) (omega arith) next)
            full next here not (no l) g = rw (not (omega arith)) (s.late (omega arith))

            one_more :
                body_arcs_in_range (sun_arcs q) ≡ true →
                seen.matches ≡ true →
                with_entries_from (with_entry output' n visit.day) (n + 1) (matches_from q (next_day q visit.day)) ≡ with_entries_from output' n (matches_from q visit.day)
            one_more r f = sym (ap (with_entries_from output' n) (matches-in q r visit.day h (matched true f)) ∙ unfold with_entries_from in refl)

        pub scanning-out : seen.matches ≡ false → Scanning q start count output output' (visit_after visit seen.next) n latest resume
        scanning-out f =
            let r = (accepted-by q e).sun in
            let after-it = ap (λ (x : Examined). x.next) v.handed in
            rw after-it
            (record {
              reached = reached-out q r n visit h s.reached (matched false f);
              early = s.early;
              late = s.late;
              last-match = λ g. latest-out q r visit.day latest (matched false f) (s.last-match g);
              put = ap (with_entries_from output' n) (sym (matches-out q r visit.day h (matched false f))) ∙ s.put;
              size = s.size;
            })

-- a pass over the whole span can begin
pub scannable-first : (q : Query) (start : Visit) (room : ℕ) → refusal_of q ≡ 0 → start ≡ first_visit q → Scannable q start 0 q.last room
scannable-first q start room e f =
    record {
      accepts = e;
      reached = rw f (reached-start q (accepted-by q e).sun);
      fits = omega arith;
      ends = omega arith;
      none-later = λ m a b. absurd (omega arith);
    }

-- a pass that found more days than there was room for can be resumed, up to its last match
pub scannable-rest :
    (q : Query) (start : Visit) (room larger : ℕ) (tally : Tally) →
    refusal_of q ≡ 0 →
    start ≡ first_visit q →
    Tallied q start q.last room tally →
    room ≤ tally.length →
    room ≤ larger →
    Scannable q tally.resume room tally.latest larger
scannable-rest q start room larger tally e f t l m =
    let last = t.last-match (ap (λ (p : Visit). p.day) f) in
    record { accepts = e; reached = t.resumes l; fits = m; ends = last.to_last; none-later = last.none-later }

-- a query over one day alone can be examined on it, and says of it what is said of any day
module _ (q : Query) (n : ℕ) (alone : Query) (visit : Visit) (e : refusal_of q ≡ 0) (h : n ≤ last_day) (f : alone ≡ over q n n) (g : visit ≡ first_visit alone) where
  alone-accepted : refusal_of (over q n n) ≡ 0
  unfolding refusal_of conditions_in_range elements_in_range
  alone-accepted = let a = accepted-by q e in accepts (over q n n) a.edition (omega arith) h (unfold conditions_in_range in a.conditions)

  alone-span : in_span (over q n n) n ≡ true
  alone-span = in-span (over q n n) n (omega arith) (omega arith)

  pub alone-due : (refusal_of alone ≡ 0) × ((in_span alone visit.day ≡ true) × VisitAt alone visit.examined visit.day)
  alone-due =
      let a = accepted-by (over q n n) alone-accepted in
      rw (g, f)
      (alone-accepted, (alone-span, reached-visit (over q n n) a.sun 0 (first_visit (over q n n)) a.first (reached-start (over q n n) a.sun)))

  pub alone-seen : (seen : Examined) → seen ≡ looked alone visit.day → seen ≡ record { matches = conditions_met q n; next = next_day q n }
  unfolding conditions_met next_day sun_in_arcs
  alone-seen seen s = s ∙ rw (g, f) (looked-at (over q n n) n alone-span)

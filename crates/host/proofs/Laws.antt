-- What `graha_day_result` hands back is the refusal of every call that takes a day: each answer is refused exactly past
-- the last day, by cases on whether there is such a day. And the host's query is a query as paper 01 has it, so the
-- laws of `search/proofs/Single.antt` hold of its search.
-- Assumes nothing.
use mathlib.Core.Bool.{true}
use mathlib.Core.List.{◌∷◌}
use mathlib.Core.Path.{◌≡◌, refl}
use Prim.Native.Nat.{ℕ, ◌<◌, ◌≤◌}
use native.Mathlib.Decide.{dec_le}
use native.Mathlib.Omega.{arith}
use lib.ListN.{replicate}
use borrow.Author.Tests.{le-leb, lt-leb}
use Rattle.days.specs.declared.Day.{Day}
use Rattle.std.specs.Result.{result_unwrap_or}
use Rattle.days.specs.Refusals.{accepted, out_of_range, result_number}
use Rattle.days.specs.Days.{last_day, pair_at, answer_on, day_of}
use Rattle.days.proofs.Laws.{pair-in-range, day-of, past-last, given, refused}
use Rattle.civil.specs.Answers.{date_of_day}
use Rattle.longitudes.specs.declared.Body.{Body}
use Rattle.longitudes.specs.Answers.{body_number, the_longitude, longitude_of, the_nine, longitudes_of}
use Rattle.panchanga.specs.TrueLongitudes.{first_edition}
use Rattle.panchanga.specs.OnDays.{panchanga_at, panchanga_of}
use Rattle.panchanga.proofs.Answers.{first-edition}
use Rattle.query.specs.Conditions.{no_arc}
use Rattle.search.proofs.PaperQuery.{not_one, query_of}
use Rattle.host.specs.Calls.{on_number}
use Rattle.host.specs.HostQuery.{host_query}
use Rattle.host.proofs.OnNumbers.{pair-past-last, on-number}

-- the answers for the day number n: its date, and what is reckoned from `pair_at n`, which the calls make of n also
-- past the last day
pub record Refused (n refusal : ℕ) : Type 0 where
  pub date : result_number (date_of_day n) ≡ refusal
  pub longitudes : result_number (longitudes_of (pair_at n)) ≡ refusal
  pub longitude : (b : Body) → result_number (longitude_of b (pair_at n)) ≡ refusal
  -- of the first edition, as all calls are
  pub elements : result_number (panchanga_of first_edition (pair_at n)) ≡ refusal
  -- each single number f of a day: the weekday, a mean longitude's seconds or thirds, the true Sun and Moon, an element
  pub number : (f : Day → ℕ) → result_number (answer_on f (pair_at n)) ≡ refusal

there-is : (n : ℕ) → n ≤ last_day → Refused n accepted
unfolding date_of_day longitude_of longitudes_of result_number
there-is n h =
    let d = pair_at n in
    let range = pair-in-range n h in
    record {
      date = rw (le-leb _ _ h);
      longitudes = rw (given the_nine d range);
      longitude = λ b. rw (given (the_longitude (body_number b)) d range);
      elements = rw (first-edition panchanga_at d, given (panchanga_at first_edition) d range);
      number = λ f. rw (given f d range);
    }

there-is-none : (n : ℕ) → last_day < n → Refused n out_of_range
unfolding date_of_day longitude_of longitudes_of result_number
there-is-none n h =
    let d = pair_at n in
    let range = pair-past-last n h in
    record {
      date = rw (lt-leb _ _ h);
      longitudes = rw (refused the_nine d range);
      longitude = λ b. rw (refused (the_longitude (body_number b)) d range);
      elements = rw (first-edition panchanga_at d, refused (panchanga_at first_edition) d range);
      number = λ f. rw (refused f d range);
    }

pub day-result : (n : ℕ) → Refused n (result_number (day_of n))
unfolding result_number
day-result n = go (dec_le n last_day)
  where
    go : Dec (n ≤ last_day) → Refused n (result_number (day_of n))
    go (yes h) = rw (day-of n h) (there-is n h)
    go (no h) = let k : last_day < n = omega arith in rw (past-last n k) (there-is-none n k)

-- the number that a call hands back is the number of the answer that has this refusal
pub day-number : (f : Day → ℕ) (n : ℕ) → result_unwrap_or (answer_on f (pair_at n)) 0 ≡ on_number f n
day-number f n = on-number f n {d = pair_at n} refl refl

-- the host's query is one of paper 01's: one weekday and one Sun arc, both given, and nothing else
pub host-single :
    (first last start width weekday : ℕ) →
    host_query first last start width weekday
    ≡ query_of
    (record {
      first = first;
      last = last;
      edition = first_edition;
      weekday = record { given = true; value = weekday };
      tithi = not_one;
      nakshatra = not_one;
      yoga = not_one;
      arcs = record { given = true; start = start; width = width } ∷ replicate 8 no_arc;
    })
unfolding host_query
host-single first last start width weekday = refl

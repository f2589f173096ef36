-- The promise fixes the answer: from the numbers of a reason the reason comes back, so no two answers have the numbers
-- that a question is to have.
-- Assumes nothing.
use Prim.Native.Nat.{ℕ, ◌+◌, ◌-◌}
use mathlib.Core.Path.{◌≡◌, refl, sym, ap, ◌∙◌}
use mathlib.Core.Bool.{cond, false≢true}
use native.Mathlib.Omega.{arith}
use lib.Dec.{eqb}
use Rattle.std.specs.Prelude.{Result, Ok, Err}
use Rattle.days.specs.declared.refusal.Refusal.{Refusal}
use Rattle.days.specs.declared.refusal.Refusal.TheVariants.{NoSuchDate, OutOfRange, BadInput, NoSuchWeekday, LastBeforeFirst, BadCondition, ListTooShort, NoExtraMonth, BadLength, BadChecksum, BadIndex, NotZero, BadDay, BadEdition, BadLine, NoSuchBody}
use Rattle.days.specs.Refusals.{refusal_number}
use Rattle.panchanga.specs.TrueLongitudes.{is_edition}
use Rattle.query.specs.declared.Query.{Query}
use Rattle.reasons.specs.declared.Answer.{Answer}
use Rattle.reasons.specs.declared.Reason.{Reason}
use Rattle.reasons.specs.declared.Reason.TheVariants.{Fits, BeforeSpan, AfterSpan, Weekday, Tithi, Nakshatra, Yoga, Karana, Arcs, TrueArcs}
use Rattle.reasons.specs.Conditions.{Wanted, nothing, bound, any_of, mean_arcs, true_arcs, Cause}
use Rattle.reasons.specs.Reasons.{Numbers, why_of, cause_of, numbers_of}
use Rattle.reasons.proofs.Laws.{edition-told}

-- the reason that has these numbers
unfoldable reason_from : Cause → Reason
reason_from c = by c.asked c.condition c.found
  where
    by : Wanted → ℕ → ℕ → Reason
    by nothing k found = Fits
    by (bound day) k found = cond (eqb k 1) (BeforeSpan day found) (AfterSpan day found)
    by (any_of set) k found =
        cond (eqb k 3) (Weekday set found)
        (cond (eqb k 4) (Tithi set found)
        (cond (eqb k 5) (Nakshatra set found) (cond (eqb k 6) (Yoga set found) (Karana set found))))
    by (mean_arcs arcs) k found = Arcs (k - 7) arcs found
    by (true_arcs arcs) k found = TrueArcs (k - 17) arcs found

reason-back : (r : Reason) → reason_from (cause_of r) ≡ r
unfolding reason_from cause_of
reason-back Fits = refl
reason-back (BeforeSpan first day) = refl
reason-back (AfterSpan last day) = refl
reason-back (Weekday asked found) = refl
reason-back (Tithi asked found) = refl
reason-back (Nakshatra asked found) = refl
reason-back (Yoga asked found) = refl
reason-back (Karana asked found) = refl
reason-back (Arcs body asked found) = let back : 7 + body - 7 ≡ body = omega arith in rw back
reason-back (TrueArcs place asked found) = let back : 17 + place - 17 ≡ place = omega arith in rw back

-- the refusal that has this number
unfoldable refusal_from : ℕ → Refusal
refusal_from n =
    cond (eqb n 1) NoSuchDate
    (cond (eqb n 2) OutOfRange
    (cond (eqb n 3) BadInput
    (cond (eqb n 4) NoSuchWeekday
    (cond (eqb n 5) LastBeforeFirst
    (cond (eqb n 6) BadCondition
    (cond (eqb n 7) ListTooShort
    (cond (eqb n 8) NoExtraMonth
    (cond (eqb n 9) BadLength
    (cond (eqb n 10) BadChecksum
    (cond (eqb n 11) BadIndex
    (cond (eqb n 12) NotZero
    (cond (eqb n 13) BadDay
    (cond (eqb n 14) BadEdition
    (cond (eqb n 15) BadLine NoSuchBody))))))))))))))

refusal-back : (r : Refusal) → refusal_from (refusal_number r) ≡ r
unfolding refusal_from
refusal-back NoSuchDate = refl
refusal-back OutOfRange = refl
refusal-back BadInput = refl
refusal-back NoSuchWeekday = refl
refusal-back LastBeforeFirst = refl
refusal-back BadCondition = refl
refusal-back ListTooShort = refl
refusal-back NoExtraMonth = refl
refusal-back BadLength = refl
refusal-back BadChecksum = refl
refusal-back BadIndex = refl
refusal-back NotZero = refl
refusal-back BadDay = refl
refusal-back BadEdition = refl
refusal-back BadLine = refl
refusal-back NoSuchBody = refl

module _ (q : Query) (n : ℕ) where
  -- a refusal is no answer that is told
  not-both : (refusal : Refusal) (answer : Answer) → numbers_of (Err refusal) ≡ why_of q n → numbers_of (Ok answer) ≡ why_of q n → ⊥
  unfolding numbers_of is_edition
  not-both refusal answer refused told = false≢true (ap (λ (x : Numbers). is_edition x.edition) refused ∙ edition-told q n (ap (λ (x : Numbers). x.refusal) (sym told)))

  -- THE ANSWER IS FIXED by its numbers
  pub answer-fixed : (a b : Result Answer Refusal) → numbers_of a ≡ why_of q n → numbers_of b ≡ why_of q n → a ≡ b
  unfolding numbers_of
  answer-fixed (Err r) (Err s) ea eb = ap Err (sym (refusal-back r) ∙ ap (λ (x : Numbers). refusal_from x.refusal) (ea ∙ sym eb) ∙ refusal-back s)
  answer-fixed (Err r) (Ok b) ea eb = absurd (not-both r b ea eb)
  answer-fixed (Ok a) (Err s) ea eb = absurd (not-both s a eb ea)
  answer-fixed (Ok a) (Ok b) ea eb =
      let same = ea ∙ sym eb in
      let edition : a.edition ≡ b.edition = ap (λ (x : Numbers). x.edition) same in
      let reason : a.reason ≡ b.reason = sym (reason-back a.reason) ∙ ap (λ (x : Numbers). reason_from x.cause) same ∙ reason-back b.reason in
      rw (edition, reason)

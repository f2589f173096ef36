-- The reply by what was read: accepted, refused, or not read at all; and what is said of the page. Assumes nothing.
use mathlib.Core.List.{List, []}
use mathlib.Core.Path.{◌≡◌, refl, ap, sym, ◌∙◌}
use Prim.Native.Nat.{ℕ, ◌+◌, ◌≤◌, ◌<◌}
use native.Mathlib.Omega.{arith}
use lib.ListN.{length, take}
use borrow.Author.Tests.{lt-ltb, le-ltb}
use Rattle.explanation.specs.Explanations.{explanation_of, explanation_room}
use Rattle.messages.specs.Messages.{fault_line, unreadable_page}
use Rattle.std.specs.Prelude.{Result, Ok, Err, IfErr, is_ok, true, false}
use Rattle.days.specs.Refusals.{refusal_number}
use Rattle.page.specs.declared.Fault.{Fault}
use Rattle.page.specs.Page.{fault_reason}
use Rattle.question.specs.declared.Question.{Question}
use Rattle.question.specs.Questions.{question_read}
use Rattle.question.proofs.Laws.{line-at-fault}
use Rattle.remarks.specs.Remarks.{remarks_of, remarks_room}
use Rattle.remarks.proofs.Putting.{put-none}
use Rattle.text.specs.declared.Line.{Line}
use Rattle.text.specs.Inputs.{too_long}
use Rattle.text.specs.Lines.{newline, empty_line, Holds, refusal_line}
use Rattle.text.specs.Sheets.{put_at}
use Rattle.text.proofs.Holding.{nothing-held}
use Rattle.text.proofs.Sheets.{put_front, put-length}
use Rattle.words.specs.Words.{after_first}
use Rattle.reply.specs.declared.Reply.{Reply}
use Rattle.reply.specs.Replies.{printed_of, said_of, printed_for, said_for, Replied, remarks_for}

-- bytes put at the front of a buffer with room for what is printed, and how many they are
abbrev pub Fronted : List ℕ → List ℕ → ℕ → List ℕ → Type 0
Fronted printed before n after = (n ≡ length printed) × ((after ≡ put_at before 0 printed) × (n ≤ explanation_room))

replied : (printed words before : List ℕ) (n : ℕ) (said : Line) (after : List ℕ) → Fronted printed before n after → Holds said words → Replied printed words before (record { printed = n; said = said }) after
replied printed words before n said after f h = record { bytes = f.0; put = f.1.0; room = f.1.1; on-error = h }

module _ (read : Result Question Fault) (before : List ℕ) (n : ℕ) (said : Line) (after : List ℕ) where
  pub accepted-reply : {q : Question} → read ≡ Ok q → Fronted (explanation_of q.print q.query q.day) before n after → said ≡ empty_line → Replied (printed_of read) (said_of read) before (record { printed = n; said = said }) after
  unfolding printed_of said_of
  accepted-reply e p s = rw e (replied _ _ before n said after p (nothing-held said s))

  pub refused-reply : {f : Fault} → read ≡ Err f → Fronted (refusal_line (refusal_number f.refusal)) before n after → Holds said (fault_line f.line (refusal_number f.refusal) (fault_reason f)) → Replied (printed_of read) (said_of read) before (record { printed = n; said = said }) after
  unfolding printed_of said_of
  refused-reply e p s = rw e (replied _ _ before n said after p s)

-- a line at fault is among the first so many
pub small-line : (input : List ℕ) → length input < too_long → (read : Result Question Fault) → read ≡ question_read input → IfErr read (λ (f : Fault). f.line < 4294967296)
small-line input h (Ok q) e = tt {0}
small-line input h (Err f) e = omega (arith, line-at-fault input (sym e))

module _ (input before : List ℕ) where
  pub unread-reply : (n : ℕ) (said : Line) (after : List ℕ) → too_long ≤ length input → Fronted (refusal_line 3) before n after → Holds said unreadable_page → Replied (printed_for input) (said_for input) before (record { printed = n; said = said }) after
  unfolding printed_for said_for
  unread-reply n said after h p s = rw (le-ltb (length input) too_long h) (replied _ _ before n said after p s)

  pub read-reply : {reply : Reply} {q : Result Question Fault} {after : List ℕ} → length input < too_long → q ≡ question_read input → Replied (printed_of q) (said_of q) before reply after → Replied (printed_for input) (said_for input) before reply after
  unfolding printed_for said_for
  read-reply h e k = rw (lt-ltb (length input) too_long h) (rw e at k)

-- what is printed can be lent
module _ (printed said before : List ℕ) (reply : Reply) (after : List ℕ) (r : Replied printed said before reply after) (size : length before ≡ explanation_room) where
  pub printed-fits : reply.printed ≤ length after
  printed-fits = omega (arith, r.room, r.bytes, ap length r.put ∙ put-length before 0 printed (omega (arith, r.room, r.bytes)))

  pub printed-front : take reply.printed after ≡ printed
  printed-front =
      let none : 0 + length printed ≡ length printed = omega arith in
      rw (r.bytes, r.put) (rw none at (put_front before 0 printed (omega (arith, r.room, r.bytes))))

-- what is said of how a page was understood, put at the front of a buffer
abbrev pub Said : List ℕ → List ℕ → ℕ → List ℕ → Type 0
Said bytes before n after = (n ≡ length bytes) × ((after ≡ put_at before 0 bytes) × (n ≤ remarks_room))

module _ (input : List ℕ) (before : List ℕ) where
  none_said : remarks_for input ≡ [] → Said (remarks_for input) before 0 before
  none_said e = rw e (refl, (sym (put-none before 0 refl), omega arith))

  pub unread-said : too_long ≤ length input → Said (remarks_for input) before 0 before
  unfolding remarks_for
  unread-said h = none_said (rw (le-ltb (length input) too_long h))

  module _ (q : Result Question Fault) (h : length input < too_long) (e : q ≡ question_read input) where
    pub refused-said : is_ok q ≡ false → Said (remarks_for input) before 0 before
    unfolding remarks_for
    refused-said r = none_said (rw (lt-ltb (length input) too_long h, ← e, r))

    pub accepted-said : is_ok q ≡ true → (page : List ℕ) → page ≡ after_first newline input → (n : ℕ) (after : List ℕ) → Said (remarks_of 2 page) before n after → Said (remarks_for input) before n after
    unfolding remarks_for
    accepted-said r page p n after said = rw (lt-ltb (length input) too_long h, ← e, r, ← p) said

-- From the bytes of the input to the bytes that are printed, and to those that are said on standard error.
-- Assumes nothing.
use Rattle.std.specs.Prelude.{cond, ◌&&◌, List, [], ◌≡◌, ℕ, ◌≤◌, ltb, length, Result, Ok, Err, is_ok}
use Rattle.days.specs.Refusals.{bad_input, refusal_number}
use Rattle.explanation.specs.Explanations.{explanation_of, explanation_room}
use Rattle.messages.specs.Messages.{fault_line, unreadable_page}
use Rattle.page.specs.declared.Fault.{Fault}
use Rattle.page.specs.Page.{fault_reason}
use Rattle.question.specs.declared.Question.{Question}
use Rattle.question.specs.Questions.{question_read}
use Rattle.remarks.specs.Remarks.{remarks_of}
use Rattle.text.specs.Inputs.{too_long}
use Rattle.text.specs.Lines.{newline, Holds, refusal_line}
use Rattle.text.specs.Sheets.{put_at}
use Rattle.words.specs.Words.{after_first}
use Rattle.reply.specs.declared.Reply.{Reply}

-- for what was read: the line that says why, or the refusal; and with a refusal which line is at fault
unfoldable pub printed_of : Result Question Fault → List ℕ
printed_of (Ok q) = explanation_of q.print q.query q.day
printed_of (Err f) = refusal_line (refusal_number f.refusal)

unfoldable pub said_of : Result Question Fault → List ℕ
said_of (Ok q) = []
said_of (Err f) = fault_line f.line (refusal_number f.refusal) (fault_reason f)

-- ALL THAT IS PRINTED for an input
unfoldable pub printed_for : List ℕ → List ℕ
printed_for input = cond (ltb (length input) too_long) (printed_of (question_read input)) (refusal_line bad_input)

-- all that is said
unfoldable pub said_for : List ℕ → List ℕ
said_for input = cond (ltb (length input) too_long) (said_of (question_read input)) unreadable_page

-- a reply that has these bytes to print, at the front of a buffer that has room for them, and these to say
pub record Replied (printed said before : List ℕ) (reply : Reply) (after : List ℕ) : Type 0 where
  pub bytes : reply.printed ≡ length printed
  pub put : after ≡ put_at before 0 printed
  pub room : reply.printed ≤ explanation_room
  pub on-error : Holds reply.said said

-- all that is said of how an accepted page was understood, whose first line is the input's second
unfoldable pub remarks_for : List ℕ → List ℕ
remarks_for input =
    cond (ltb (length input) too_long && is_ok (question_read input)) (remarks_of 2 (after_first newline input)) []

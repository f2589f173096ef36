-- The catalogue as it is put, piece by piece, at the front of a lent buffer: the heading, or the lines of a list's days
-- from an entry on, as many as fit whole.
-- Assumes nothing.
use Rattle.std.specs.Prelude.{Bool, true, false, cond, ◌&&◌, List, [], ◌∷◌, ◌++◌, ℕ, ◌+◌, ◌-◌, leb, length, drop, Result, Ok, Err}
use Rattle.days.specs.Days.{last_day}
use Rattle.days.specs.Refusals.{accepted, refusal_number}
use Rattle.days.specs.declared.refusal.Refusal.TheVariants.{BadEdition, OutOfRange}
use Rattle.entries.specs.declared.NotPut.{NotPut}
use Rattle.entries.specs.declared.NotPut.TheVariants.{Refused, TooShort}
use Rattle.entries.specs.Told.{why_not}
use Rattle.entries.specs.Listed.{listed_from}
use Rattle.names.specs.declared.Print.{Print}
use Rattle.panchanga.specs.TrueLongitudes.{is_edition}
use Rattle.catalogue.specs.declared.Piece.{Piece}
use Rattle.catalogue.specs.Catalogue.{catalogue_heading, day_line}

-- the lines of days in a form and an edition, one after another
unfoldable pub day_lines : Print → ℕ → List ℕ → List ℕ
day_lines form ed [] = []
day_lines form ed (d ∷ ds) = day_line form ed d ++ day_lines form ed ds

-- whether a number is a day whose line fits whole into so many bytes
unfoldable pub line_fits : Print → ℕ → ℕ → ℕ → Bool
line_fits form ed room d = leb d last_day && leb (length (day_line form ed d)) room

-- the days in front whose lines, one after another, fit whole into so many bytes; a number that is no day ends them
unfoldable pub printed_days : Print → ℕ → ℕ → List ℕ → List ℕ
printed_days form ed room [] = []
printed_days form ed room (d ∷ ds) = elim (line_fits form ed room d) [ true ↦ d ∷ printed_days form ed (room - length (day_line form ed d)) ds | false ↦ [] ]

-- bytes put at a buffer's front, and behind them what was there
abbrev pub with_front : List ℕ → List ℕ → List ℕ
with_front bytes before = bytes ++ drop (length bytes) before

-- what was put: how many bytes, and which entry comes next
abbrev pub the_piece : ℕ → ℕ → Piece
the_piece bytes next = record { bytes = bytes; next = next }

-- an answer by its numbers: 0 or the refusal's; the bytes put, or by 7 those that would do; and the entry that comes
-- next, 0 where it is refused
abbrev pub piece_number : Result Piece NotPut → ℕ
piece_number (Ok piece) = accepted
piece_number (Err not) = refusal_number (why_not not)

abbrev pub piece_bytes : Result Piece NotPut → ℕ
piece_bytes (Ok piece) = piece.bytes
piece_bytes (Err (Refused refusal)) = 0
piece_bytes (Err (TooShort bytes)) = bytes

abbrev pub piece_next : Result Piece NotPut → ℕ
piece_next (Ok piece) = piece.next
piece_next (Err not) = 0

-- accepted, with the lines of these days put, the first of which is entry k's
abbrev pub put_piece : Print → ℕ → ℕ → List ℕ → Result Piece NotPut
put_piece form ed k days = Ok (the_piece (length (day_lines form ed days)) (k + length days))

-- the answer where the lines of these days, the first of which is entry k's, are due for a buffer of so many bytes
unfoldable pub piece_of : Print → ℕ → ℕ → ℕ → List ℕ → Result Piece NotPut
piece_of form ed room k [] = Ok (the_piece 0 k)
piece_of form ed room k (d ∷ ds) =
    cond (leb d last_day)
    (cond (leb (length (day_line form ed d)) room) (put_piece form ed k (printed_days form ed room (d ∷ ds))) (Err (TooShort (length (day_line form ed d)))))
    (Err (Refused OutOfRange))

-- the answer for a list's lines from entry k on
abbrev pub lines_piece : Print → ℕ → List ℕ → ℕ → ℕ → Result Piece NotPut
lines_piece form ed list k room = piece_of form ed room k (listed_from list k)

-- the buffer after; by a refusal no day is printed, and it is as it was
abbrev pub lines_after : Print → ℕ → List ℕ → ℕ → List ℕ → List ℕ
lines_after form ed list k before = with_front (day_lines form ed (printed_days form ed (length before) (listed_from list k))) before

-- the answer for the heading, behind which entry 0 comes
unfoldable pub heading_piece : Print → ℕ → ℕ → ℕ → ℕ → Result Piece NotPut
heading_piece form ed found examined room =
    let size : ℕ = length (catalogue_heading form ed found examined) in
    cond (leb size room) (Ok (the_piece size 0)) (Err (TooShort size))

unfoldable pub heading_after : Print → ℕ → ℕ → ℕ → List ℕ → List ℕ
heading_after form ed found examined before =
    let heading : List ℕ = catalogue_heading form ed found examined in
    cond (leb (length heading) (length before)) (with_front heading before) before

-- what a call hands back and leaves for any number: 14 first where it is no edition, and the buffer as it was
abbrev pub of_edition : ℕ → Result Piece NotPut → Result Piece NotPut
of_edition ed piece = cond (is_edition ed) piece (Err (Refused BadEdition))

abbrev pub left_in_edition : ℕ → List ℕ → List ℕ → List ℕ
left_in_edition ed before after = cond (is_edition ed) after before

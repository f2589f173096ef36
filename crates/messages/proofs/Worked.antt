-- Worked messages: what is said of a fault, and what is right. Both sides compute, so that `refl` proves them.
-- Assumes nothing.
use mathlib.Core.Path.{◌≡◌, refl}
use mathlib.Core.List.{[], ◌∷◌}
use Rattle.page.specs.Page.{unknown_word, not_ended, other_values}
use Rattle.text.specs.Ascii.{ascii}
use Rattle.text.specs.Decimal.{digits_within, digits_of}
use Rattle.words.specs.Words.{name_at}
use Rattle.messages.specs.Messages.{refusal_text, condition_takes, arcs_take, takes_text, values_text, fault_text, fault_line}

pub worked :
    fault_line 2 3 (other_values 1)
    ∷ fault_line 1 6 (other_values 6)
    ∷ fault_line 10 3 (other_values 22)
    ∷ fault_line 3 3 (other_values 23)
    ∷ fault_line 1 3 unknown_word
    ∷ fault_line 4 3 not_ended
    ∷ fault_line 1 5 0
    ∷ []
    ≡ ascii "line 2: weekday takes one to seven of monday to sunday or 0 to 6\n"
    ∷ ascii "line 1: sun takes one or two arcs: a start and a width, a start `to` an end, or a sign of mesha to mina\n"
    ∷ ascii "line 10: true_saturn takes one or two arcs: a start and a width, a start `to` an end, or a sign of mesha to mina\n"
    ∷ ascii "line 3: print takes names or csv\n"
    ∷ ascii "line 1: no line begins with this word\n"
    ∷ ascii "line 4: the last line has no newline; end it with the Enter key\n"
    ∷ ascii "line 1: the last day is before the first\n"
    ∷ []
unfolding digits_within digits_of name_at refusal_text condition_takes arcs_take takes_text values_text fault_text fault_line
worked = refl

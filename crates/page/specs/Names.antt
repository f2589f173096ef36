-- The words that a line begins with: the span, the weekday, three elements, the edition, the bodies in paper 01's
-- order, the fourth element, the true places, and how the days are printed; and the words that this one takes.
-- Assumes nothing.
use Rattle.std.specs.Prelude.{List, [], ◌∷◌, ◌++◌, ℕ}
use Rattle.text.specs.Ascii.{ascii}
use Rattle.words.specs.Names.{body_names, true_names}

abbrev pub condition_names : List (List ℕ)
condition_names = ascii "span" ∷ ascii "weekday" ∷ ascii "tithi" ∷ ascii "nakshatra" ∷ ascii "yoga" ∷ ascii "edition" ∷ []

abbrev pub karana_name : List (List ℕ)
karana_name = ascii "karana" ∷ []

abbrev pub print_name : List (List ℕ)
print_name = ascii "print" ∷ []

abbrev pub keywords : List (List ℕ)
keywords = condition_names ++ (body_names ++ (karana_name ++ (true_names ++ print_name)))

abbrev pub print_names : List (List ℕ)
print_names = ascii "names" ∷ ascii "csv" ∷ []

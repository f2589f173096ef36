-- The parts of a line are put together from theirs: what is put one after another is put at once.
-- Assumes nothing.
use Prim.Native.Nat.{ℕ}
use mathlib.Core.Path.{◌≡◌, ap}
use mathlib.Core.Bool.{Bool, true, false, cond}
use mathlib.Core.List.{List, [], ◌∷◌, ◌++◌, append_assoc}
use Rattle.days.specs.Weekdays.{in_set}
use Rattle.query.specs.declared.BodyArcs.{BodyArcs}
use Rattle.text.specs.Ascii.{ascii}
use Rattle.text.specs.Decimal.{digits_of}
use Rattle.text.specs.declared.Line.{Line}
use Rattle.text.specs.Lines.{space, with_byte, with_bytes}
use Rattle.text.proofs.Lines.{with-byte-is, with-bytes-append}
use Rattle.words.specs.Names.{weekday_names}
use Rattle.words.specs.Words.{name_at}
use Rattle.dated.specs.Dated.{angle_bytes}
use Rattle.explanation.specs.Explanations.{name_in, names_in, seven_days, set_bytes, arc_bytes, weekdays_text, numbers_text, arcs_text}

module _ (l : Line) where
  -- a word behind a space where a set has it, and nothing where not
  pub word_made : {have : Bool} (word : List ℕ) → have ≡ true → with_bytes (with_byte l space) word ≡ with_bytes l (cond have (ascii " " ++ word) [])
  word_made word h = rw h together
    where
      together : with_bytes (with_byte l space) word ≡ with_bytes l (space ∷ word)
      together = simp (with-byte-is, with-bytes-append)

  pub word-left-out : {have : Bool} (word : List ℕ) → have ≡ false → with_bytes l [] ≡ with_bytes l (cond have (ascii " " ++ word) [])
  word-left-out word h = rw h

  pub name-made : (set weekday : ℕ) {name : List ℕ} → in_set set weekday ≡ true → name ≡ name_at weekday_names weekday → with_bytes (with_byte l space) name ≡ with_bytes l (name_in set weekday)
  unfolding name_in
  name-made set weekday h e = rw e (word_made (name_at weekday_names weekday) h)

  pub weekdays-made :
      (asked found : ℕ) {name : List ℕ} →
      name ≡ name_at weekday_names found →
      with_bytes (with_bytes (with_bytes (with_bytes l (ascii "weekday asked")) (names_in asked seven_days)) (ascii " found ")) name ≡ with_bytes l (weekdays_text asked found)
  unfolding weekdays_text
  weekdays-made asked found e = rw e (four (ascii "weekday asked") (names_in asked seven_days) (ascii " found ") (name_at weekday_names found))
    where
      four : (a b c d : List ℕ) → with_bytes (with_bytes (with_bytes (with_bytes l a) b) c) d ≡ with_bytes l (a ++ (b ++ (c ++ d)))
      four a b c d = simp (with-bytes-append, append_assoc)

  pub numbers-made : (name : List ℕ) (asked found : ℕ) → with_bytes (with_bytes (with_bytes (with_bytes (with_bytes l name) (ascii " asked")) (set_bytes asked)) (ascii " found ")) (digits_of found) ≡ with_bytes l (numbers_text name asked found)
  unfolding numbers_text
  numbers-made name asked found = five name (ascii " asked") (set_bytes asked) (ascii " found ") (digits_of found)
    where
      five : (a b c d e : List ℕ) → with_bytes (with_bytes (with_bytes (with_bytes (with_bytes l a) b) c) d) e ≡ with_bytes l (a ++ (b ++ (c ++ (d ++ e))))
      five a b c d e = simp (with-bytes-append, append_assoc)

  pub arcs-made :
      (name : List ℕ) (asked : BodyArcs) (found : ℕ) →
      with_bytes (with_bytes (with_bytes (with_bytes (with_bytes (with_bytes l name) (ascii " asked")) (arc_bytes asked.first)) (arc_bytes asked.second)) (ascii " found ")) (angle_bytes found)
      ≡ with_bytes l (arcs_text name asked found)
  unfolding arcs_text
  arcs-made name asked found = six name (ascii " asked") (arc_bytes asked.first) (arc_bytes asked.second) (ascii " found ") (angle_bytes found)
    where
      six : (a b c d e f : List ℕ) → with_bytes (with_bytes (with_bytes (with_bytes (with_bytes (with_bytes l a) b) c) d) e) f ≡ with_bytes l (a ++ (b ++ (c ++ (d ++ (e ++ f)))))
      six a b c d e f = simp (with-bytes-append, append_assoc)

  -- by the name that a table has
  pub named-arcs : {name : List ℕ} (names : List (List ℕ)) (place : ℕ) (asked : BodyArcs) (found : ℕ) → name ≡ name_at names place → with_bytes l (arcs_text name asked found) ≡ with_bytes l (arcs_text (name_at names place) asked found)
  named-arcs names place asked found e = ap (λ (n : List ℕ). with_bytes l (arcs_text n asked found)) e

  -- why a day does not fit, in one piece or in two
  pub unfit-said : (why : List ℕ) → with_bytes (with_bytes l (ascii " does not fit: ")) why ≡ with_bytes l (ascii " does not fit: " ++ why)
  unfit-said why = with-bytes-append l (ascii " does not fit: ") why

  pub end-said : (words day : List ℕ) → with_bytes (with_bytes (with_bytes l (ascii " does not fit: ")) words) day ≡ with_bytes l (ascii " does not fit: " ++ (words ++ day))
  end-said words day = three (ascii " does not fit: ") words day
    where
      three : (a b c : List ℕ) → with_bytes (with_bytes (with_bytes l a) b) c ≡ with_bytes l (a ++ (b ++ c))
      three a b c = simp (with-bytes-append, append_assoc)

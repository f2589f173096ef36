-- What is put on a line one after another is put at once: the lemmas for it by one name.
-- Assumes nothing.
use mathlib.Core.List.{append_assoc}
use Rattle.text.proofs.Lines.{with-byte-is, with-bytes-append}

pub ruleset puts = (with-byte-is, with-bytes-append, append_assoc)

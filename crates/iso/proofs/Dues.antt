-- When each answer of `day_of` is due: the laws for it by one name.
-- Assumes nothing.
use Rattle.iso.proofs.Laws.{late-day, too-early, no-such-date, later-refused, later-early, later-day}

pub ruleset dues = (late-day, too-early, no-such-date, later-refused, later-early, later-day)

-- `text::Line::put` meets its contract: whether the contents fit, and that they are put whole. Assumes nothing.
use Rattle.std.proofs.Common.{rules, arith, ◌≡◌, ℕ, ◌+◌, ◌-◌, List, ◌++◌, append_assoc, sym, length, take, drop}
use lib.Seq.{drop-drop, paste}
use Rattle.text.proofs.Sheets.{not-put, contents-length, contents-put}
use Rattle.text.proofs.Line.put.Goals as goal
use Rattle.text.proofs.Line.put.Goals.{After-min-len}

size : (c : After-min-len) → length c.args.self.bytes ≡ 160
size c = search rules

-- what is put in the middle, written in order
there : (d s : List ℕ) (at n : ℕ) → take at d ++ (take n s ++ drop n (drop at d)) ≡ paste d at s n
there d s at n = rw (drop-drop n at d) (sym (append_assoc (take at d) (take n s) (drop (at + n) d)))

pub returns-then-buffer-at : goal.returns-then-buffer-at
returns-then-buffer-at c = let both = not-put _ _ _ (omega arith) in record { value = both.0; buffer_after = both.1 }

pub returns-then-buffer-at-2 : goal.returns-then-buffer-at-2
returns-then-buffer-at-2 c =
    let both = not-put _ _ _ (omega (arith, contents-length c.args.self _ (size (goal.at.returns-then-buffer-at-2 c).After-min-len) c.min-len.ensures)) in record { value = both.0; buffer_after = both.1 }

pub returns : goal.returns
returns c =
    let len = c.min-len.result in
    let same : c.args.at + len - c.args.at ≡ len = omega arith in
    let all = size (goal.at.returns c).After-min-len in
    let both = contents-put _ _ all c.min-len.ensures _ _ _ (omega arith) (rw (same, c.copy_from_slice.ensures.after) (there c.args.buffer.now c.args.self.bytes c.args.at len)) in record { value = both.0; buffer_after = both.1 }

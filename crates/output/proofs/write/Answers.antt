-- `write` lends the line's contents: as many of its bytes as its length says, and there are. Assumes nothing.
use Rattle.std.proofs.Common.{rules, sym}
use Rattle.text.proofs.Sheets.{contents-are}
use Rattle.output.proofs.write.Goals as goal

pub write_contents-requires : goal.write_contents-requires
write_contents-requires c = sym (contents-are c.args.line _ (search rules) c.min-len.ensures)

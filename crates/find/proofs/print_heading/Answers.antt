-- `print_heading` meets its contract: its numbers are the query's, and the heading is the output's front. Assumes
-- nothing.
use mathlib.Core.Path.{◌≡◌, ap, sym, ◌∙◌}
use native.Mathlib.Omega.{arith}
use lib.ListN.{length}
use Rattle.find.proofs.Bounds.{heading-short}
use Rattle.find.proofs.Heading.{heading-there, heading-bytes, heading-taken, heading-next}
use Rattle.std.specs.Prelude.{Ok}
use Rattle.catalogue.specs.Pieces.{heading_piece, of_edition}
use Rattle.find.proofs.print_heading.Goals as goal
use Rattle.find.proofs.print_heading.Goals.{After-unwrap-bytes}

told : (c : After-unwrap-bytes) → Ok c.unwrap-bytes.result ≡ of_edition c.args.query.edition (heading_piece c.args.print c.args.query.edition c.args.found.length c.args.found.examined (length c.args.buffer.now))
told c = sym c.unwrap-bytes.ensures ∙ c.heading_in-piece.ensures.value

pub unwrap-bytes-requires : goal.unwrap-bytes-requires
unwrap-bytes-requires c =
    heading-there _ _ c.requires.query_value.0 _ _ c.requires.length_value.0 c.requires.length_value.1 _ c.requires.query_value.1 _ c.heading_in-piece.ensures.value

pub slice_bounds-write_next-end : goal.slice_bounds-write_next-end
slice_bounds-write_next-end c =
    omega (arith, heading-short c.args.print _ c.requires.query_value.0, heading-bytes _ _ c.requires.query_value.0 _ _ c.requires.length_value.0 c.requires.length_value.1 _ c.requires.query_value.1 _ _ (told (goal.at.slice_bounds-write_next-end c).After-unwrap-bytes) c.heading_in-piece.ensures.buffer_after, c.heading_in-piece.auto.buffer)

pub slice_bounds-write_next-end-2 : goal.slice_bounds-write_next-end-2
slice_bounds-write_next-end-2 c =
    heading-bytes _ _ c.requires.query_value.0 _ _ c.requires.length_value.0 c.requires.length_value.1 _ c.requires.query_value.1 _ _ (told (goal.at.slice_bounds-write_next-end-2 c).After-unwrap-bytes) c.heading_in-piece.ensures.buffer_after ∙ ap length (sym (heading-taken _ _ c.requires.query_value.0 _ _ c.requires.length_value.0 c.requires.length_value.1 _ c.requires.query_value.1 _ _ (told (goal.at.slice_bounds-write_next-end-2 c).After-unwrap-bytes) c.heading_in-piece.ensures.buffer_after))

pub write_next-requires : goal.write_next-requires
write_next-requires c =
    heading-next _ _ c.requires.query_value.0 _ _ c.requires.length_value.0 c.requires.length_value.1 _ c.requires.query_value.1 _ _ (told (goal.at.write_next-requires c).After-unwrap-bytes) c.heading_in-piece.ensures.buffer_after

pub returns : goal.returns
returns c =
    heading-bytes _ _ c.requires.query_value.0 _ _ c.requires.length_value.0 c.requires.length_value.1 _ c.requires.query_value.1 _ _ (told (goal.at.returns c).After-unwrap-bytes) c.heading_in-piece.ensures.buffer_after

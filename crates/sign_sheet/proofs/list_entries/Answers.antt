-- `list_entries` meets its contract: the span's refusal decides, else its entries are listed, and all of them have
-- room. Assumes nothing.
use Prim.Native.Nat.{◌≤◌}
use mathlib.Core.Path.{◌≡◌, ap, sym, ◌∙◌}
use native.Mathlib.Omega.{arith}
use lib.ListN.{length}
use borrow.Author.Rules.{rules}
use Rattle.entries.specs.Entries.{capacity}
use Rattle.span_line.specs.declared.Marked.{Marked}
use Rattle.sign_sheet.specs.SignSheets.{sun_meant, most_entries}
use Rattle.sign_sheet.proofs.Lines.{none-listed, all_listed}
use Rattle.sign_sheet.proofs.Together.{refused-together, listed-together}
use Rattle.sign_sheet.proofs.list_entries.Goals as goal
use Rattle.sign_sheet.proofs.list_entries.Goals.{After-entries_by-listing}

-- the list has an entry for each that a span can have
enough : (c : After-entries_by-listing) → most_entries ≤ capacity c.args.list.now
enough c = let size : length c.args.list.now ≡ 52776 = search rules in omega arith

pub returns-in-Err : goal.returns-in-Err
returns-in-Err c =
    let asks = c.of_marked_input-asked.ensures in
    let sun = c.sun_meant-sun.ensures ∙ ap (λ (m : Marked). sun_meant m.marked) asks in
    let span = sym (ap (λ (m : Marked). m.span) asks) ∙ c.in-Err.is in
    let listed = none-listed _ _ _ sun span in
    record { value = listed.0; list_after = listed.1; list_after_2 = refused-together _ _ _ sun span }

pub returns-in-Ok : goal.returns-in-Ok
returns-in-Ok c =
    let asks = c.of_marked_input-asked.ensures in
    let sun = c.sun_meant-sun.ensures ∙ ap (λ (m : Marked). sun_meant m.marked) asks in
    let span = sym (ap (λ (m : Marked). m.span) asks) ∙ c.in-Ok.is in
    let found = c.entries_by-listing.ensures in
    let listed = all_listed _ _ _ sun span _ _ found.value found.list_after in
    record { value = listed.0; list_after = listed.1; list_after_2 = listed-together _ _ _ sun span (enough (goal.at.returns-in-Ok c).After-entries_by-listing) _ _ found.value found.list_after }

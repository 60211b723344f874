-- The groups by which legs are marked are those of all legs of the itineraries.
use Rattle.std.proofs.Common.{◌++◌, ◌∙◌, List, ℕ, ap}
use Rattle.std.proofs.lemmas.Result.{on_ok_weaker}
use Rattle.std.specs.List.{flat_map}
use Rattle.ssim_base.specs.Timetable.{Legs}
use Rattle.ssim_listing.proofs.Joining.{joined}
use Rattle.ssim_listing.specs.clauses.Groups.{group_in, group_of, is_mixed}
use Rattle.ssim_page.specs.Flight.{all_legs, itinerary_lines, key_of, piece_line}
use Rattle.ssim_page.specs.LegRow.{leg_row}
use Rattle.ssim_page.specs.internal.RowLines.{row_lines}
use Rattle.ssim_page.proofs.RowMarks.{flat_map-now, marked_rows}
use Rattle.ssim_page.proofs.flight.push_lines_among.Goals as goal

pub returns : goal.returns
returns c =
    let old = c.args.page.now.items in let found = c.args.found.now in
    let mixed = λ (row : List ℕ). is_mixed (group_in c.in_ok-groups.groups row) in
    let lines = λ (legs : Legs). row_lines mixed (key_of found legs) legs in
    let groups_are = λ (row : List ℕ). ap is_mixed (c.in_ok-groups.ensures row
    ∙ ap (λ (all : List Legs). group_of leg_row (all_legs all) row) c.values.ensures) in
    let its_are = flat_map-now lines c.values-2.result.now
    ∙ (ap (flat_map lines) c.values-2.ensures ∙ marked_rows mixed (key_of found) found groups_are) in
    on_ok_weaker c.push_periods.result
    (λ d. joined old (flat_map (itinerary_lines found) found) (flat_map (piece_line found) c.args.pieces.now)
    (c.in_ok-push_each.ensures ∙ ap (λ (bytes : List ℕ). old ++ bytes) its_are) d)
    c.push_periods.ensures

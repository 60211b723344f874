-- No end, or the departure and then the arrival.
use Rattle.std.proofs.Common.{map, refl, slice_index}
use Rattle.std.proofs.lemmas.Result.{on_ok_weaker}
use Rattle.ssim_overview.specs.StationNotes.{leg_end}
use Rattle.ssim_overview.proofs.NoteEnds.{both_ends, end_read, quiet_leg}
use Rattle.ssim_overview.proofs.leg_ends.add_ends.Goals as goal

pub returns-then-are_quiet : goal.returns-then-are_quiet
returns-then-are_quiet c =
    quiet_leg (map (λ list. list.items) c.args.table.now) c.args.leg.now c.args.period
    c.columns-columns.result (map (λ list. list.items) c.args.ends.now.items) c.requires.period
    c.columns-columns.ensures (c.are_quiet.ensures c.if-are_quiet.true)

pub returns : goal.returns
returns c =
    let columns = c.columns-columns in let dates = c.date_variations.result in
    let from = leg_end c.departure_station.result c.departure_variation-from.result
    (slice_index dates 0) in
    let to = leg_end c.arrival_station.result c.arrival_variation-to.result (slice_index dates 1) in
    on_ok_weaker c.add_end-2.result (λ adds.
    both_ends (map (λ list. list.items) c.args.table.now) c.args.leg.now c.args.period from to
    (map (λ list. list.items) c.args.ends.now.items)
    (map (λ list. list.items) c.add_end.new.ends.items)
    (map (λ list. list.items) c.add_end-2.new.ends.items) c.requires.period
    (end_read columns.result c.args.leg.now.columns dates c.departure_station.result
    c.departure_variation-from.result
    from 37 39 48 52 0 columns.ensures c.date_variations.ensures c.departure_station.ensures
    c.departure_variation-from.ensures refl)
    (end_read columns.result c.args.leg.now.columns dates c.arrival_station.result
    c.arrival_variation-to.result
    to 55 57 66 70 1 columns.ensures c.date_variations.ensures c.arrival_station.ensures
    c.arrival_variation-to.ensures refl)
    c.in_ok-add_end.ensures.adds adds) c.add_end-2.ensures.adds

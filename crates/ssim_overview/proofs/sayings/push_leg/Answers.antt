-- What the departure says, and then the arrival.
use Rattle.std.proofs.Common.{List, map, slice_index, subst}
use Rattle.std.proofs.lemmas.Result.{on_ok_weaker}
use Rattle.ssim_overview.specs.SaidRows.{end_says}
use Rattle.ssim_overview.specs.internal.SaidRows.{AddsSayings, Dated, dated}
use Rattle.ssim_overview.proofs.SaidColumns.{ends_are}
use Rattle.ssim_overview.proofs.SaidStations.{more_sayings}
use Rattle.ssim_overview.proofs.sayings.push_leg.Goals as goal

pub returns : goal.returns
returns c =
    let old = map (λ list. list.items) c.args.sayings.now.items in
    let mid = map (λ list. list.items) c.push_end.new.sayings.items in
    let new = map (λ list. list.items) c.push_end-2.new.sayings.items in
    let dates = c.date_variations.result in
    let first = dated c.args.period (end_says c.departure_station.result
    c.departure_variation-from.result (slice_index dates 0)) in
    let last = dated c.args.period (end_says c.arrival_station.result c.arrival_variation-to.result
    (slice_index dates 1)) in
    on_ok_weaker c.push_end-2.result (λ adds.
    subst (λ (s : List Dated). AddsSayings s old new)
    (ends_are c.args.period c.args.leg.now c.columns-columns.result dates c.departure_station.result
    c.arrival_station.result c.departure_variation-from.result c.arrival_variation-to.result
    c.columns-columns.ensures c.date_variations.ensures c.departure_station.ensures
    c.arrival_station.ensures c.departure_variation-from.ensures c.arrival_variation-to.ensures)
    (more_sayings first last old mid new c.in_ok-push_end.ensures.adds adds)) c.push_end-2.ensures.adds

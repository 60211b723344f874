-- The rows of one station, or nothing if nothing is said of it.
use Rattle.std.proofs.Common.{◌∙◌, ◌++◌, ℕ, List, [], ap, refl, sym}
use Rattle.ssim_base.specs.Stations.{Row}
use Rattle.ssim_overview.specs.Totals.{station_at}
use Rattle.ssim_overview.specs.internal.SaidRows.{dates_said, grown}
use Rattle.ssim_overview.proofs.SaidStations.{no_rows}
use Rattle.ssim_overview.proofs.SaidSteps.{no_items, not_ok}
use Rattle.ssim_overview.proofs.said_table.push_station.Goals as goal

pub returns-then-is_empty : goal.returns-then-is_empty
returns-then-is_empty c =
    no_rows (station_at c.args.rank) c.args.sayings.now c.args.rows.now.items
    (no_items c.args.sayings.now c.args.sayings.now refl
    (sym c.is_empty.ensures ∙ c.if-is_empty.true))

pub returns-in_err-found : goal.returns-in_err-found
returns-in_err-found c = not_ok _ c.from_residual.result c.from_residual.ensures.0

pub returns-in_err-extend_from_slice : goal.returns-in_err-extend_from_slice
returns-in_err-extend_from_slice c =
    not_ok _ c.from_residual-in_err-extend_from_slice.result
    c.from_residual-in_err-extend_from_slice.ensures.0

pub returns : goal.returns
returns c =
    let rows = c.args.rows.now.items in
    c.in_ok-extend_from_slice.ensures.items ∙ ap (λ (r : List Row). rows ++ r)
    (c.deref.ensures.value ∙ c.in_ok-found.ensures
    ∙ ap (λ (s : List ℕ). grown s [] (dates_said c.args.sayings.now 0 36525)) c.station_at.ensures)

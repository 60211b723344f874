-- The one end and then the other.
use Rattle.std.proofs.Common.{List, ℕ, ◌∙◌, ◌||◌, Bool, ap, ap₂, sym}
use Rattle.std.specs.Str.{bytes_eq}
use Rattle.ssim_records.specs.Leg.{leg_columns}
use Rattle.ssim_overview.specs.Totals.{calls_at}
use Rattle.ssim_overview.proofs.StationMarks.{more_marks}
use Rattle.ssim_overview.proofs.station_marks.mark_leg.Goals as goal

pub returns : goal.returns
returns c =
    let columns = c.columns-columns.ensures in
    let departure = c.departure_station.ensures ∙ ap (leg_columns 37 39) columns in
    let arrival = c.arrival_station.ensures ∙ ap (leg_columns 55 57) columns in
    more_marks (bytes_eq c.departure_station.result) (bytes_eq c.arrival_station.result)
    (λ station. calls_at station c.args.leg.now) c.args.marks.now c.mark.new.marks c.mark-2.new.marks
    (λ station. ap₂ (λ (x y : Bool). x || y) (ap (λ (s : List ℕ). bytes_eq s station) (sym departure))
    (ap (λ (s : List ℕ). bytes_eq s station) (sym arrival))) c.mark.ensures c.mark-2.ensures

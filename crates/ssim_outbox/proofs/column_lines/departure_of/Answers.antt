-- The departure is that of the line that the columns have.
use Rattle.std.proofs.Common.{ℕ, List, ◌∙◌, ap}
use Rattle.std.specs.Prelude.{slice_index_or}
use Rattle.ssim_outbox.proofs.ActionParts.{leg_bounded}
use Rattle.ssim_outbox.proofs.ColumnReads.{passenger_is, time_is}
use Rattle.ssim_outbox.proofs.column_lines.departure_of.Goals as goal

pub returns : goal.returns
returns c = λ line h.
    let e = line.departure in
    let b = (leg_bounded line h.is_line).departure in
    c.end_of.ensures e b.variation (c.departure_station.ensures ∙ h.departure)
    (time_is _ e.time _ b.time h.aircraft_departure c.aircraft_departure_time.ensures)
    (ap (λ (digits : List ℕ). slice_index_or digits 0 0)
    (c.date_variations.ensures ∙ h.variations))
    (passenger_is _ e.passenger _ b.passenger h.passenger_departure c.passenger_departure_time.ensures)

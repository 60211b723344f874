-- The arrival is that of the line that the columns have.
use Rattle.std.proofs.Common.{ℕ, List, ◌∙◌, ap}
use Rattle.std.specs.Prelude.{slice_index_or}
use Rattle.ssim_outbox.proofs.ActionParts.{leg_bounded}
use Rattle.ssim_outbox.proofs.ColumnReads.{passenger_is, time_is}
use Rattle.ssim_outbox.proofs.column_lines.arrival_of.Goals as goal

pub returns : goal.returns
returns c = λ line h.
    let e = line.arrival in
    let b = (leg_bounded line h.is_line).arrival in
    c.end_of.ensures e b.variation (c.arrival_station.ensures ∙ h.arrival)
    (time_is _ e.time _ b.time h.aircraft_arrival c.aircraft_arrival_time.ensures)
    (ap (λ (digits : List ℕ). slice_index_or digits 1 0)
    (c.date_variations.ensures ∙ h.variations))
    (passenger_is _ e.passenger _ b.passenger h.passenger_arrival c.passenger_arrival_time.ensures)

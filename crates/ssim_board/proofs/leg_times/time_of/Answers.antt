-- The columns of the end say when.
use Rattle.std.proofs.Common.{◌∙◌, ◌+◌, None, slice_index, sym, ap}
use Rattle.std.specs.Prelude.{unwrap_or}
use Rattle.ssim_board.specs.LegTimes.{arrival_time, days_added, departure_time}
use Rattle.ssim_board.specs.LocalTime.{local_time}
use Rattle.ssim_board.specs.Movements.{time_of}
use Rattle.ssim_board.proofs.leg_times.time_of.Goals as goal

pub returns-in-Departure : goal.returns-in-Departure
unfolding departure_time
returns-in-Departure c =
    c.time_at.ensures
    ∙ ((λ i. local_time c.args.mode (unwrap_or (sym c.departure_variation.ensures i) None)
    (c.args.date + days_added (slice_index (c.date_variations.ensures i) 0) + 1)
    (unwrap_or (sym c.aircraft_departure_time.ensures i) 0))
    ∙ ap (time_of c.args.mode c.args.date c.args.leg.now) (sym c.in-Departure.is))

pub returns-in-Arrival : goal.returns-in-Arrival
unfolding arrival_time
returns-in-Arrival c =
    c.time_at-in-Arrival.ensures
    ∙ ((λ i. local_time c.args.mode (unwrap_or (sym c.arrival_variation.ensures i) None)
    (c.args.date + days_added (slice_index (c.date_variations.ensures i) 1) + 1)
    (unwrap_or (sym c.aircraft_arrival_time.ensures i) 0))
    ∙ ap (time_of c.args.mode c.args.date c.args.leg.now) (sym c.in-Arrival.is))

-- The columns of the end say when.
use Rattle.std.proofs.Common.{◌∙◌, ◌+◌, None, slice_index, sym, ap}
use Rattle.std.specs.Prelude.{unwrap_or}
use Rattle.ssim_board.specs.LegTimes.{arrival_utc, days_added, departure_utc}
use Rattle.ssim_board.specs.LocalTime.{utc_time}
use Rattle.ssim_board.specs.Movements.{utc_time_of}
use Rattle.ssim_board.proofs.leg_times.utc_time_of.Goals as goal

pub returns-in-Departure : goal.returns-in-Departure
unfolding departure_utc
returns-in-Departure c =
    c.utc_time_at.ensures
    ∙ ((λ i. utc_time c.args.mode (unwrap_or (sym c.departure_variation.ensures i) None)
    (c.args.date + days_added (slice_index (c.date_variations.ensures i) 0) + 1)
    (unwrap_or (sym c.aircraft_departure_time.ensures i) 0))
    ∙ ap (utc_time_of c.args.mode c.args.date c.args.leg.now) (sym c.in-Departure.is))

pub returns-in-Arrival : goal.returns-in-Arrival
unfolding arrival_utc
returns-in-Arrival c =
    c.utc_time_at-in-Arrival.ensures
    ∙ ((λ i. utc_time c.args.mode (unwrap_or (sym c.arrival_variation.ensures i) None)
    (c.args.date + days_added (slice_index (c.date_variations.ensures i) 1) + 1)
    (unwrap_or (sym c.aircraft_arrival_time.ensures i) 0))
    ∙ ap (utc_time_of c.args.mode c.args.date c.args.leg.now) (sym c.in-Arrival.is))

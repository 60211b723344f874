-- All flight dates are counted, and the line is the only one.
use Rattle.std.proofs.Common.{◌≡◌, ◌∙◌, ◌++◌, List, ap, ℕ}
use Rattle.ssim_schedule.specs.FlightPieces.{Divided}
use Rattle.ssim_schedule.specs.clauses.Schedule.{days_in}
use Rattle.ssim_parts.specs.ConversionLines.{flight_dates, last_line}
use Rattle.ssim_parts.specs.internal.Counted.{all_dates, any_legs, capped}
use Rattle.ssim_parts.proofs.CountedDates.{flown_counted}
use Rattle.ssim_parts.proofs.left_lines.unconverted_lines.Goals as goal

pub returns : goal.returns
returns c =
    let days = days_in c.args.schedule in
    let dates : c.flown_dates-dates.result ≡ flight_dates days =
    c.flown_dates-dates.ensures
    ∙ ap (λ (flights : List Divided). capped (all_dates any_legs flights))
    (c.deref.ensures.value ∙ c.in_ok-flights.ensures)
    ∙ flown_counted days in
    c.in_ok-push_last.ensures
    ∙ ap (λ (bs : List ℕ). bs ++ last_line c.flown_dates-dates.result 0 0) c.new-lines.ensures.items
    ∙ ap (λ (n : ℕ). last_line n 0 0) dates

-- The dates of the period so far are settled.
use Rattle.ssim_values.specs.Flight.{FlightNumber}
use Rattle.ssim_base.specs.Timetable.{Days}
use Rattle.ssim_outbox.specs.internal.Drafts.{IsChangeOf, IsDraft, Settles, dates_before}
use Rattle.ssim_outbox.proofs.single_dates.settle_period.Given as goal

abbrev pub invariant-loop-number : goal.invariant-loop-number
invariant-loop-number l = (from to : FlightNumber → Days) → IsChangeOf from to l.change
    → IsDraft l.rows from to l.initial.draft
    → Settles l.rows from to (dates_before l.change.flight l.period l.number) l.initial.draft l.draft

-- The dates of the flights so far are settled.
use Rattle.std.proofs.Common.{take}
use Rattle.ssim_schedule.specs.clauses.Schedule.{days_in}
use Rattle.ssim_outbox.specs.internal.Drafts.{IsDraft, Settles, dates_of_flights}
use Rattle.ssim_outbox.proofs.single_dates.settle_flights.Given as goal

abbrev pub invariant-loop-flight : goal.invariant-loop-flight
invariant-loop-flight l = IsDraft l.rows (days_in l.from) (days_in l.to) l.initial.draft
    → Settles l.rows (days_in l.from) (days_in l.to) (dates_of_flights (take l.flight-index l.flights))
    l.initial.draft l.draft

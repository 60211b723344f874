-- It stays a draft.
use Rattle.ssim_schedule.specs.clauses.Schedule.{days_in}
use Rattle.ssim_outbox.specs.internal.Drafts.{IsDraft}
use Rattle.ssim_outbox.proofs.flight_periods.add_flights.Given as goal

abbrev pub invariant-loop-flight : goal.invariant-loop-flight
invariant-loop-flight l = IsDraft l.rows (days_in l.from) (days_in l.to) l.initial.draft
    → IsDraft l.rows (days_in l.from) (days_in l.to) l.draft

-- The days so far are made.
use Rattle.std.proofs.Common.{◌≡◌, ◌-◌, ◌<◌, true, ℕ}
use Rattle.ssim_periods.specs.Calendar.{day_count, holds}
use Rattle.ssim_schedule.specs.clauses.Schedule.{days_in}
use Rattle.ssim_outbox.specs.internal.Drafts.{IsMadeOn}
use Rattle.ssim_outbox.proofs.made_dates.is_made.Given as goal

abbrev pub invariant-loop-first : goal.invariant-loop-first
invariant-loop-first l = (n : ℕ) → n < l.first → n < day_count → holds l.period n ≡ true
    → IsMadeOn (days_in l.made l.change.flight) (days_in l.before l.change.flight) l.change.new.days n

abbrev pub decreases-loop-first : goal.decreases-loop-first
decreases-loop-first l = l.end - l.first

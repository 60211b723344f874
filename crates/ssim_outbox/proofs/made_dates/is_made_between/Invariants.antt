-- The days so far are made.
use Rattle.std.proofs.Common.{◌≡◌, ◌<◌, ◌≤◌, true, ℕ}
use Rattle.ssim_periods.specs.Calendar.{day_count, holds}
use Rattle.ssim_schedule.specs.clauses.Schedule.{days_in}
use Rattle.ssim_outbox.specs.internal.Drafts.{IsMadeOn}
use Rattle.ssim_outbox.proofs.made_dates.is_made_between.Given as goal

abbrev pub invariant-loop-number : goal.invariant-loop-number
invariant-loop-number l = (n : ℕ) → l.first ≤ n → n < l.number → n < day_count
    → holds l.period n ≡ true
    → IsMadeOn (days_in l.made l.change.flight) (days_in l.before l.change.flight) l.change.new.days n

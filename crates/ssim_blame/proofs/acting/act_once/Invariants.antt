-- The sub-message has acted on the days of its period before the next part.
use Rattle.std.proofs.Common.{◌≡◌, ◌≤◌, ◌+◌, ◌-◌, ℕ}
use Rattle.ssim_periods.specs.Days.{each_day}
use Rattle.ssim_schedule.specs.internal.ActionParts.{before as before_day}
use Rattle.ssim_blame.specs.declared.made.MadeItinerary.{MadeItinerary}
use Rattle.ssim_blame.proofs.Acted.{changed}
use Rattle.ssim_blame.proofs.acting.act_once.Given as goal

abbrev pub invariant-loop-from : goal.invariant-loop-from
invariant-loop-from l = record {
  from : l.period.first ≤ l.from;
  to : l.from ≤ l.last + 1;
  acted : (before : ℕ → MadeItinerary) → l.initial.days.days ≡ each_day before
      → l.days.days ≡ each_day (changed l.rows l.action l.name (before_day l.period l.from) before);
}

abbrev pub decreases-loop-from : goal.decreases-loop-from
decreases-loop-from l = (l.last + 1) - l.from

-- The days of the period before the next part have their reason.
use Rattle.std.proofs.Common.{◌≡◌, ◌≤◌, ◌-◌, ℕ, List}
use Rattle.ssim_periods.specs.Days.{each_day}
use Rattle.ssim_outbox.proofs.Divided.{put_before}
use Rattle.ssim_outbox.proofs.reason_pieces.put_reasons.Given as goal

abbrev pub invariant-loop-first : goal.invariant-loop-first
invariant-loop-first l = record {
  from : l.period.first ≤ l.first;
  to : l.first ≤ l.end;
  put : (before : ℕ → List ℕ) → l.initial.reasons.days ≡ each_day before
      → l.reasons.days ≡ each_day (put_before l.rows (l.period, l.difference) before l.first);
}

abbrev pub decreases-loop-first : goal.decreases-loop-first
decreases-loop-first l = l.end - l.first

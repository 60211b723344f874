-- The rows so far neither begin nor end before the next day.
use Rattle.std.proofs.Common.{◌≤◌, ◌<◌, ◌-◌, ℕ, IsTrue, slice_index_or}
use Rattle.ssim_base.specs.Stations.{Row}
use Rattle.ssim_schedule.specs.clauses.Acts.{is_named}
use Rattle.ssim_schedule.specs.internal.ActionParts.{IsSteady}
use Rattle.ssim_blame.proofs.division.next_point.Given as goal

abbrev pub invariant-loop-row : goal.invariant-loop-row
invariant-loop-row l = record {
  after : l.from < l.next;
  before : l.next ≤ l.limit;
  steady : (k : ℕ) (r : Row) → k < l.row-index
      → IsTrue (is_named l.action (slice_index_or l.rows k r).station)
      → IsSteady l.from (l.next - 1) (slice_index_or l.rows k r);
}

use Rattle.std.proofs.Common.{◌≡◌, ◌⊎◌, ◌≤◌, ◌<◌, ◌-◌, ℕ, IsTrue, slice_index_or}
use Rattle.std.specs.List.{list_any}
use Rattle.ssim_schedule.specs.internal.ActionParts.{IsSteady}
use Rattle.ssim_schedule.specs.clauses.Acts.{divides, is_named}
use Rattle.ssim_base.specs.Stations.{Row}
use Rattle.ssim_schedule.proofs.effect.division_points.next_point.Given as goal

abbrev pub invariant-loop-row : goal.invariant-loop-row
invariant-loop-row l =
    record {
      after : l.from < l.next;
      before : l.next ≤ l.limit;
      steady : (k : ℕ) (r : Row) → k < l.row-index → IsTrue (is_named l.action (slice_index_or l.rows k r).station) → IsSteady l.from (l.next - 1) (slice_index_or l.rows k r);
      point : (l.next ≡ l.limit) ⊎ IsTrue (list_any (divides l.action l.next) l.rows);
    }

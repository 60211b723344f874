-- The cut is between, and the rows so far are steady up to it.
use Rattle.std.proofs.Common.{◌<◌, ◌≤◌, take}
use Rattle.std.specs.List.{AllByRecursion}
use Rattle.ssim_parts.proofs.EvenDays.{IsSteadyRow}
use Rattle.ssim_parts.proofs.moved_parts.row_cut.Given as goal

abbrev pub invariant-loop-row : goal.invariant-loop-row
invariant-loop-row l = record {
  from : l.first < l.next;
  to : l.next ≤ l.end;
  steady : AllByRecursion (IsSteadyRow l.first l.next) (take l.row-index l.rows);
}

-- The cut is between, and the rows so far are steady up to it.
use Rattle.std.proofs.Common.{◌<◌, ◌≤◌, take}
use Rattle.std.specs.List.{AllByRecursion}
use Rattle.ssim_outbox.specs.internal.ReasonPieces.{IsSteady}
use Rattle.ssim_outbox.proofs.period_parts.next_cut.Given as goal

abbrev pub invariant-loop-row : goal.invariant-loop-row
invariant-loop-row l = record {
  from : l.first < l.next;
  to : l.next ≤ l.end;
  steady : AllByRecursion (IsSteady l.legs l.first l.next) (take l.row-index l.rows);
}

-- What was put, and the flights that are left, is all of it; and if those that are left are what
-- records may have, all are.
use Rattle.std.proofs.Common.{◌≡◌, ◌≤◌, ◌+◌, ◌++◌, length}
use Rattle.std.specs.List.{All}
use Rattle.std.specs.Vec.Iter.{into_iter_items, into_iter_len}
use Rattle.ssim_base.specs.clauses.Sinks.{GrowsUpTo}
use Rattle.ssim_schedule.specs.internal.Plan.{HasWritablePieces, plan_count, plan_lines}
use Rattle.ssim_schedule.proofs.export.lines.put_flights.Given as goal

abbrev pub invariant-loop-planned : goal.invariant-loop-planned
invariant-loop-planned g l =
    let left = into_iter_items l.planned-iterator in
    record {
      next : l.next + plan_count left ≡ l.serial + plan_count l.fn.plan.items;
      puts : GrowsUpTo (l.fn.block ++ plan_lines l.airline l.serial l.fn.plan.items)
          (l.block ++ plan_lines l.airline l.next left)
          (g.W.Sink.state l.fn.out) (g.W.Sink.state l.out);
      few : All (λ p. length p.1 ≤ 99) left;
      writable : All HasWritablePieces left → All HasWritablePieces l.fn.plan.items;
      count : into_iter_len l.planned-iterator ≡ length left;
    }

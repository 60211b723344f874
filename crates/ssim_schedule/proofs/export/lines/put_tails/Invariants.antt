-- What was put, and the tails that are left, is all of it; and what was put are tails of records.
use Rattle.std.proofs.Common.{◌≡◌, ◌+◌, ◌++◌, drop, take}
use Rattle.std.specs.List.{All}
use Rattle.ssim_records.specs.Segment.{IsTail}
use Rattle.ssim_base.specs.clauses.Sinks.{GrowsUpTo}
use Rattle.ssim_schedule.specs.internal.Plan.{tail_lines}
use Rattle.ssim_schedule.proofs.export.lines.put_tails.Given as goal

abbrev pub invariant-loop-tail : goal.invariant-loop-tail
invariant-loop-tail g l = record {
  next : l.next ≡ l.serial + l.tail-index;
  puts : GrowsUpTo (l.fn.block ++ tail_lines l.name l.columns l.serial l.tails)
      (l.block ++ tail_lines l.name l.columns l.next (drop l.tail-index l.tails))
      (g.W.Sink.state l.fn.out) (g.W.Sink.state l.out);
  writable : All IsTail (take l.tail-index l.tails);
}

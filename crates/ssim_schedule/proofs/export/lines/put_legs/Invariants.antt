-- What was put, and the legs that are left, is all of it; and what was put is what records may
-- have.
use Rattle.std.proofs.Common.{◌≡◌, ◌+◌, ◌++◌, drop, take}
use Rattle.std.specs.List.{All}
use Rattle.ssim_base.specs.ReadBack.{IsWritable}
use Rattle.ssim_base.specs.clauses.Sinks.{GrowsUpTo}
use Rattle.ssim_schedule.specs.internal.Plan.{leg_lines}
use Rattle.ssim_schedule.specs.internal.SharedLegs.{legs_count}
use Rattle.ssim_schedule.proofs.export.lines.put_legs.Given as goal

abbrev pub invariant-loop-leg : goal.invariant-loop-leg
invariant-loop-leg g l =
    let left = drop l.leg-index l.legs in
    record {
      next : l.next + legs_count left ≡ l.serial + legs_count l.legs;
      puts : GrowsUpTo
          (l.fn.block ++ leg_lines l.airline l.flight l.variation l.fn.period l.serial l.legs)
          (l.block ++ leg_lines l.airline l.flight l.variation l.fn.period l.next left)
          (g.W.Sink.state l.fn.out) (g.W.Sink.state l.out);
      writable : All IsWritable (take l.leg-index l.legs);
    }

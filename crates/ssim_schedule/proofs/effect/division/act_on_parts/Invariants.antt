use Rattle.std.proofs.Common.{◌≡◌, ◌≤◌, ◌+◌, ◌-◌, IsTrue}
use Rattle.ssim_schedule.specs.internal.ActionParts.{AddsPoints, before, counts_by}
use Rattle.ssim_schedule.specs.Acts.{after_on}
use Rattle.ssim_schedule.specs.clauses.Acts.{changed_by, is_point_of}
use Rattle.ssim_schedule.proofs.effect.division.act_on_parts.Given as goal

abbrev pub invariant-loop-at : goal.invariant-loop-at
invariant-loop-at l =
    record {
      from : l.period.first ≤ l.at;
      to : l.at ≤ l.end;
      end : l.end ≡ l.period.last + 1;
      point : IsTrue (is_point_of l.rows l.action l.period l.at);
      days : l.periods.days ≡ changed_by (before l.period l.at) (after_on l.rows l.action) 0 l.fn.periods.days;
      counts : l.counts ≡ counts_by l.rows l.action (before l.period l.at) l.fn.periods.days;
      cuts : AddsPoints l.rows l.action l.period l.fn.periods.cuts l.periods.cuts;
    }

abbrev pub decreases-loop-at : goal.decreases-loop-at
decreases-loop-at l = l.end - l.at

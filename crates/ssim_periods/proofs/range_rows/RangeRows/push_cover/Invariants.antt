use Rattle.std.proofs.Common.{◌≡◌, ◌-◌, ◌<◌, ◌≤◌, ◌++◌, true, map, length}
use Rattle.ssim_periods.specs.Cover.{cover}
use Rattle.ssim_periods.specs.Pieces.{has_value}
use Rattle.ssim_periods.proofs.CoverSteps.{cover_at}
use Rattle.ssim_periods.proofs.range_rows.RangeRows.push_cover.Given as goal

abbrev pub invariant-loop-first : goal.invariant-loop-first
invariant-loop-first g l =
    let is_in = has_value g.V.Value.alike l.self.days l.value in
    record {
      to : l.first ≤ 36525;
      own : l.first < 36525 → is_in l.first ≡ true;
      rest : l.pieces.items ++ map (λ period. (period, l.label)) (cover_at is_in (length l.self.days) l.first) ≡ l.fn.pieces.items ++ map (λ period. (period, l.label)) (cover is_in (length l.self.days));
    }

abbrev pub decreases-loop-first : goal.decreases-loop-first
decreases-loop-first g l = 36525 - l.first

-- The lists have got the days of the weekdays so far.
use Rattle.std.proofs.Common.{length, ◌≡◌, map}
use Rattle.ssim_periods.specs.internal.Numbers.{AddsDays}
use Rattle.ssim_periods.proofs.NumberPeriods.{is_numbered_before}
use Rattle.ssim_periods.proofs.range_rows.number_periods.add_row.Given as goal

abbrev pub invariant-loop-weekday : goal.invariant-loop-weekday
invariant-loop-weekday l = record {
  week : length l.row ≡ 7;
  adds : AddsDays (is_numbered_before l.row l.weekday l.from l.to) (map (λ list. list.items) l.fn.lists.items) (map (λ list. list.items) l.lists.items);
}

-- As many empty lists as steps.
use Rattle.std.proofs.Common.{◌≡◌, map, [], replicate}
use Rattle.ssim_periods.proofs.range_rows.number_periods.empty_lists.Given as goal

abbrev pub invariant-loop : goal.invariant-loop
invariant-loop l = map (λ list. list.items) l.lists.items ≡ replicate l.counter []

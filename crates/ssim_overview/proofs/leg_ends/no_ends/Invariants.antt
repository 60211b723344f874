-- As many empty lists as steps.
use Rattle.std.proofs.Common.{◌≡◌, map, [], replicate}
use Rattle.ssim_overview.proofs.leg_ends.no_ends.Given as goal

abbrev pub invariant-loop : goal.invariant-loop
invariant-loop l = map (λ list. list.items) l.ends.items ≡ replicate l.counter []

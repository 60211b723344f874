-- As many empty lists as steps.
use Rattle.std.proofs.Common.{◌≡◌, map, [], replicate}
use Rattle.ssim_overview.proofs.sayings.no_sayings.Given as goal

abbrev pub invariant-loop : goal.invariant-loop
invariant-loop l = map (λ list. list.items) l.sayings.items ≡ replicate l.counter []

-- The covers of the earlier periods are appended.
use Rattle.std.proofs.Common.{◌≡◌, ◌++◌, ◌∷◌, [], take}
use Rattle.std.specs.List.{flat_map}
use Rattle.ssim_periods.specs.internal.Apart.{held_cover}
use Rattle.ssim_periods.proofs.apart_periods.entry_pieces.push_each.Given as goal

abbrev pub invariant-loop-period : goal.invariant-loop-period
invariant-loop-period g l = l.pieces.items ≡ l.fn.pieces.items ++ flat_map (λ period. held_cover (period ∷ []) l.value) (take l.period-index l.periods)

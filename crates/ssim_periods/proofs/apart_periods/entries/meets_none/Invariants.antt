use Rattle.std.proofs.Common.{◌≡◌, ℕ, [], true, take}
use Rattle.ssim_periods.specs.Calendar.{holds}
use Rattle.ssim_periods.specs.Pieces.{held_on}
use Rattle.ssim_periods.proofs.apart_periods.entries.meets_none.Given as goal

abbrev pub invariant-loop-entry : goal.invariant-loop-entry
invariant-loop-entry g l = (n : ℕ) → holds l.period n ≡ true → held_on (take l.entry-index l.entries) n ≡ []

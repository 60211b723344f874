use Rattle.std.proofs.Common.{◌≡◌, take}
use Rattle.ssim_periods.proofs.apart_periods.entries.shared_entries.Given as goal

abbrev pub invariant-loop-entry : goal.invariant-loop-entry
invariant-loop-entry g l = l.copies.items ≡ take l.entry-index l.entries

use Rattle.std.proofs.Common.{◌≡◌, ◌≤◌, vec_len, length}
use Rattle.ssim_periods.specs.internal.Splits.{patched}
use Rattle.ssim_periods.proofs.range_rows.patches.put.Given as goal

abbrev pub invariant-loop-new : goal.invariant-loop-new
invariant-loop-new g l = record { week : length l.row ≡ 7; short : vec_len l.patch ≤ 7; same : patched l.row l.patch.items ≡ patched l.fn.row l.fn.patch.items }

abbrev pub decreases-loop-new : goal.decreases-loop-new
decreases-loop-new g l = goal.left-loop-new g l

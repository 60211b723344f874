use Rattle.std.proofs.Common.{◌≡◌, ◌≤◌, length}
use Rattle.ssim_records.specs.Frames.{drop_line_ends}
use Rattle.ssim_records.proofs.window.after_line_ends.Given as goal

abbrev pub invariant-loop-rest : goal.invariant-loop-rest
invariant-loop-rest l = (length l.rest ≤ length l.bytes) × (drop_line_ends l.rest ≡ drop_line_ends l.bytes)

abbrev pub decreases-loop-rest : goal.decreases-loop-rest
decreases-loop-rest l = length l.rest

use Rattle.std.proofs.Common.{length}
use Rattle.ssim_parts.proofs.converted.+has_shift.Given as goal

abbrev pub decreases-has_shift : goal.decreases-has_shift
decreases-has_shift l = length l.parts.now

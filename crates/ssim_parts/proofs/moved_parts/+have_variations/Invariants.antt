use Rattle.std.proofs.Common.{length}
use Rattle.ssim_parts.proofs.moved_parts.+have_variations.Given as goal

abbrev pub decreases-have_variations : goal.decreases-have_variations
decreases-have_variations l = length l.legs.now

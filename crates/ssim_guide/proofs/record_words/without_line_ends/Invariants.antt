-- Each turn drops a byte at least.
use Rattle.std.proofs.Common.{length}
use Rattle.ssim_guide.proofs.record_words.without_line_ends.Given as goal

abbrev pub decreases-loop-rest : goal.decreases-loop-rest
decreases-loop-rest l = length l.rest

use Rattle.std.proofs.Common.{length}
use Rattle.ssim_columns.proofs.text.overlay.+fill.Given as goal

abbrev pub decreases-fill : goal.decreases-fill
decreases-fill l = length l.out.now

use Rattle.std.proofs.Common.{length}
use Rattle.ssim_schedule.proofs.builder.run.+are_apart_from.Given as goal

abbrev pub decreases-are_apart_from : goal.decreases-are_apart_from
decreases-are_apart_from l = length l.runs.now

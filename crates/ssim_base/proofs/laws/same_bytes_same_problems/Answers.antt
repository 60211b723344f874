use Rattle.ssim_base.proofs.ProblemsOnce.{same_bytes_same_problems}
use Rattle.ssim_base.proofs.laws.same_bytes_same_problems.Goals as goal

pub returns : goal.returns
returns c = same_bytes_same_problems c.frames_are_one.ensures.one

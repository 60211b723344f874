use Rattle.ssim_program.proofs.FirstProblem.{refusal_is_first_problem}
use Rattle.ssim_program.proofs.laws.refusal_is_first_problem.Goals as goal

pub returns : goal.returns
returns c = refusal_is_first_problem c.frames_are_one.ensures.one

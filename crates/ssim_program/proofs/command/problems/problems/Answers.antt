-- The problems are found, and then their lines are made.
use Rattle.std.proofs.Common.{Bool, List, ℕ, ap₂}
use Rattle.ssim_program.proofs.command.problems.problems.Goals as goal

pub returns-clause-answer : goal.returns-clause-answer
returns-clause-answer g c = (
  c.in_ok-problems.problems,
  c.in_ok-problems.ensures.found,
  ap₂ (λ (lines : List ℕ) (found : Bool). (lines, found)) c.in_ok-lines.ensures
      c.has_problem-found.ensures,
)

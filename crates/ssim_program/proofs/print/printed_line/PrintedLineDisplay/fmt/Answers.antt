-- What the summaries write, piece by piece.
use Rattle.std.proofs.Common.{append_assoc}
use Rattle.ssim_program.proofs.print.printed_line.PrintedLineDisplay.fmt.Goals as goal

pub returns-in-Summary-clause-writes : goal.returns-in-Summary-clause-writes
returns-in-Summary-clause-writes g c plain ok =
    rw c.in-Summary.is (simp append_assoc (c.write-in-Summary.ensures.writes plain ok))

pub returns-in-ProblemCount-clause-writes : goal.returns-in-ProblemCount-clause-writes
returns-in-ProblemCount-clause-writes g c plain ok =
    rw c.in-ProblemCount.is (simp append_assoc (c.write-in-ProblemCount.ensures.writes plain ok))

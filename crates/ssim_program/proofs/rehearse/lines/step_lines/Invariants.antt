-- The lines so far are those of the steps so far.
use Rattle.std.proofs.Common.{◌≡◌, take}
use Rattle.ssim_program.specs.rehearse.Rehearsal.{step_lines}
use Rattle.ssim_program.proofs.rehearse.lines.step_lines.Given as goal

abbrev pub invariant-loop-place : goal.invariant-loop-place
invariant-loop-place l = l.lines.items ≡ step_lines (take l.place l.steps) (take l.place l.answers)

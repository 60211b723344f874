-- The lines so far, and those of the sub-messages that are left, are the lines of all.
use Rattle.std.proofs.Common.{◌≡◌, ◌++◌, drop}
use Rattle.ssim_program.specs.print.Shown.{step_lines}
use Rattle.ssim_program.proofs.print.step.push_steps.Given as goal

abbrev pub invariant-loop-step : goal.invariant-loop-step
invariant-loop-step l = l.lines.items ++ step_lines l.before (drop l.step-index l.steps) ≡ l.initial.lines.items ++ step_lines l.initial.before l.steps

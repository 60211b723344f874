-- The steps so far are those of the lines so far.
use Rattle.std.proofs.Common.{◌≡◌, All, Some, map, take}
use Rattle.ssim_program.specs.internal.Rehearse.{as_written, IsStepOf}
use Rattle.ssim_program.specs.rehearse.Script.{step_in}
use Rattle.ssim_program.proofs.rehearse.script.read_steps.Given as goal

abbrev pub invariant-loop-line : goal.invariant-loop-line
invariant-loop-line l = record {
  steps : map (λ x. step_in l.count x.bytes.now) (take l.line-index l.lines)
      ≡ map (λ step. Some (as_written step)) l.steps.items;
  below : All (λ step. IsStepOf l.count (as_written step)) l.steps.items;
}

-- The steps so far are in range.
use Rattle.std.proofs.Common.{All, take}
use Rattle.ssim_desk.specs.Steps.{IsInRange}
use Rattle.ssim_cases.proofs.desks.are_in_range.Given as goal

abbrev pub invariant-loop-step : goal.invariant-loop-step
invariant-loop-step l = All (IsInRange l.count) (take l.step-index l.steps)

-- The set has the lines of those sub-messages so far that fail.
use Rattle.std.proofs.Common.{take}
use Rattle.ssim_program.specs.internal.Effects.{HasFailing}
use Rattle.ssim_program.proofs.effects.failing_set.Given as goal

abbrev pub invariant-loop-found : goal.invariant-loop-found
invariant-loop-found l = HasFailing l.set (take l.found-index l.lines)

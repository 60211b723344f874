-- The flights so far have their chosen dates, and the others what they had.
use Rattle.std.proofs.Common.{take}
use Rattle.ssim_parts.proofs.Choosing.{AreChosen}
use Rattle.ssim_parts.proofs.chosen.choose.Given as goal

abbrev pub invariant-loop-flight : goal.invariant-loop-flight
invariant-loop-flight l =
    AreChosen l.choice (take l.flight-index l.flight-items) l.initial.schedule l.schedule

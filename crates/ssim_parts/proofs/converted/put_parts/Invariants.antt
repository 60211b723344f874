-- The parts so far are put.
use Rattle.std.proofs.Common.{take}
use Rattle.ssim_parts.specs.internal.Changes.{ChangesFlight}
use Rattle.ssim_parts.specs.internal.Placed.{legs_put}
use Rattle.ssim_parts.proofs.converted.put_parts.Given as goal

abbrev pub invariant-loop-part : goal.invariant-loop-part
invariant-loop-part l =
    ChangesFlight l.flight (legs_put l.shift (take l.part-index l.parts))
    l.initial.schedule l.schedule

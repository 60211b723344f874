-- The stations of the legs so far are marked, too.
use Rattle.std.proofs.Common.{take}
use Rattle.ssim_overview.specs.Totals.{serves}
use Rattle.ssim_overview.specs.internal.Totals.{AddsMarks}
use Rattle.ssim_overview.proofs.station_marks.mark_legs.Given as goal

abbrev pub invariant-loop-leg : goal.invariant-loop-leg
invariant-loop-leg l = AddsMarks (λ station. serves station (take l.leg-index l.legs)) l.initial.marks l.marks

-- The stations of the flights so far are marked, too.
use Rattle.std.proofs.Common.{take}
use Rattle.ssim_overview.specs.internal.Totals.{AddsMarks, is_in_flights}
use Rattle.ssim_overview.proofs.station_marks.mark_flights.Given as goal

abbrev pub invariant-loop-flight : goal.invariant-loop-flight
invariant-loop-flight l = AddsMarks (is_in_flights (take l.flight-index l.flights)) l.initial.marks l.marks

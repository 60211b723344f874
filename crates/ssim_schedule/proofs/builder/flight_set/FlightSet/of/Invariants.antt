-- The flights so far are marked, and no other.
use Rattle.std.proofs.Common.{◌≡◌, length, take}
use Rattle.ssim_values.specs.Flight.{FlightNumber, IsFlight}
use Rattle.ssim_schedule.specs.internal.FlightSet.{is_marked}
use Rattle.ssim_base.specs.Timetable.{is_among}
use Rattle.ssim_schedule.proofs.builder.flight_set.FlightSet.of.Given as goal

abbrev pub invariant-loop-flight : goal.invariant-loop-flight
invariant-loop-flight l = (length l.marks.items ≡ 270000) × ((g : FlightNumber) → IsFlight g → is_marked l.marks.items g ≡ is_among (take l.flight-index l.flights) g)

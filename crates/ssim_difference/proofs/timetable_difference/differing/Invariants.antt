-- The flights that differ so far, and those that are left.
use Rattle.std.proofs.Common.{◌≡◌, ◌+◌, length}
use Rattle.std.specs.Option.{option_map}
use Rattle.ssim_values.specs.Flight.{FlightNumber}
use Rattle.ssim_base.specs.Timetable.{Days}
use Rattle.ssim_schedule.specs.FlightPieces.{divided_flights}
use Rattle.ssim_difference.proofs.Listed.{AreLeft}
use Rattle.ssim_difference.proofs.timetable_difference.differing.Given as goal

abbrev pub invariant-loop-next : goal.invariant-loop-next
invariant-loop-next l =
    (before after : FlightNumber → Days) → l.fn.old ≡ divided_flights before
    → l.fn.new ≡ divided_flights after
    → AreLeft (option_map (λ c. c.now) l.choice) before after l.listed.items l.old_left l.new_left

abbrev pub decreases-loop-next : goal.decreases-loop-next
decreases-loop-next l = length l.old_left + length l.new_left

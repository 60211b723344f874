-- The days after the flights so far.
use Rattle.std.proofs.Common.{◌≡◌, take}
use Rattle.ssim_page.specs.Timetable.{days_of_all}
use Rattle.ssim_page.proofs.timetable.days_of_all.Given as goal

abbrev pub invariant-loop-flight : goal.invariant-loop-flight
invariant-loop-flight l = l.days ≡ days_of_all (take l.flight-index l.flights)

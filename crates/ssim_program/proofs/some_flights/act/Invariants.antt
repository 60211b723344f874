-- What the sub-messages so far leave, from which those that are left lead to what all of them leave.
use Rattle.std.proofs.Common.{◌≡◌, ℕ, List, drop}
use Rattle.ssim_schedule.specs.clauses.Schedule.{Flown}
use Rattle.ssim_base.specs.Stations.{Row}
use Rattle.ssim_held.specs.Entries.{Entry}
use Rattle.ssim_desk.specs.Meaning.{Timetable, after_subs}
use Rattle.ssim_program.specs.internal.SomeFlights.{Shows}
use Rattle.ssim_program.proofs.some_flights.act.Given as goal

pub record Left (rows : List Row) (e : Entry) (place : ℕ) (before : Timetable)
    (now : Flown) : Type 0 where
  pub between : Timetable
  pub shows : Shows now between
  pub leads : after_subs rows (drop place e.message.subs) (drop place e.dates) between
      ≡ after_subs rows e.message.subs e.dates before

abbrev pub invariant-loop-place : goal.invariant-loop-place
invariant-loop-place l =
    (before : Timetable) → Shows l.initial.schedule before
    → Left l.rows l.held l.place before l.schedule

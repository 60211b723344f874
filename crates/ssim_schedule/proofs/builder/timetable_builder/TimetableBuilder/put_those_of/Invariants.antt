use Rattle.std.proofs.Common.{◌≤◌, ◌++◌, ℕ, List, Option, drop, length}
use Rattle.std.specs.List.{filter}
use Rattle.ssim_records.specs.declared.record.Record.{Record}
use Rattle.ssim_schedule.specs.internal.TimetableBuilder.{IsBuilt}
use Rattle.ssim_schedule.specs.internal.FlightSet.{is_marked, is_record_of}
use Rattle.ssim_schedule.proofs.builder.timetable_builder.TimetableBuilder.put_those_of.Given as goal

abbrev pub invariant-loop-place : goal.invariant-loop-place
invariant-loop-place l = (l.place ≤ length l.records)
    × ((wanted : Option (ℕ × ℕ)) (done : List Record) → IsBuilt wanted l.initial.self done → IsBuilt wanted l.self (filter (is_record_of (is_marked l.flights.marks.items)) (drop l.place l.records) ++ done))

abbrev pub decreases-loop-place : goal.decreases-loop-place
decreases-loop-place l = l.place

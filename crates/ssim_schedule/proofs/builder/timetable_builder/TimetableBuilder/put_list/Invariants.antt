-- What is not left is built.
use Rattle.std.proofs.Common.{◌≡◌, ◌++◌, ℕ, List, Option, length}
use Rattle.ssim_records.specs.declared.record.Record.{Record}
use Rattle.ssim_schedule.specs.internal.TimetableBuilder.{IsBuilt}
use Rattle.ssim_schedule.proofs.builder.timetable_builder.TimetableBuilder.put_list.Given as goal

abbrev pub invariant-loop-left : goal.invariant-loop-left
invariant-loop-left l =
    (later : List Record) × (l.left.items ++ later ≡ l.fn.records.items) × ((wanted : Option (ℕ × ℕ)) (done : List Record) → IsBuilt wanted l.initial.self done → IsBuilt wanted l.self (later ++ done))

abbrev pub decreases-loop-left : goal.decreases-loop-left
decreases-loop-left l = length l.left.items

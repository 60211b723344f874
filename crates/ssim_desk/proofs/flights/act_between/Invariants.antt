-- On the dates the schedule is the one after the messages so far.
use Rattle.std.proofs.Common.{List, ℕ, take}
use Rattle.ssim_schedule.specs.clauses.Schedule.{Flown}
use Rattle.ssim_base.specs.Stations.{Row}
use Rattle.ssim_held.specs.Entries.{Entry}
use Rattle.ssim_desk.specs.Meaning.{Timetable, after_entries}
use Rattle.ssim_desk.specs.internal.Changes.{AgreeFrom, Shows}
use Rattle.ssim_desk.proofs.flights.act_between.Given as goal

abbrev pub HaveActedOn : List Row → List Entry → ℕ → ℕ → Timetable → Flown → Type 0
HaveActedOn rows messages first last before now =
    (after : Timetable) × Shows now after × AgreeFrom first last after (after_entries rows messages before)

abbrev pub invariant-loop-held : goal.invariant-loop-held
invariant-loop-held l =
    (before : Timetable) → Shows l.initial.schedule before → HaveActedOn l.rows (take l.held-index l.messages) l.first l.last before l.schedule

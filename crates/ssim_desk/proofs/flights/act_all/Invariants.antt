-- The schedule is the one after the messages so far, and the lines are of what they found.
use Rattle.std.proofs.Common.{◌≡◌, List, take}
use Rattle.ssim_schedule.specs.clauses.Schedule.{Flown}
use Rattle.ssim_base.specs.Stations.{Row}
use Rattle.ssim_held.specs.Entries.{Entry}
use Rattle.ssim_desk.specs.Desk.{entry_lines}
use Rattle.ssim_desk.specs.Meaning.{Timetable, after_entries, entries_findings}
use Rattle.ssim_desk.specs.declared.finding_line.FindingLine.{FindingLine}
use Rattle.ssim_desk.specs.internal.Changes.{Shows}
use Rattle.ssim_desk.proofs.flights.act_all.Given as goal

pub record HaveActed (rows : List Row) (messages : List Entry) (before : Timetable) (now : Flown)
    (lines : List FindingLine) : Type 0 where
  pub shows : Shows now (after_entries rows messages before)
  pub lines_are : lines ≡ entry_lines messages (entries_findings rows messages before)

abbrev pub invariant-loop-held : goal.invariant-loop-held
invariant-loop-held l =
    (before : Timetable) → Shows l.initial.schedule before
    → HaveActed l.rows (take l.held-index l.messages) before l.schedule l.lines.items

-- The lines so far, and those of the messages that are left, are the lines of all.
use Rattle.std.proofs.Common.{◌≡◌, ℕ, List, ◌++◌, drop, map}
use Rattle.ssim_schedule.specs.clauses.Schedule.{Flown}
use Rattle.ssim_base.specs.Stations.{Row}
use Rattle.ssim_held.specs.Entries.{Entry}
use Rattle.ssim_desk.specs.Desk.{entry_lines}
use Rattle.ssim_desk.specs.Meaning.{Timetable, entries_findings}
use Rattle.ssim_desk.specs.declared.finding_line.FindingLine.{FindingLine}
use Rattle.ssim_parts.specs.Chosen.{Choosing}
use Rattle.ssim_program.specs.internal.SomeFlights.{Shows}
use Rattle.ssim_program.specs.internal.Spans.{part_entry}
use Rattle.ssim_program.proofs.chosen_findings.act_all.Given as goal

-- the lines of messages that act on chosen dates from this timetable on
abbrev pub lines_from : List Row → Choosing → List Entry → Timetable → List FindingLine
lines_from rows choice messages before =
    entry_lines messages (entries_findings rows (map (part_entry choice) messages) before)

pub record Left (rows : List Row) (choice : Choosing) (messages : List Entry) (place : ℕ)
    (before : Timetable) (now : Flown) (lines : List FindingLine) : Type 0 where
  pub between : Timetable
  pub shows : Shows now between
  pub lines_are : lines ++ lines_from rows choice (drop place messages) between
      ≡ lines_from rows choice messages before

abbrev pub invariant-loop-held : goal.invariant-loop-held
invariant-loop-held l =
    (before : Timetable) → Shows l.initial.schedule before
    → Left l.rows l.choice l.messages l.held-index before l.schedule l.lines.items

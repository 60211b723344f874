-- What a desk shows, and the answer for a text that it takes.
use Rattle.std.specs.Prelude.{ℕ, ◌+◌, List, [], ◌∷◌, ◌++◌}
use Rattle.std.specs.Prelude.{Result, Ok, Err}
use Rattle.ssim_periods.specs.Days.{each_day}
use Rattle.ssim_base.specs.Timetable.{Days, Legs}
use Rattle.ssim_schedule.specs.{declared.finding.Finding.Finding}
use Rattle.ssim_text.specs.Grammar.{identifier_of}
use Rattle.ssim_text.specs.declared.action.Sub.{Sub}
use Rattle.ssim_text.specs.declared.reference.Reference.{Reference}
use Rattle.ssim_values.specs.Flight.{FlightNumber}
use Rattle.ssim_held.specs.Entries.{DeskSeen, Entry}
use Rattle.ssim_held.specs.declared.fault.DeskFault.{DeskFault}
use Rattle.ssim_desk.specs.Meaning.{found_by, left_by}
use Rattle.ssim_desk.specs.declared.desk.Took.{Took}
use Rattle.ssim_desk.specs.declared.finding_line.FindingLine.{FindingLine}
use Rattle.ssim_desk.specs.declared.steps.Answer.{Answer}
use Rattle.ssim_desk.specs.declared.steps.Answer.TheVariants.{Taken, Repeated, Refused}
use Rattle.ssim_desk.specs.declared.desk.Took.TheVariants as took

-- the `Answer` for a result of `take`
abbrev pub take_answer : Result (Took × Reference) DeskFault → Answer
take_answer (Ok (took.Taken, reference)) = Taken reference
take_answer (Ok (took.Repeated, reference)) = Repeated reference
take_answer (Err fault) = Refused fault

-- ---- what a desk shows

-- what each flight has on each date: what the messages, in order of reference, leave of the base's
-- timetable
abbrev pub timetable_of : DeskSeen → FlightNumber → ℕ → Legs
timetable_of desk = left_by desk.base desk.held

-- the timetable of a desk as the itineraries of a flight by day
abbrev pub days_of_desk : DeskSeen → FlightNumber → Days
days_of_desk desk flight = each_day (timetable_of desk flight)

-- the finding lines of the sub-messages of one message, from number n on
abbrev pub sub_lines : Reference → ℕ → List Sub → List Finding → List FindingLine
sub_lines r n (s ∷ subs) (f ∷ findings) =
    record {
      reference = r;
      sub = n;
      action = identifier_of s.action;
      designator = s.designator;
      finding = f;
    }
    ∷ sub_lines r (n + 1) subs findings
sub_lines _ _ _ _ = []

-- the finding lines of messages, in their order
abbrev pub entry_lines : List Entry → List (List Finding) → List FindingLine
entry_lines (e ∷ entries) (findings ∷ found) =
    sub_lines e.reference 1 e.message.subs findings ++ entry_lines entries found
entry_lines _ _ = []

-- a line for each sub-message: what it found on the dates of its period when it was applied in
-- order of reference
abbrev pub finding_lines : DeskSeen → List FindingLine
finding_lines desk = entry_lines desk.held (found_by desk.base desk.held)

-- What a desk has, as it is printed: a flight on a date, and what its sub-messages found.
use Rattle.std.specs.Prelude.{ℕ, Bool, not, ◌==◌, ◌&&◌, ◌||◌, if◌then◌else◌}
use Rattle.std.specs.Prelude.{List, [], ◌∷◌, ◌++◌, codes}
use Rattle.std.specs.Fmt.{decimal}
use Rattle.std.specs.List.{flat_map}
use Rattle.ssim_values.specs.Day.{day_text}
use Rattle.ssim_values.specs.Designator.{designator_text}
use Rattle.ssim_values.specs.Flight.{FlightNumber}
use Rattle.ssim_values.specs.declared.designator.Designator.{Designator}
use Rattle.ssim_text.specs.Lines.{identifier_text}
use Rattle.ssim_text.specs.Reference.{printed_reference}
use Rattle.ssim_base.specs.Export.{line}
use Rattle.ssim_base.specs.Timetable.{LegValue, Legs}
use Rattle.ssim_schedule.specs.declared.finding.Finding.{Finding}
use Rattle.ssim_schedule.specs.declared.finding.Reason.{Reason}
use Rattle.ssim_schedule.specs.declared.finding.Reason.TheVariants.{Acted, Absent, Present, Leg, Station}
use Rattle.ssim_desk.specs.declared.date_step.DateStep.{DateStep}
use Rattle.ssim_desk.specs.declared.finding_line.FindingLine.{FindingLine}
use Rattle.ssim_parts.specs.Chosen.{Choosing, chooses_flight}
use Rattle.ssim_blame.specs.Makers.{is_acted}
use Rattle.ssim_listing.specs.LegText.{leg_text}
use Rattle.ssim_listing.specs.Marks.{marked_line}
use Rattle.ssim_command_line.specs.declared.command_line.FindingsForm.{FindingsForm}
use Rattle.ssim_program.specs.print.PrintedLine.{finding_names, finding_row, finding_text}

-- the line of a leg
abbrev pub leg_line : LegValue → List ℕ
leg_line leg = line (leg_text leg)

-- a line for each leg, or the line `no flight`
abbrev pub leg_lines : Legs → List ℕ
leg_lines [] = line (codes "no flight")
leg_lines (leg ∷ legs) = flat_map leg_line (leg ∷ legs)

-- the lines of a flight on a date: a heading, then its legs
abbrev pub shown_flight : Designator → ℕ → Legs → List ℕ
shown_flight designator day legs =
    line (designator_text designator ++ 32 ∷ day_text day) ++ leg_lines legs

-- the lines of a flight of an airline on a date, by a timetable
abbrev pub shown_on : List ℕ → (FlightNumber → ℕ → Legs) → ℕ → FlightNumber → List ℕ
shown_on airline timetable day flight =
    shown_flight (record { airline = airline; flight = flight }) day (timetable flight day)

-- ---- the history of a flight on a date

-- a line for each leg, or the line `no flight`, two blanks before it
abbrev pub indented_lines : Legs → Legs → List ℕ
indented_lines before [] = line (codes "  no flight")
indented_lines before (leg ∷ legs) = flat_map (marked_line before) (leg ∷ legs)

-- what a sub-message found on a date
abbrev pub reason_word : Reason → List ℕ
reason_word Acted = codes "acted"
reason_word Absent = codes "absent"
reason_word Present = codes "present"
reason_word Leg = codes "leg"
reason_word Station = codes "station"

-- a sub-message on a date: the reference, its number, its action, and what it found
abbrev pub step_text : DateStep → List ℕ
step_text step =
    printed_reference step.reference ++ 32 ∷ decimal step.sub ++ 32 ∷ identifier_text step.action
    ++ 32 ∷ reason_word step.reason

-- the lines of the legs after a sub-message that acted; none after one that did not
abbrev pub legs_after : Legs → DateStep → List ℕ
legs_after before step = if is_acted step.reason then indented_lines before step.itinerary else []

-- the lines of sub-messages, the first of which found these legs
abbrev pub step_lines : Legs → List DateStep → List ℕ
step_lines before [] = []
step_lines before (step ∷ steps) =
    line (step_text step) ++ legs_after before step ++ step_lines step.itinerary steps

-- the lines of a flight on a date: a heading, the legs of the data set, and what each sub-message
-- did with them
abbrev pub history_lines : Designator → ℕ → Legs → List DateStep → List ℕ
history_lines designator day first steps =
    line (designator_text designator ++ 32 ∷ day_text day) ++ line (codes "data set")
    ++ indented_lines [] first ++ step_lines first steps

-- the history of a flight of an airline on a date, by its legs in the data set and its sub-messages
abbrev pub history_on : List ℕ → (FlightNumber → ℕ → Legs) → (FlightNumber → ℕ → List DateStep)
    → ℕ → FlightNumber → List ℕ
history_on airline first steps day flight =
    history_lines (record { airline = airline; flight = flight }) day (first flight day)
    (steps flight day)

-- ---- what each sub-message found

-- whether a sub-message acted on no date, or did not act on one of its dates
abbrev pub fails : Finding → Bool
fails found =
    found.acted == 0
    || not (found.absent == 0) || not (found.present == 0) || not (found.leg == 0)
    || not (found.station == 0)

-- whether a date is counted, each under one of the reasons
abbrev pub has_dates : Finding → Bool
has_dates found =
    not (found.acted == 0)
    || not (found.absent == 0) || not (found.present == 0) || not (found.leg == 0)
    || not (found.station == 0)

-- whether a sub-message is printed: of a chosen flight; if a span is given, with a date in it; and
-- of all or only those that did not act
abbrev pub is_shown : Bool → Bool → Choosing → FindingLine → Bool
is_shown not_acted spanned choice found =
    chooses_flight choice found.designator.flight
    && (not spanned || has_dates found.finding) && (not not_acted || fails found.finding)

-- the line or the row of a sub-message, if it is printed
abbrev pub chosen_line : FindingsForm → Bool → Choosing → FindingLine → List ℕ
chosen_line form spanned choice found =
    if is_shown form.not_acted spanned choice found
    then line (if form.csv then finding_row found else finding_text found) else []

-- a line for each sub-message that is printed; or a row of names, and a row for each
abbrev pub findings_lines : FindingsForm → Bool → Choosing → List FindingLine → List ℕ
findings_lines form spanned choice found =
    (if form.csv then line finding_names else [])
    ++ flat_map (chosen_line form spanned choice) found

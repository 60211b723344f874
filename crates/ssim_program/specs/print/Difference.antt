-- What `diff` prints, and whether it finds something.
use Rattle.std.specs.Prelude.{ℕ, Bool, nat_lt, if◌then◌else◌, List, length}
use Rattle.ssim_values.specs.Flight.{FlightNumber}
use Rattle.ssim_base.specs.Timetable.{Days}
use Rattle.ssim_difference.specs.Differences.{differences}
use Rattle.ssim_difference.specs.Kinds.{summary_lines}
use Rattle.ssim_difference.specs.Lines.{difference_lines}
use Rattle.ssim_difference.specs.Rows.{difference_rows}
use Rattle.ssim_command_line.specs.declared.command_line.DiffForm.{DiffForm}

-- the rows of two timetables of an airline; or the lines: how many changes of each kind there are, or
-- the periods with the old and the new legs
abbrev pub printed_difference : DiffForm → List ℕ → (FlightNumber → Days) → (FlightNumber → Days)
    → List ℕ
printed_difference form airline old new =
    if form.csv then difference_rows airline old new
    else if form.summary then summary_lines old new
    else difference_lines airline old new

-- whether two timetables differ: whether a flight has another itinerary on some date
abbrev pub are_different : (FlightNumber → Days) → (FlightNumber → Days) → Bool
are_different old new = nat_lt 0 (length (differences old new))

-- the lines or rows of two timetables of an airline, and whether they differ
abbrev pub reported_difference : DiffForm → List ℕ → (FlightNumber → Days) → (FlightNumber → Days)
    → List ℕ × Bool
reported_difference form airline old new =
    (printed_difference form airline old new, are_different old new)

-- The effects of a change of a desk on its timetable, as --effects prints them.
use Rattle.std.specs.Prelude.{ℕ, Bool, true, false, not, ◌&&◌, if◌then◌else◌, List, [], ◌∷◌, ◌++◌}
use Rattle.std.specs.List.{flat_map, list_any}
use Rattle.std.specs.Str.{bytes_eq}
use Rattle.ssim_values.specs.Flight.{FlightNumber}
use Rattle.ssim_base.specs.Export.{line}
use Rattle.ssim_base.specs.Timetable.{Days}
use Rattle.ssim_held.specs.Entries.{DeskSeen}
use Rattle.ssim_desk.specs.Desk.{days_of_desk, finding_lines}
use Rattle.ssim_desk.specs.declared.finding_line.FindingLine.{FindingLine}
use Rattle.ssim_difference.specs.Differences.{date_count, differences}
use Rattle.ssim_difference.specs.Lines.{last_line}
use Rattle.ssim_program.specs.Acts.{Act, Print}
use Rattle.ssim_program.specs.print.PrintedLine.{finding_text}
use Rattle.ssim_program.specs.print.Shown.{fails}

-- the line of a sub-message, as `findings` prints it
abbrev pub finding_line : FindingLine → List ℕ
finding_line found = line (finding_text found)

-- whether a sub-message fails, so that `findings --not-acted` prints it, and has this line
abbrev pub fails_as : List ℕ → FindingLine → Bool
fails_as text found = fails found.finding && bytes_eq text (finding_line found)

-- the line of a sub-message, if it fails, and none of the old ones fails with the same line
abbrev pub new_line : List FindingLine → FindingLine → List ℕ
new_line old found =
    if fails found.finding && not (list_any (fails_as (finding_line found)) old)
    then finding_line found else []

-- the last line of `diff` of two timetables: `same`, or how many flights and dates differ
abbrev pub last_difference : (FlightNumber → Days) → (FlightNumber → Days) → List ℕ
last_difference old new = last_line (differences old new) (date_count old new)

-- The effects of a change from one desk to another: the lines of `findings --not-acted` of the second
-- that are none of the first (nor of its `findings`: a line shows by its numbers that it fails); and
-- the last line of `diff` of the two.
abbrev pub effects : DeskSeen → DeskSeen → List ℕ
effects before after =
    flat_map (new_line (finding_lines before)) (finding_lines after)
    ++ last_difference (days_of_desk before) (days_of_desk after)

-- lines, and after them the effects of a change, if the words ask for them
abbrev pub with_effects : Bool → DeskSeen → DeskSeen → List ℕ → List ℕ
with_effects false before after lines = lines
with_effects true before after lines = lines ++ effects before after

-- the effects of a change are printed, if the words ask for them, and then come these acts
abbrev pub effects_then : Bool → DeskSeen → DeskSeen → List Act → List Act
effects_then false before after acts = acts
effects_then true before after acts = Print (effects before after) ∷ acts

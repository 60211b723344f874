-- The lines that `start` prints: the notes on a station table, and how many messages the desk holds.
use Rattle.std.specs.Prelude.{ℕ, Bool, List, [], ◌∷◌, ◌++◌, codes, if◌then◌else◌}
use Rattle.std.specs.Fmt.{decimal}
use Rattle.std.specs.List.{flat_map}
use Rattle.ssim_values.specs.Day.{day_text}
use Rattle.ssim_base.specs.BaseSeen.{BaseSeen}
use Rattle.ssim_base.specs.Export.{line}
use Rattle.ssim_overview.specs.StationNotes.{station_notes}
use Rattle.ssim_overview.specs.declared.table_notes.NoteKind.{NoteKind}
use Rattle.ssim_overview.specs.declared.table_notes.NoteKind.TheVariants.{Missing, Other}
use Rattle.ssim_overview.specs.declared.table_notes.StationNote.{StationNote}
use Rattle.ssim_program.specs.Desks.{held_line}

-- whether the table lacks or contradicts what the legs say
abbrev pub kind_word : NoteKind → List ℕ
kind_word Missing = codes "missing"
kind_word Other = codes "other"

-- a note: its station, its kind, the number of its dates, and the first and the last of them
abbrev pub station_note_text : StationNote → List ℕ
station_note_text note =
    codes "note Station " ++ note.station ++ 32 ∷ kind_word note.kind ++ 32 ∷ decimal note.dates
    ++ 32 ∷ day_text note.first ++ 32 ∷ day_text note.last

-- a line for each note
abbrev pub note_lines : List StationNote → List ℕ
note_lines notes = flat_map (λ note. line (station_note_text note)) notes

-- the notes on the station table of a base, if the words ask for them
abbrev pub notes_asked : Bool → BaseSeen → List ℕ
notes_asked asked base =
    if asked then note_lines (station_notes base.records base.rows) else []

-- the notes, if the words ask for them, and at last that the desk holds no message
abbrev pub start_lines : Bool → BaseSeen → List ℕ
start_lines notes base = notes_asked notes base ++ held_line 0

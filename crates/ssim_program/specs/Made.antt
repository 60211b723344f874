-- What is read of files, and what the commands make from a data set.
use Rattle.std.specs.Prelude.{◌≡◌, ◌⊎◌, ℕ, ◌<◌, ◌≤◌, IfSome, List, ◌++◌, codes, length, Option}
use Rattle.std.specs.Prelude.{◌∷◌, Bool, Some, Ok, Err, nat_lt}
use Rattle.std.specs.Fmt.{decimal}
use Rattle.std.specs.List.{flat_map}
use Rattle.ssim_values.specs.Flight.{FlightNumber}
use Rattle.ssim_records.specs.declared.fault.RecordFault.TheVariants as record_fault
use Rattle.ssim_records.specs.declared.record.Record.{Record}
use Rattle.ssim_base.specs.Base.{Outcome, base_fault_number}
use Rattle.ssim_base.specs.Fault.{base_fault_name, base_fault_place}
use Rattle.ssim_base.specs.BaseSeen.{AreFlights, BaseSeen, base_with}
use Rattle.ssim_base.specs.Export.{Frame, chapter7, line}
use Rattle.ssim_base.specs.ReadBack.{HasFrame}
use Rattle.ssim_base.specs.Reading.{IsWholeOf}
use Rattle.ssim_base.specs.Stations.{NamesLine, Row, SpellsTable}
use Rattle.ssim_base.specs.Timetable.{Days, days_of}
use Rattle.ssim_base.specs.declared.place.Place.{Place}
use Rattle.ssim_base.specs.declared.place.Place.TheVariants as place
use Rattle.ssim_base.specs.declared.fault.BaseFault.{BaseFault}
use Rattle.ssim_base.specs.declared.fault.BaseFault.TheVariants as base
use Rattle.ssim_base.specs.declared.note.Note.{Note}
use Rattle.ssim_base.specs.declared.note.Note.TheVariants as note
use Rattle.ssim_base.specs.Problems.{HasProblems}
use Rattle.ssim_base.specs.declared.problems.Problems.{Problems}
use Rattle.ssim_base.specs.declared.stations.StationFault.{StationFault}
use Rattle.ssim_text.specs.Left.{lines_left}
use Rattle.ssim_program.specs.Files.{Files, IsOpened, file_of}
use Rattle.ssim_command_line.specs.Line.{Text}
use Rattle.ssim_program.specs.Answer.{Answer, Gives, ◌>>=◌}
use Rattle.ssim_program.specs.print.PrintedLine.{printed_text}
use Rattle.ssim_program.specs.print.Refusal.{IsMemory, IsOfFile, fault_text}
use Rattle.ssim_program.specs.declared.refusal.Refusal.{Refusal}
use Rattle.ssim_program.specs.declared.refusal.Refusal.TheVariants as refused
use Rattle.ssim_program.specs.declared.print.printed_line.PrintedLine.{PrintedLine}
use Rattle.ssim_program.specs.declared.print.printed_line.PrintedLine.TheVariants as printed

-- ---- from a base

-- the bytes are the canonical export of a timetable of these days, between the header, the carrier
-- and the trailer of these records
abbrev pub IsExport : List Record → (FlightNumber → Days) → List ℕ → Type 0
IsExport base days bytes = (frame : Frame) × HasFrame frame base × (chapter7 frame days ≡ Ok bytes)

-- the bytes are the canonical export of these records
abbrev pub IsExportOf : List Record → List ℕ → Type 0
IsExportOf base bytes = IsExport base (days_of base) bytes

-- a note as it is printed
abbrev pub as_printed : Note → PrintedLine
as_printed (note.Serial n) = printed.SerialNote n
as_printed (note.CheckReference n) = printed.CheckReferenceNote n

-- the line of a note
abbrev pub note_line : Note → List ℕ
note_line n = line (printed_text (as_printed n))

-- a line for each note, in order, and the summary: records other than fill, distinct flights, notes
abbrev pub summary_lines : ℕ → ℕ → List Note → List ℕ
summary_lines records flights notes =
    flat_map note_line notes ++ line (printed_text (printed.Summary records flights (length notes)))

-- the bytes are the lines of notes and summary of these records
abbrev pub AreLinesOn : List Record → List Note → List ℕ → Type 0
AreLinesOn base notes bytes = (flights : List FlightNumber) × AreFlights base flights
    × (bytes ≡ summary_lines (length base) (length flights) notes)

-- the line of a problem: its number, its name and its place
abbrev pub problem_line : BaseFault → List ℕ
problem_line fault =
    line (fault_text (base_fault_number fault) (base_fault_name fault) (base_fault_place fault))

-- a line for each problem, in order, and the numbers of records other than fill and of problems
abbrev pub problem_lines : Problems → List ℕ
problem_lines problems =
    flat_map problem_line problems.faults.items
    ++ line (printed_text (printed.ProblemCount problems.records (length problems.faults.items)))

-- the record and the column of a place, as two fields of CSV
abbrev pub place_fields : Place → List ℕ
place_fields (place.Record n) = decimal n ++ codes ","
place_fields (place.Column n column) = decimal n ++ 44 ∷ decimal column
place_fields _ = codes ","

-- the row of a problem: its number, its name, its record and its column
abbrev pub problem_row : BaseFault → List ℕ
problem_row fault =
    line (decimal (base_fault_number fault) ++ 44 ∷ base_fault_name fault ++ 44
    ∷ place_fields (base_fault_place fault))

-- whether there is a problem
abbrev pub has_problem : Problems → Bool
has_problem problems = nat_lt 0 (length problems.faults.items)

-- a row of names, and a row for each problem, in order
abbrev pub problem_rows : Problems → List ℕ
problem_rows problems =
    line (codes "number,name,record,column") ++ flat_map problem_row problems.faults.items

-- ---- from a file

-- the most bytes that a file may have
abbrev pub file_limit : ℕ
file_limit = 268435456

-- the bytes are within the limit, and the file of this name has them, if the contract can see the
-- files
abbrev pub HasFile : Option Files → Text → List ℕ → Type 0
HasFile files name bytes =
    (length bytes ≤ file_limit) × IfSome files (λ all. file_of all name ≡ Some bytes)

-- The data set in the file of this name is within the limit, and is read as this. If the contract
-- cannot see the files, some data set is.
abbrev pub ReadsFile : Option Files → Text → Outcome → Type 0
ReadsFile files name outcome =
    (left : Option (List ℕ)) × IsOpened files name left × IsWholeOf file_limit left outcome

-- the fault is of the bytes: neither that the reader failed (13), nor that more came than the limit
-- (14)
abbrev pub IsOfBytes : BaseFault → Type 0
IsOfBytes (base.Read (record_fault.ReadFault n)) = ⊥
IsOfBytes (base.Read (record_fault.ReaderNeverEnds n)) = ⊥
IsOfBytes _ = Unit {0}

-- The file of this name is within the limit, and has these problems as a data set. If the contract
-- cannot see the files, nothing is said.
abbrev pub FindsProblems : Option Files → Text → Problems → Type 0
FindsProblems files name problems =
    (left : Option (List ℕ)) × IsOpened files name left × HasProblems file_limit left problems

-- there is no file of this name with at most so many bytes, if the contract can see the files
abbrev pub IsMissingWithin : ℕ → Option Files → Text → Type 0
IsMissingWithin limit files name =
    IfSome files (λ all. IfSome (file_of all name) (λ bytes. limit < length bytes))

-- there is no file of this name within the limit
abbrev pub IsMissing : Option Files → Text → Type 0
IsMissing files name = IsMissingWithin file_limit files name

-- why a file is not read: memory ran out, or there is none with at most so many bytes
abbrev pub RefusesWithin : ℕ → Option Files → Text → Refusal → Type 0
RefusesWithin limit files name refusal =
    IsMemory refusal
    ⊎ (IsOfFile 91 (codes "File") name refusal × IsMissingWithin limit files name)

-- why a file is not loaded
abbrev pub RefusesLoad : Option Files → Text → Refusal → Type 0
RefusesLoad files name refusal = RefusesWithin file_limit files name refusal

-- why no data set is read from a file: the file is not loaded, or the data set is refused
abbrev pub RefusesFile : Option Files → Text → Refusal → Type 0
RefusesFile files name refusal =
    RefusesLoad files name refusal
    ⊎ ((fault : BaseFault) × (refusal ≡ refused.DataSet fault) × IsOfBytes fault
    × ReadsFile files name (Err fault))

-- ---- answers

-- the bytes of a file
abbrev pub file_in : Option Files → Text → Answer (List ℕ)
file_in files name (Ok bytes) = HasFile files name bytes
file_in files name (Err why) = RefusesLoad files name why

-- the records of the data set in a file, and the notes on it
abbrev pub data_set_in : Option Files → Text → Answer (List Record × List Note)
data_set_in files name (Ok set) = ReadsFile files name (Ok set)
data_set_in files name (Err why) = RefusesFile files name why

-- the problems of the data set in a file
abbrev pub problems_in : Option Files → Text → Answer Problems
problems_in files name (Ok problems) = FindsProblems files name problems
problems_in files name (Err why) = RefusesLoad files name why

-- the rows of a station table, or its first line that is none
abbrev pub rows_in : List ℕ → Answer (List Row)
rows_in table (Ok rows) = SpellsTable rows table
rows_in table (Err why) =
    (fault : StationFault) × (why ≡ refused.Stations fault) × NamesLine (lines_left table) fault

-- The base of a data set and a station table. The table is read before the data set is refused.
abbrev pub base_in : Option Files → Text → Text → Answer BaseSeen
base_in files dataset stations = do
  there ← file_in files dataset
  table ← file_in files stations
  rows ← rows_in table
  set ← data_set_in files dataset
  Gives (base_with set.0 rows)

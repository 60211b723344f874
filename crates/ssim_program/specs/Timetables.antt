-- The timetable in a file, which is a desk file or a data set.
use Rattle.std.specs.Prelude.{◌≡◌, ◌⊎◌, List, [], ◌∷◌, ℕ, IfSome, Option, Ok, Err, if◌then◌else◌}
use Rattle.std.specs.Prelude.{codes, nat_eq}
use Rattle.std.specs.List.{starts_with}
use Rattle.ssim_base.specs.BaseSeen.{base_with}
use Rattle.ssim_base.specs.declared.fault.BaseFault.{BaseFault}
use Rattle.ssim_base.specs.declared.note.Note.{Note}
use Rattle.ssim_records.specs.Carrier.{CarrierFields}
use Rattle.ssim_records.specs.Header.{HeaderFields}
use Rattle.ssim_records.specs.declared.record.Record.{Record}
use Rattle.ssim_records.specs.declared.record.Record.TheVariants.{Header, Carrier}
use Rattle.ssim_held.specs.Entries.{DeskSeen}
use Rattle.ssim_held.specs.declared.fault.DeskFault.TheVariants as desk_fault
use Rattle.ssim_command_line.specs.Line.{Text}
use Rattle.ssim_program.specs.Answer.{Answer, Finds}
use Rattle.ssim_program.specs.Desks.{desk_in}
use Rattle.ssim_program.specs.Files.{Files, file_of}
use Rattle.ssim_program.specs.Made.{IsOfBytes, ReadsFile, RefusesLoad}
use Rattle.ssim_program.specs.declared.explain.file_kind.FileKind.{FileKind}
use Rattle.ssim_program.specs.declared.explain.file_kind.FileKind.TheVariants as kind
use Rattle.ssim_program.specs.declared.refusal.Refusal.{Refusal}
use Rattle.ssim_program.specs.declared.refusal.Refusal.TheVariants as refused

-- a file is a desk file if it begins as one, and else a data set
abbrev pub timetable_kind : List ℕ → FileKind
timetable_kind bytes =
    if starts_with nat_eq bytes (codes "SSIMDESK ") then kind.Desk else kind.DataSet

-- the file of this name begins as one of this kind, if the contract can see the files
abbrev pub BeginsAs : FileKind → Option Files → Text → Type 0
BeginsAs k files name =
    IfSome files (λ all. IfSome (file_of all name) (λ bytes. timetable_kind bytes ≡ k))

-- the file of this name is a data set, and the desk is the data set's, with an empty station table:
-- it holds no message
abbrev pub ReadsAsDesk : Option Files → Text → DeskSeen → Type 0
ReadsAsDesk files name desk =
    (records : List Record) × (notes : List Note) × ReadsFile files name (Ok (records, notes))
    × (desk.base ≡ base_with records []) × (desk.held ≡ [])

-- The file of this name is of a kind and has the timetable of this desk: it begins as a desk file, and
-- is the desk's; or it is a data set, and the desk is the data set's.
abbrev pub ReadsAs : FileKind → Option Files → Text → DeskSeen → Type 0
ReadsAs kind.Desk files name desk =
    BeginsAs kind.Desk files name × desk_in files name (Ok desk)
ReadsAs kind.DataSet files name desk =
    BeginsAs kind.DataSet files name × ReadsAsDesk files name desk
ReadsAs _ files name desk = ⊥

-- the file of this name has the timetable of this desk: as a desk file, or as a data set
abbrev pub ReadsTimetable : Option Files → Text → DeskSeen → Type 0
ReadsTimetable files name desk =
    ReadsAs kind.Desk files name desk ⊎ ReadsAs kind.DataSet files name desk

-- Why a file is not read to its end, or is no desk: it is not loaded; or it begins as a desk file, and
-- is none (62).
abbrev pub RefusesReading : Option Files → Text → Refusal → Type 0
RefusesReading files name refusal =
    RefusesLoad files name refusal
    ⊎ (BeginsAs kind.Desk files name × desk_in files name (Err refusal))

-- the file of this name does not begin as a desk file, and has this fault as a data set
abbrev pub HasFault : Option Files → Text → BaseFault → Type 0
HasFault files name fault =
    BeginsAs kind.DataSet files name × IsOfBytes fault × ReadsFile files name (Err fault)

-- why no timetable is read of a file, if the faults of data sets are refused as this says
abbrev pub RefusesAs : (BaseFault → Refusal) → Option Files → Text → Refusal → Type 0
RefusesAs refusal_of files name refusal =
    RefusesReading files name refusal
    ⊎ ((fault : BaseFault) × HasFault files name fault × (refusal ≡ refusal_of fault))

-- why no timetable is read of a file: a data set is refused for its own fault
abbrev pub RefusesTimetable : Option Files → Text → Refusal → Type 0
RefusesTimetable = RefusesAs refused.DataSet

-- the desk whose timetable the file of this name has
abbrev pub timetable_in : Option Files → Text → Answer DeskSeen
timetable_in files name (Ok desk) = ReadsTimetable files name desk
timetable_in files name (Err why) = RefusesTimetable files name why

-- the kind of the file of this name, and the desk whose timetable it has
abbrev pub known_in : Option Files → Text → Answer (FileKind × DeskSeen)
known_in files name (Ok known) = ReadsAs known.0 files name known.1
known_in files name (Err why) = RefusesTimetable files name why

-- a file that is neither a desk file nor a data set is no desk file (62)
abbrev pub no_desk_file : BaseFault → Refusal
no_desk_file fault = refused.Desk (desk_fault.File 0)

-- the desk in the file of this name; a data set is one that holds no message
abbrev pub shown_in : Option Files → Text → Answer DeskSeen
shown_in files name (Ok desk) = ReadsTimetable files name desk
shown_in files name (Err why) = RefusesAs no_desk_file files name why

-- a base begins with a header and this carrier record
abbrev pub HasCarrier : List Record → CarrierFields → Type 0
HasCarrier base carrier =
    (header : HeaderFields) × (later : List Record)
    × (base ≡ Header header ∷ Carrier carrier ∷ later)

-- the carrier record of a base
abbrev pub carrier_of : List Record → Answer CarrierFields
carrier_of base = Finds (HasCarrier base)

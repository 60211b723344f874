-- A file of which the first bytes were looked at, and the kind that it is of then.
use Rattle.std.proofs.Common.{◌≡◌, inl, inr, Option, Some, None, Result, Ok, Err, IfErr}
use Rattle.std.specs.Prelude.{IfSome}
use Rattle.ssim_records.specs.Device.{Reader}
use Rattle.ssim_command_line.specs.Line.{Text}
use Rattle.ssim_program.specs.Files.{Files}
use Rattle.ssim_program.specs.Made.{RefusesLoad}
use Rattle.ssim_held.specs.Entries.{DeskSeen}
use Rattle.ssim_program.specs.Timetables.{BeginsAs, ReadsAs, ReadsTimetable, RefusesReading}
use Rattle.ssim_program.specs.declared.explain.file_kind.FileKind.{FileKind}
use Rattle.ssim_program.specs.declared.explain.file_kind.FileKind.TheVariants as kind
use Rattle.ssim_program.specs.declared.refusal.Refusal.{Refusal}

-- a file that is not loaded is not read to its end
pub refuses_load : {A : Type 0} (files : Option Files) (name : Text) (result : Result A Refusal)
    → IfErr result (RefusesLoad files name) → IfErr result (RefusesReading files name)
refuses_load files name (Ok a) refuses = tt
refuses_load files name (Err refusal) refuses = inl refuses

-- a file of which the first bytes were looked at fails only as the file does
pub unfailing : {F G : Type 0} (files : Option Files) (state : F → Reader) (reader : G → F)
    → IfSome files (λ all. (other : F) → (state other).failures ≡ 0)
    → IfSome files (λ all. (other : G) → (state (reader other)).failures ≡ 0)
unfailing None state reader law = tt
unfailing (Some all) state reader law = λ other. law (reader other)

-- ---- the kind

-- a file of a kind has the timetable
pub as_timetable : (k : FileKind) (files : Option Files) (name : Text) (desk : DeskSeen)
    → ReadsAs k files name desk → ReadsTimetable files name desk
as_timetable kind.Desk files name desk is = inl is
as_timetable kind.DataSet files name desk is = inr is
as_timetable kind.Script files name desk is = absurd is
as_timetable kind.Message files name desk is = absurd is
as_timetable kind.Stations files name desk is = absurd is

-- it begins as this kind
pub begins_as : (k : FileKind) (files : Option Files) (name : Text) (desk : DeskSeen)
    → ReadsAs k files name desk → BeginsAs k files name
begins_as kind.Desk files name desk is = is.0
begins_as kind.DataSet files name desk is = is.0
begins_as kind.Script files name desk is = absurd is
begins_as kind.Message files name desk is = absurd is
begins_as kind.Stations files name desk is = absurd is

-- What an export leaves on a printer, and an export in memory.
use Rattle.std.specs.Prelude.{◌≡◌, ℕ, List, IfErr, OnOk, Option, Result, Err, ⊤}
use Rattle.ssim_values.specs.Flight.{FlightNumber}
use Rattle.ssim_records.specs.declared.record.Record.{Record}
use Rattle.ssim_base.specs.Export as refusal
use Rattle.ssim_base.specs.Export.{Frame, chapter7}
use Rattle.ssim_schedule.specs.clauses.ExportResult.{ReadsBackBase, RefusesBase, WritesBase}
use Rattle.ssim_base.specs.Timetable.{Days}
use Rattle.ssim_schedule.specs.declared.export.ExportFault.{ExportFault}
use Rattle.ssim_schedule.specs.declared.export.ExportFault.TheVariants as export
use Rattle.ssim_program.specs.Acts.{prints}
use Rattle.ssim_program.specs.Exports.{export_in}
use Rattle.ssim_program.specs.Files.{Files}
use Rattle.ssim_program.specs.World.{Does, world}
use Rattle.ssim_program.specs.print.Paper.{Paper, writer_of}
use Rattle.ssim_program.specs.declared.refusal.Refusal.{Refusal}

-- an export of a timetable of these days was written, or was refused
pub record IsWritten (base : List Record) (days : FlightNumber → Days) (before after : Paper)
    (written : Result (Unit {0}) ExportFault) : Type 0 where
  pub ok : OnOk written (WritesBase base days (writer_of before) (writer_of after))
  pub err : IfErr written (RefusesBase writer_of base days before after)
  pub reads_back : OnOk written (ReadsBackBase base days (writer_of before) (writer_of after))

-- the export is printed, whatever the store has
abbrev pub PrintsExport : List Record → (FlightNumber → Days) → Paper → Paper
    → Result (Unit {0}) Refusal → Type 0
PrintsExport base days before after result =
    (files : Option Files) (failures : ℕ) → Does (prints (export_in base days))
    (world files failures before) (world files failures after) result

-- a timetable of these days has no export in a frame, for a flight or for the number of records; or
-- memory ran out
abbrev pub HasNoExportIn : Frame → (FlightNumber → Days) → ExportFault → Type 0
HasNoExportIn frame days (export.Variations flight) =
    chapter7 frame days ≡ Err (refusal.Variations flight)
HasNoExportIn frame days export.Records = chapter7 frame days ≡ Err refusal.Records
HasNoExportIn frame days export.WriteFault = ⊥
HasNoExportIn frame days export.Memory = ⊤

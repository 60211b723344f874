-- The export of a base, and why there is none.
use Rattle.std.specs.Prelude.{◌≡◌, ℕ, ◌+◌, List, [], ⊤, Ok, Err}
use Rattle.ssim_records.specs.declared.record.Record.{Record}
use Rattle.ssim_base.specs.Base.{Done, airline_of, data_set}
use Rattle.ssim_base.specs.Export as refusal
use Rattle.ssim_base.specs.Export.{Frame, chapter7}
use Rattle.ssim_base.specs.ReadBack.{AreRead, HasFrame}
use Rattle.ssim_base.specs.Timetable.{Days}
use Rattle.ssim_schedule.specs.declared.export.ExportFault.{ExportFault}
use Rattle.ssim_schedule.specs.declared.export.ExportFault.TheVariants as export
use Rattle.ssim_values.specs.Flight.{FlightNumber}
use Rattle.ssim_program.specs.Answer.{Answer}
use Rattle.ssim_program.specs.Made.{IsExport, IsExportOf}
use Rattle.ssim_program.specs.declared.refusal.Refusal.{Refusal}
use Rattle.ssim_program.specs.declared.refusal.Refusal.TheVariants as refused

-- a timetable of these days, over these records, has no export, for a flight or for the number of
-- records; or memory ran out
abbrev pub HasNoExport : List Record → (FlightNumber → Days) → ExportFault → Type 0
HasNoExport base days (export.Variations flight) =
    (frame : Frame) × HasFrame frame base × (chapter7 frame days ≡ Err (refusal.Variations flight))
HasNoExport base days export.Records =
    (frame : Frame) × HasFrame frame base × (chapter7 frame days ≡ Err refusal.Records)
HasNoExport base days export.WriteFault = ⊥
HasNoExport base days export.Memory = ⊤

-- the export of these days, over these records, is refused with this refusal
abbrev pub RefusesExport : List Record → (FlightNumber → Days) → Refusal → Type 0
RefusesExport base days refusal = (fault : ExportFault) × HasNoExport base days fault
    × (refusal ≡ refused.Export (airline_of base) fault)

-- the canonical export of these days, over these records
abbrev pub export_in : List Record → (FlightNumber → Days) → Answer (List ℕ)
export_in base days (Ok bytes) = IsExport base days bytes
export_in base days (Err why) = RefusesExport base days why

-- the bytes are read as the records of a base, without a refusal or a note, and are the export of
-- that base
pub record ReadsAsItself (bytes : List ℕ) : Type 0 where
  pub count : ℕ
  pub records : List (ℕ × Record)
  pub base : List Record
  pub read : AreRead bytes count records
  pub is_base : data_set (Done (count + 1)) records ≡ Ok (base, [])
  pub export : IsExportOf base bytes

-- What an export writes, and what it returns if it is refused.
use Rattle.std.specs.Prelude.{◌≡◌, ℕ, List, Result, Ok, Err}
use Rattle.std.specs.Io.KnownBytes.{Appends}
use Rattle.ssim_values.specs.Flight.{FlightNumber}
use Rattle.ssim_records.specs.Device.{Writer}
use Rattle.ssim_records.specs.declared.record.Record.{Record}
use Rattle.ssim_base.specs.ReadBack.{HasFrame, ReadsBackFrom}
use Rattle.ssim_base.specs.Timetable.{Days}
use Rattle.ssim_base.specs.Export as refusal
use Rattle.ssim_base.specs.Export.{ExportRefusal, Frame, chapter7}
use Rattle.ssim_base.specs.Sinks.{Breaks, Grows}
use Rattle.ssim_schedule.specs.declared.export.ExportFault.{ExportFault}
use Rattle.ssim_schedule.specs.declared.export.ExportFault.TheVariants.{Variations, Records}
use Rattle.ssim_schedule.specs.declared.export.ExportFault.TheVariants.{WriteFault, Memory}

-- the sink took the bytes of the export, and did not fail
abbrev pub Writes : Result (List ℕ) ExportRefusal → Writer → Writer → Type 0
Writes export old new = (bytes : List ℕ) × (export ≡ Ok bytes) × Grows bytes old new

-- the sink took the bytes of the export in the frame of a base, and did not fail
abbrev pub WritesBase : List Record → (FlightNumber → Days) → Writer → Writer → Type 0
WritesBase base days old new =
    (frame : Frame) × HasFrame frame base × Writes (chapter7 frame days) old new

-- the bytes that the sink took read back, in the frame of the base
abbrev pub ReadsBackBase : List Record → (FlightNumber → Days) → Writer → Writer → Type 0
ReadsBackBase base days old new =
    (frame : Frame) × HasFrame frame base × (bytes : List ℕ) × Appends old.taken new.taken bytes
    × ReadsBackFrom frame days bytes

-- The export is refused as its definition says, or memory ran out; in both cases the sink is
-- unchanged. Or the sink failed once, and took a prefix of the bytes. `state` is what a contract
-- knows of a sink.
abbrev pub Refuses : {W : Type 0} → (W → Writer) → Result (List ℕ) ExportRefusal → W → W
    → ExportFault → Type 0
Refuses state export old new (Variations flight) =
    (export ≡ Err (refusal.Variations flight)) × (new ≡ old)
Refuses state export old new Records = (export ≡ Err refusal.Records) × (new ≡ old)
Refuses state export old new Memory = new ≡ old
Refuses state export old new WriteFault =
    (bytes : List ℕ) × (export ≡ Ok bytes) × Breaks bytes (state old) (state new)

-- the export in the frame of a base is refused, or the sink failed
abbrev pub RefusesBase : {W : Type 0} → (W → Writer) → List Record → (FlightNumber → Days) → W → W
    → ExportFault → Type 0
RefusesBase state base days old new fault =
    (frame : Frame) × HasFrame frame base × Refuses state (chapter7 frame days) old new fault

-- How private functions say what was read, and why dates are invalid.
use Rattle.std.specs.Prelude.{◌≡◌, ℕ, List, Option, Some, None, Result, Ok, Err}
use Rattle.ssim_records.specs.declared.record.Record.{Record}
use Rattle.ssim_base.specs.Base.{Ending, Outcome}
use Rattle.ssim_base.specs.declared.fault.BaseFault.{BaseFault}
use Rattle.ssim_base.specs.declared.note.Note.{Note}
use Rattle.ssim_base.specs.Reading.{AreGiven, IsReadOf}
use Rattle.ssim_records.specs.declared.record.Record.TheVariants.{Header, Carrier, Trailer}
use Rattle.ssim_base.specs.Export.{Frame}
use Rattle.ssim_records.specs.Carrier.{CarrierFields}
use Rattle.ssim_text.specs.declared.dates.Dates.{Dates}
use Rattle.ssim_base.specs.declared.resolution.DatesFault.{DatesFault}
use Rattle.ssim_base.specs.Resolve.{LackYear, AreTurned}
use Rattle.ssim_base.specs.declared.fault.BaseFault.TheVariants as fault
use Rattle.ssim_base.specs.declared.resolution.DatesFault.TheVariants as dates_fault

-- what records bytes have; nothing is said if the reader does not report its bytes
abbrev pub AreGivenOf : ℕ → Option (List ℕ) → List (ℕ × Record) → Ending → Type 0
AreGivenOf limit None records ending = Unit {0}
AreGivenOf limit (Some bytes) records ending = AreGiven limit bytes records ending

-- a result whose value has records and notes, read by `seen`, has as an outcome the property P; out
-- of memory is no outcome
abbrev pub ReturnsAs : {X : Type 0} → (X → List Record × List Note) → Result X BaseFault
    → (Outcome → Type 0) → Type 0
ReturnsAs seen (Ok read) P = P (Ok (seen read))
ReturnsAs seen (Err fault.Memory) P = Unit {0}
ReturnsAs seen (Err refusal) P = P (Err refusal)

-- the refusal is what the bytes are read as; out of memory says nothing of the bytes
abbrev pub Refuses : ℕ → Option (List ℕ) → BaseFault → Type 0
Refuses limit known fault.Memory = Unit {0}
Refuses limit known refusal = IsReadOf limit known (Err refusal)

-- the three records are the header, the carrier record and the trailer of the frame
abbrev pub AreOfFrame : Frame → Record → Record → Record → Type 0
AreOfFrame frame first second last =
    (first ≡ Header frame.header) × (second ≡ Carrier frame.carrier)
    × (last ≡ Trailer frame.trailer)

-- why dates mean no period: a date that does not exist, or a last date before the first
abbrev pub AreFaulty : CarrierFields → Dates → DatesFault → Type 0
AreFaulty carrier dates dates_fault.NoSuchDate = LackYear carrier dates
AreFaulty carrier dates dates_fault.Turned = AreTurned carrier dates

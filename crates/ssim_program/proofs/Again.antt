-- A file that is the export of its own base is read as that base, so the base's export is the file.
use Rattle.std.proofs.Common.{◌≡◌, ◌∙◌, ◌⊎◌, ℕ, Bool, true, false, true≢false, List, [], ◌∷◌, Option, Some, Result, Ok, Err, inl, inr, sym, ap, subst}
use Rattle.ssim_values.specs.Flight.{FlightNumber}
use Rattle.ssim_records.specs.Carrier.{CarrierFields}
use Rattle.ssim_records.specs.Device.{Writer}
use Rattle.ssim_records.specs.Header.{HeaderFields}
use Rattle.ssim_records.specs.Trailer.{TrailerFields}
use Rattle.ssim_records.specs.declared.record.Record.{Record}
use Rattle.ssim_records.specs.declared.record.Record.TheVariants.{Header, Carrier, Trailer}
use Rattle.ssim_base.specs.Base.{Outcome}
use Rattle.ssim_base.specs.Export.{ExportRefusal, Frame, chapter7}
use Rattle.ssim_base.specs.clauses.Export.{frame_from}
use Rattle.ssim_schedule.specs.clauses.ExportResult.{ReadsBackBase}
use Rattle.ssim_base.specs.ReadBack.{HasFrame, ReadsBackFrom, kept_frame}
use Rattle.ssim_base.specs.Reading.{FailedReader, IsReadAs, IsReadBack, IsReadOf}
use Rattle.ssim_base.specs.Timetable.{Days, days_of}
use Rattle.ssim_base.specs.declared.note.Note.{Note}
use Rattle.ssim_base.proofs.FrameLemmas.{first-is, last-is, second-is}
use Rattle.ssim_program.specs.Acts.{Print}
use Rattle.ssim_program.specs.Again.{GrowsByItself, TidiesOnce}
use Rattle.ssim_program.specs.Exports.{ReadsAsItself}
use Rattle.ssim_program.specs.Made.{IsExport, IsExportOf, file_limit}

-- ---- a base has one frame

abbrev header_of : HeaderFields → Record → HeaderFields
header_of other (Header h) = h
header_of other _ = other

abbrev carrier_of : CarrierFields → Record → CarrierFields
carrier_of other (Carrier c) = c
carrier_of other _ = other

abbrev trailer_of : TrailerFields → Record → TrailerFields
trailer_of other (Trailer t) = t
trailer_of other _ = other

pub one_frame : (f g : Frame) (base : List Record) → HasFrame f base → HasFrame g base → f ≡ g
one_frame f g base p q =
    let d : Record = Header f.header in
    let header : f.header ≡ g.header = ap (header_of f.header) (sym (first-is f base d p) ∙ first-is g base d q) in
    let carrier : f.carrier ≡ g.carrier = ap (carrier_of f.carrier) (sym (second-is f base d p) ∙ second-is g base d q) in
    let trailer : f.trailer ≡ g.trailer = ap (trailer_of f.trailer) (sym (last-is f base d p) ∙ last-is g base d q) in
    ap (λ (x : HeaderFields). frame_from x f.carrier f.trailer) header
    ∙ ap (λ (x : CarrierFields). frame_from g.header x f.trailer) carrier
    ∙ ap (λ (x : TrailerFields). frame_from g.header g.carrier x) trailer

pub one_export : (base : List Record) (days : FlightNumber → Days) (a b : List ℕ) → IsExport base days a → IsExport base days b → a ≡ b
one_export base days a b p q =
    let frame = one_frame p.0 q.0 base p.1 q.1 in
    let same : Ok a ≡ Ok b = sym p.2 ∙ ap (λ (f : Frame). chapter7 f days) frame ∙ q.2 in
    ap (bytes_in a) same
  where
    bytes_in : List ℕ → Result (List ℕ) ExportRefusal → List ℕ
    bytes_in other (Ok bytes) = bytes
    bytes_in other (Err refusal) = other

-- ---- the law

abbrev base_in : List Record → Outcome → List Record
base_in other (Ok read) = read.0
base_in other (Err fault) = other

abbrev is_read : Outcome → Bool
is_read (Ok read) = true
is_read (Err fault) = false

abbrev read_as : List Record → List Note → Outcome
read_as base notes = Ok (base, notes)

as_itself : (base : List Record) (notes : List Note) (again bytes : List ℕ) (own : ReadsAsItself bytes) → IsExportOf base again
    → (read_as base notes ≡ read_as own.base []) ⊎ FailedReader (read_as base notes) → again ≡ bytes
as_itself base notes again bytes own export (inl e) =
    one_export own.base (days_of own.base) again bytes (subst (λ (b : List Record). IsExportOf b again) (ap (base_in base) e) export) own.export
as_itself base notes again bytes own export (inr f) = absurd (true≢false (ap is_read f.1))

pub tidied_once : IsReadBack → TidiesOnce
tidied_once law all name bytes acts own is fits (set, read, (again, export, are)) =
    let opened = read.1 in
    let left : read.0 ≡ Some bytes = opened.2 ∙ sym opened.1 ∙ is in
    let whole : IsReadAs file_limit bytes (Ok (set.0, set.1)) = subst (λ (o : Option (List ℕ)). IsReadOf file_limit o (Ok (set.0, set.1))) left read.2.0 in
    are ∙ ap (λ (bs : List ℕ). Print bs ∷ [])
    (as_itself set.0 set.1 again bytes own export (law bytes own.count own.records own.base [] file_limit (read_as set.0 set.1) own.read own.is_base fits whole))

-- ---- what was exported

pub reads_itself : (frame : Frame) (days : FlightNumber → Days) (bytes : List ℕ)
    → ReadsBackFrom frame days bytes → ReadsAsItself bytes
reads_itself frame days bytes r = record {
  count = r.count;
  records = r.records;
  base = r.base;
  read = r.read;
  is_base = r.valid;
  export = (kept_frame frame, r.frame_is, r.again);
}

pub grows_by_itself : (base : List Record) (days : FlightNumber → Days) (old new : Writer)
    → ReadsBackBase base days old new → GrowsByItself old.taken new.taken
grows_by_itself base days old new back =
    (back.2, reads_itself back.0 days back.2 back.4, back.3)

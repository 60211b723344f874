-- What it means that an export reads back.
use Rattle.std.specs.Prelude.{◌≡◌, ◌↔◌, ℕ, ◌<◌, ◌≤◌, ◌+◌, ◌-◌, ◌*◌, false, nat_eq, if◌then◌else◌}
use Rattle.std.specs.Prelude.{List, [], ◌∷◌, ◌++◌, length, Ok}
use Rattle.std.specs.List.{All}
use Rattle.ssim_values.specs.Flight.{FlightNumber, IsFlight}
use Rattle.ssim_periods.specs.Calendar.{day_count}
use Rattle.ssim_records.specs.Carrier.{IsCarrier}
use Rattle.ssim_records.specs.Frames.{Frames, others}
use Rattle.ssim_records.specs.Header.{IsHeader}
use Rattle.ssim_records.specs.Leg.{AreLegColumns}
use Rattle.ssim_records.specs.Record.{IsRecord, Spells}
use Rattle.ssim_records.specs.Segment.{IsTail}
use Rattle.ssim_records.specs.Trailer.{IsTrailer}
use Rattle.ssim_records.specs.declared.record.Record.{Record}
use Rattle.ssim_records.specs.declared.record.Record.TheVariants.{Header, Carrier, Trailer}
use Rattle.ssim_columns.specs.declared.field.end_code.EndCode.TheVariants.{End}
use Rattle.ssim_base.specs.Timetable.{LegValue, Days, itinerary, days_of, on_day, Above}
use Rattle.ssim_base.specs.Base.{Ending, Done, data_set}
use Rattle.ssim_base.specs.declared.note.Note.{Note}
use Rattle.ssim_base.specs.Export.{Frame, chapter7}

-- On each date the legs of a flight are ordered by rising leg sequence, from 1 to 99. No sequence
-- is there twice.
abbrev pub AreInOrder : (FlightNumber → Days) → Type 0
AreInOrder days =
    (flight : FlightNumber) (n : ℕ) → IsFlight flight → n < day_count
    → Above 0 (on_day (days flight) n)

-- a value for each day of each flight, each with its legs by rising sequence
pub record IsTimetable (days : FlightNumber → Days) : Type 0 where
  pub each_day : (flight : FlightNumber) → IsFlight flight → length (days flight) ≡ day_count
  pub rising : AreInOrder days

-- the trailer of a frame names the carrier's airline and ends the data set
pub record IsFrame (frame : Frame) : Type 0 where
  pub airline : frame.trailer.airline ≡ frame.carrier.airline
  pub code : frame.trailer.code ≡ End

-- the header, carrier and trailer that a base keeps
abbrev pub kept_frame : Frame → Frame
kept_frame frame = record {
  header = record frame.header { serial = 0 };
  carrier = record frame.carrier { serial = 0 };
  trailer = record frame.trailer { check = 0; serial = 0 };
}

-- the rank of a flight among all flights
abbrev pub place_of : FlightNumber → ℕ
place_of f = 27 * f.number + (if nat_eq f.suffix 32 then 0 else f.suffix - 64)

-- flights that exist, rising by number and suffix, from a rank on
abbrev pub Rise : ℕ → List FlightNumber → Type 0
Rise low [] = Unit {0}
Rise low (f ∷ fs) = (low ≤ place_of f) × IsFlight f × Rise (place_of f + 1) fs

-- ---- on bytes

-- a leg has columns and tails that records may have
pub record IsWritable (l : LegValue) : Type 0 where
  pub columns : AreLegColumns l.columns
  pub tails : All IsTail l.tails

-- all legs of a timetable have columns and tails that records may have
abbrev pub AreWritable : (FlightNumber → Days) → Type 0
AreWritable days =
    (flight : FlightNumber) (n : ℕ) → IsFlight flight → n < day_count
    → All IsWritable (on_day (days flight) n)

-- the header, carrier and trailer have fields that records may have
pub record IsWritableFrame (frame : Frame) : Type 0 where
  pub header : IsHeader frame.header
  pub carrier : IsCarrier frame.carrier
  pub trailer : IsTrailer frame.trailer

-- the numbered blocks spell the numbered records
abbrev pub EachSpells : List (ℕ × List ℕ) → List (ℕ × Record) → Type 0
EachSpells [] [] = Unit {0}
EachSpells (block ∷ blocks) (r ∷ records) =
    (block.0 ≡ r.0) × Spells r.1 block.1 × EachSpells blocks records
EachSpells _ _ = ⊥

-- The bytes are `count` blocks with nothing left over. The blocks that are not fill spell these
-- records, with their numbers.
pub record AreRead (bytes : List ℕ) (count : ℕ) (records : List (ℕ × Record)) : Type 0 where
  pub blocks : List (List ℕ)
  pub framed : Frames 0 false bytes blocks []
  pub counted : length blocks ≡ count
  pub spelled : EachSpells (others 0 blocks) records

-- a base begins with the header and the carrier of the frame and ends with its trailer
abbrev pub HasFrame : Frame → List Record → Type 0
HasFrame frame base =
    (body : List Record) × (base ≡ Header frame.header ∷ Carrier frame.carrier
    ∷ (body ++ Trailer frame.trailer ∷ []))

-- The bytes of an export read back. They are read as records, of which none is refused and none has
-- a note. The base has the frame, and on each day the itineraries that were exported. The base's
-- own export is these bytes again.
pub record ReadsBackFrom (frame : Frame) (days : FlightNumber → Days)
    (bytes : List ℕ) : Type 0 where
  pub count : ℕ
  pub records : List (ℕ × Record)
  pub base : List Record
  pub read : AreRead bytes count records
  pub valid : data_set (Done (count + 1)) records ≡ Ok (base, [])
  pub frame_is : HasFrame (kept_frame frame) base
  pub same : (flight : FlightNumber) (n : ℕ) → IsFlight flight → n < day_count
      → itinerary base flight n ≡ on_day (days flight) n
  pub again : chapter7 (kept_frame frame) (days_of base) ≡ Ok bytes

-- the bytes are the export of a frame and of a timetable that a desk may hold
pub record IsExport (frame : Frame) (days : FlightNumber → Days) (bytes : List ℕ) : Type 0 where
  pub frame_is : IsFrame frame
  pub frame_writable : IsWritableFrame frame
  pub timetable : IsTimetable days
  pub legs : AreWritable days
  pub written : chapter7 frame days ≡ Ok bytes

-- Each export reads back from its bytes.
abbrev pub BytesReadBack : Type 0
BytesReadBack =
    (frame : Frame) (days : FlightNumber → Days) (bytes : List ℕ) → IsExport frame days bytes
    → ReadsBackFrom frame days bytes

-- two timetables have the same itineraries
abbrev pub HaveSameItineraries : (FlightNumber → Days) → (FlightNumber → Days) → Type 0
HaveSameItineraries days others =
    (flight : FlightNumber) (n : ℕ) → IsFlight flight → n < day_count
    → on_day (days flight) n ≡ on_day (others flight) n

-- The bytes of two exports are equal exactly if their timetables have the same itineraries and a
-- base keeps their frames alike.
abbrev pub ExportsAreOne : Type 0
ExportsAreOne =
    (frame other : Frame) (days others : FlightNumber → Days) (bytes these : List ℕ)
    → IsExport frame days bytes → IsExport other others these
    → (bytes ≡ these) ↔ ((kept_frame frame ≡ kept_frame other) × HaveSameItineraries days others)

-- ---- what a base gives

-- A base can be exported: it has a frame, which a base keeps as it is, and gives a timetable, and
-- both can be written.
pub record CanExport (base : List Record) : Type 0 where
  pub frame : Frame
  pub has_frame : HasFrame frame base
  pub kept : kept_frame frame ≡ frame
  pub frame_is : IsFrame frame
  pub frame_writable : IsWritableFrame frame
  pub timetable : IsTimetable (days_of base)
  pub legs : AreWritable (days_of base)

-- Each base that is read can be exported.
abbrev pub BasesExport : Type 0
BasesExport =
    (ending : Ending) (records : List (ℕ × Record)) (base : List Record) (notes : List Note)
    → All (λ r. IsRecord r.1) records
    → data_set ending records ≡ Ok (base, notes) → CanExport base

-- What is proved of exports on the way to their laws: of their records, and of their bytes.
use Rattle.std.specs.Prelude.{◌≡◌, ℕ, ◌<◌, false, List, [], map, Ok, None}
use Rattle.std.specs.List.{list_any}
use Rattle.ssim_values.specs.Flight.{FlightNumber, IsFlight}
use Rattle.ssim_periods.specs.Calendar.{day_count}
use Rattle.ssim_records.specs.declared.record.Record.{Record}
use Rattle.ssim_base.specs.Timetable.{Days, days_of, itinerary, on_day, same_flight}
use Rattle.ssim_base.specs.Base.{Done, first_refusal}
use Rattle.ssim_base.specs.Export.{Frame, chapter7, chapter7_records, export_of, pieces}
use Rattle.ssim_base.specs.ReadBack.{AreRead, HaveSameItineraries, IsExport, IsFrame, IsTimetable}
use Rattle.ssim_base.specs.ReadBack.{Rise, kept_frame}
use Rattle.ssim_base.specs.clauses.ReadBack.{base_of, records_of}

-- An export gives the itineraries by day that were exported.
abbrev pub GivesBack : (FlightNumber → Days) → List (List Record) → Type 0
GivesBack days sections = (flight : FlightNumber) (n : ℕ) → IsFlight flight → n < day_count
    → itinerary (base_of (records_of sections)) flight n ≡ on_day (days flight) n

-- Reading back, part 1: each flight has the same itinerary on each date.
abbrev pub ReadsBack : Type 0
ReadsBack = (frame : Frame) (days : FlightNumber → Days) (sections : List (List Record)) → IsTimetable days
    → chapter7_records frame days ≡ Ok sections → GivesBack days sections

-- Reading back, part 2: the records that were read are exported as the same records.
abbrev pub ExportsAgain : Type 0
ExportsAgain = (frame : Frame) (days : FlightNumber → Days) (sections : List (List Record)) → IsTimetable days
    → chapter7_records frame days ≡ Ok sections
    → chapter7_records (kept_frame frame) (days_of (base_of (records_of sections))) ≡ Ok sections

-- Reading back, part 3: no record of an export is refused, whatever numbers its records have among
-- the fill.
abbrev pub NoneRefused : Type 0
NoneRefused = (frame : Frame) (days : FlightNumber → Days) (sections : List (List Record)) → IsFrame frame → IsTimetable days
    → chapter7_records frame days ≡ Ok sections
    → (number : ℕ) (records : List (ℕ × Record)) → map (λ r. r.1) records ≡ records_of sections → first_refusal (Done number) [] records ≡ None

-- Equal timetables have equal exports.
abbrev pub SameExport : Type 0
SameExport = (frame : Frame) (days others : FlightNumber → Days) → ((flight : FlightNumber) → IsFlight flight → days flight ≡ others flight)
    → chapter7_records frame days ≡ chapter7_records frame others

-- the flights that are not in the list have no piece
abbrev pub NoOther : (FlightNumber → Days) → List FlightNumber → Type 0
NoOther days fs = (g : FlightNumber) → IsFlight g → list_any (same_flight g) fs ≡ false → pieces (days g) ≡ []

-- Flights without a flown day add nothing to an export, so the flights of a map serve in place of
-- all flights.
abbrev pub FlownSuffice : Type 0
FlownSuffice = (frame : Frame) (days : FlightNumber → Days) (fs : List FlightNumber) → Rise 0 fs → NoOther days fs
    → chapter7_records frame days ≡ export_of fs frame days

-- Bytes are read in at most one way.
abbrev pub ReadOnce : Type 0
ReadOnce = (bytes : List ℕ) (count other : ℕ) (records others : List (ℕ × Record)) → AreRead bytes count records → AreRead bytes other others
    → (count ≡ other) × (records ≡ others)

-- Equal bytes are exports of equal timetables, in frames that a base keeps alike.
abbrev pub BytesDetermine : Type 0
BytesDetermine = (frame other : Frame) (days others : FlightNumber → Days) (bytes : List ℕ) → IsExport frame days bytes → IsExport other others bytes
    → (kept_frame frame ≡ kept_frame other) × HaveSameItineraries days others

-- Equal timetables in frames that a base keeps alike have the same bytes.
abbrev pub SameBytes : Type 0
SameBytes = (frame other : Frame) (days others : FlightNumber → Days) → kept_frame frame ≡ kept_frame other → IsTimetable days → IsTimetable others
    → HaveSameItineraries days others → chapter7 frame days ≡ chapter7 other others

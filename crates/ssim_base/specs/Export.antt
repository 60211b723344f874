-- The canonical export of a timetable: its flights in order, their pieces, the legs of each with
-- their tails.
use Rattle.std.specs.Prelude.{ℕ, ◌+◌, ◌-◌, ◌%◌, ◌/◌, Bool, true, false, ◌&&◌, nat_eq, nat_lt, if◌then◌else◌, List, [], ◌∷◌, ◌++◌, map, length, replicate, slice_index, Option, Some, None, Result, Ok, Err}
use Rattle.std.specs.List.{flat_map, range_with_len}
use Rattle.std.specs.Str.{bytes_eq}
use Rattle.ssim_values.specs.Flight.{FlightNumber}
use Rattle.ssim_values.specs.Period.{DayRange}
use Rattle.ssim_periods.specs.Pieces.{pieces_of}
use Rattle.ssim_records.specs.Carrier.{CarrierFields}
use Rattle.ssim_records.specs.Frames.{fill}
use Rattle.ssim_records.specs.Header.{HeaderFields}
use Rattle.ssim_records.specs.Leg.{Name, exported_leg}
use Rattle.ssim_records.specs.Segment.{exported_segment}
use Rattle.ssim_records.specs.Trailer.{TrailerFields}
use Rattle.ssim_records.specs.Record.{written}
use Rattle.ssim_records.specs.declared.record.Record.{Record}
use Rattle.ssim_records.specs.declared.record.Record.TheVariants.{Header, Carrier, Leg, Segment, Trailer}
use Rattle.ssim_base.specs.Timetable.{LegValue, Legs, Days}

-- the parts of a base that an export keeps
pub record Frame : Type 0 where
  pub header : HeaderFields
  pub carrier : CarrierFields
  pub trailer : TrailerFields

-- ---- pieces

-- whether two lists of segment tails are equal
abbrev pub same_tails : List (List ℕ) → List (List ℕ) → Bool
same_tails [] [] = true
same_tails (t ∷ tails) (u ∷ others) = bytes_eq t u && same_tails tails others
same_tails [] (u ∷ others) = false
same_tails (t ∷ tails) [] = false

-- whether two legs are equal
abbrev pub same_leg : LegValue → LegValue → Bool
same_leg l m =
    nat_eq l.sequence m.sequence && (bytes_eq l.columns m.columns && same_tails l.tails m.tails)

-- whether two itineraries are equal
abbrev pub same_itinerary : Legs → Legs → Bool
same_itinerary [] [] = true
same_itinerary (l ∷ legs) (m ∷ others) = same_leg l m && same_itinerary legs others
same_itinerary [] (m ∷ others) = false
same_itinerary (l ∷ legs) [] = false

-- a period with the itinerary on its dates
abbrev pub Piece : Type 0
Piece = DayRange × Legs

-- the canonical division of a flight's days
abbrev pub pieces : Days → List Piece
pieces days = pieces_of same_itinerary [] days

-- ---- records, with serial 0

-- the segment record of a tail; its service type is the leg's, column 14
abbrev pub tail_record : Name → ℕ → List ℕ → Record
tail_record name service tail = Segment (exported_segment name service tail 0)

-- the record of a leg, followed by the records of its tails
abbrev pub leg_records : List ℕ → FlightNumber → ℕ → DayRange → LegValue → List Record
leg_records airline flight variation period l =
    let name : Name = record {
      airline = airline;
      flight = flight;
      variation = variation;
      sequence = l.sequence;
    } in
    Leg (exported_leg name period l.columns 0)
    ∷ map (tail_record name (slice_index l.columns 0)) l.tails

-- the records of a piece: its legs by sequence, each followed by its tails
abbrev pub piece_records : List ℕ → FlightNumber → ℕ → Piece → List Record
piece_records airline flight variation piece =
    flat_map (leg_records airline flight variation piece.0) piece.1

-- the records of the pieces of a flight, with itinerary variations from `variation` on
abbrev pub pieces_records : List ℕ → FlightNumber → ℕ → List Piece → List Record
pieces_records airline flight variation [] = []
pieces_records airline flight variation (piece ∷ later) =
    piece_records airline flight variation piece
    ++ pieces_records airline flight (variation + 1) later

-- the records of a flight, with itinerary variations from 1 on
abbrev pub flight_records : List ℕ → (FlightNumber → Days) → FlightNumber → List Record
flight_records airline days flight = pieces_records airline flight 1 (pieces (days flight))

-- the records of some flights, one after another
abbrev pub flights_records : List ℕ → (FlightNumber → Days) → List FlightNumber → List Record
flights_records airline days flights = flat_map (flight_records airline days) flights

-- ---- all flights, by number and then by suffix, the blank first

-- the number of flights; opaque, so that the list of all flights is never written out
unfoldable pub flight_count : ℕ
flight_count = 270000

-- the flight with this rank: 27 suffixes a number
abbrev pub flight_at : ℕ → FlightNumber
flight_at n = record { number = n / 27; suffix = if nat_eq (n % 27) 0 then 32 else 64 + n % 27 }

-- all flights in order
abbrev pub all_flights : List FlightNumber
all_flights = map flight_at (range_with_len 0 flight_count)

-- ---- the whole

-- a record with a serial
abbrev pub with_serial : ℕ → Record → Record
with_serial n (Header r) = Header (record r { serial = n })
with_serial n (Carrier r) = Carrier (record r { serial = n })
with_serial n (Leg r) = Leg (record r { serial = n })
with_serial n (Segment r) = Segment (record r { serial = n })
with_serial n (Trailer r) = Trailer (record r { serial = n })

-- records with serials from n on
abbrev pub numbered : ℕ → List Record → List Record
numbered n [] = []
numbered n (r ∷ records) = with_serial n r ∷ numbered (n + 1) records

-- the four parts of an export, each of which is filled up to a multiple of five records
abbrev pub sections : Frame → List Record → List (List Record)
sections frame body =
    (with_serial 1 (Header frame.header) ∷ [])
    ∷ (with_serial 2 (Carrier frame.carrier) ∷ [])
    ∷ numbered 3 body
    ∷ (Trailer (record frame.trailer { check = 2 + length body; serial = 3 + length body }) ∷ [])
    ∷ []

-- why a timetable has no export
pub data ExportRefusal : Type 0 where
  Variations : FlightNumber → ExportRefusal  -- 50, with the flight
  Records : ExportRefusal  -- 51

-- the refusal of the first flight that cannot be exported; `count` is the number of records before
-- it
abbrev pub export_refusal : List ℕ → (FlightNumber → Days) → ℕ → List FlightNumber
    → Option ExportRefusal
export_refusal airline days count [] = None
export_refusal airline days count (flight ∷ flights) =
    let of_flight = pieces (days flight) in
    let after = count + length (flight_records airline days flight) in
    if nat_lt 99 (length of_flight) then Some (Variations flight)
    else (if nat_lt 0 (length of_flight) && nat_lt 999999 (after + 1) then Some Records
    else export_refusal airline days after flights)

-- the refusal, or else the records
abbrev pub export_unless_refused : Option ExportRefusal → List (List Record)
    → Result (List (List Record)) ExportRefusal
export_unless_refused (Some refusal) records = Err refusal
export_unless_refused None records = Ok records

-- the export of some flights' itineraries by day
abbrev pub export_of : List FlightNumber → Frame → (FlightNumber → Days)
    → Result (List (List Record)) ExportRefusal
export_of flights frame days =
    let airline = frame.carrier.airline in
    export_unless_refused (export_refusal airline days 2 flights)
    (sections frame (flights_records airline days flights))

-- the sections of the whole export, or its refusal
abbrev pub chapter7_records : Frame → (FlightNumber → Days)
    → Result (List (List Record)) ExportRefusal
chapter7_records frame days = export_of all_flights frame days

-- ---- bytes

-- bytes with an LF
abbrev pub line : List ℕ → List ℕ
line bytes = bytes ++ 10 ∷ []

-- the number of records of fill after n records
abbrev pub fill_count : ℕ → ℕ
fill_count n = (5 - n % 5) % 5

-- the bytes of a section: each record with LF, and fill up to a multiple of five
abbrev pub section_bytes : List Record → List ℕ
section_bytes records =
    flat_map (λ r. line (written r)) records
    ++ flat_map line (replicate (fill_count (length records)) fill)

-- the bytes of all sections
abbrev pub export_bytes : List (List Record) → List ℕ
export_bytes = flat_map section_bytes

-- the result with its value mapped
abbrev pub result_map : {A B E : Type 0} → (A → B) → Result A E → Result B E
result_map f (Ok a) = Ok (f a)
result_map f (Err e) = Err e

-- the chapter 7 bytes of a frame and a timetable, or the refusal
abbrev pub chapter7 : Frame → (FlightNumber → Days) → Result (List ℕ) ExportRefusal
chapter7 frame days = result_map export_bytes (chapter7_records frame days)

-- The whole of an export: its frame, its serials, which a base does not keep, and the export of
-- what was read.
use Rattle.std.proofs.Common.{◌≡◌, ℕ, zero, suc, ◌+◌, ◌<◌, ◌&&◌, nat_lt, if◌then◌else◌, List, [], ◌∷◌, ◌++◌, map, length, slice_index, Option, Some, None, Ok, refl, sym, ap, subst, ◌∙◌, arith}
use Rattle.std.specs.List.{range_with_len, AllByRecursion as Each}
use Rattle.ssim_values.specs.Flight.{FlightNumber}
use Rattle.ssim_values.specs.Period.{DayRange}
use Rattle.ssim_periods.specs.Calendar.{day_count}
use Rattle.ssim_periods.specs.Days.{each_day}
use Rattle.ssim_records.specs.Trailer.{TrailerFields}
use Rattle.ssim_records.specs.declared.record.Record.{Record}
use Rattle.ssim_records.specs.declared.record.Record.TheVariants.{Header, Carrier, Leg, Segment, Trailer}
use Rattle.ssim_base.specs.Timetable.{LegValue, Legs, Days, itinerary, days_of, on_day}
use Rattle.ssim_base.specs.Base.{kept, kept_all}
use Rattle.ssim_base.specs.Export.{Frame, Piece, ExportRefusal, Variations, Records, pieces}
use Rattle.ssim_base.specs.Export.{tail_record, leg_records, pieces_records, flight_records}
use Rattle.ssim_base.specs.Export.{flights_records, flight_count, flight_at, all_flights}
use Rattle.ssim_base.specs.Export.{with_serial, numbered, sections, export_refusal}
use Rattle.ssim_base.specs.Export.{export_unless_refused, chapter7_records}
use Rattle.ssim_base.specs.ReadBack.{IsTimetable, kept_frame, HasFrame, place_of}
use Rattle.ssim_base.specs.clauses.ReadBack.{records_of, base_of}
use Rattle.ssim_base.proofs.ExportLaws.{ExportsAgain, ReadsBack, SameExport}
use Rattle.ssim_base.proofs.Each.{each-map}
use Rattle.ssim_base.proofs.Places.{flight-is, flight-place, place-below}
use Rattle.ssim_base.proofs.Pieces.{itinerary_pieces}
use Rattle.ssim_base.proofs.Parts.{own_name, flights_from, each-flights, itinerary-flights}

-- ---- what a base keeps

pub kept-serial : (e : List Record) (n : ℕ) (r : Record) → kept e (with_serial n r) ≡ kept e r
kept-serial e n (Header r) = refl
kept-serial e n (Carrier r) = refl
kept-serial e n (Leg r) = refl
kept-serial e n (Segment r) = refl
kept-serial e n (Trailer r) = refl

-- a record that a base keeps as it is
abbrev pub HasAccepted : Record → Type 0
HasAccepted r = (e : List Record) → kept e r ≡ r

leg-kept : (a : List ℕ) (f : FlightNumber) (v : ℕ) (period : DayRange) (l : LegValue) → Each HasAccepted (leg_records a f v period l)
leg-kept a f v period l = (λ e. refl, each-map HasAccepted (tail_record (own_name a f v l) (slice_index l.columns 0)) l.tails (λ t e. refl))

kept-body : (e : List Record) (n : ℕ) (body : List Record) (t : TrailerFields) → Each HasAccepted body
    → kept_all e (numbered n body ++ Trailer t ∷ []) ≡ body ++ Trailer (record t { check = 0; serial = 0 }) ∷ []
kept-body e n [] t h = refl
kept-body e n (r ∷ rs) t h =
    ap (λ k. k ∷ kept_all (k ∷ e) (numbered (n + 1) rs ++ Trailer t ∷ [])) (kept-serial e n r ∙ h.0 e)
    ∙ ap (λ ks. r ∷ ks) (kept-body (r ∷ e) (n + 1) rs t h.1)

-- the base that reads an export
based : Frame → List Record → List Record
based frame body =
    Header (record frame.header { serial = 0 }) ∷ Carrier (record frame.carrier { serial = 0 })
    ∷ (body ++ Trailer (record frame.trailer { check = 0; serial = 0 }) ∷ [])

base-is : (frame : Frame) (body : List Record) → Each HasAccepted body → base_of (records_of (sections frame body)) ≡ based frame body
unfolding based
base-is frame body h =
    let top : Record = Header (record frame.header { serial = 0 }) in
    let second : Record = Carrier (record frame.carrier { serial = 0 }) in
    ap (λ rs. top ∷ second ∷ rs) (kept-body (second ∷ top ∷ []) 3 body (record frame.trailer { check = 2 + length body; serial = 3 + length body }) h)

pub exported : (o : Option ExportRefusal) (s t : List (List Record))
    → export_unless_refused o s ≡ Ok t → s ≡ t
exported None s t h = cc
exported (Some refusal) s t h = cc

-- ---- what was read

body_of : Frame → (FlightNumber → Days) → List Record
body_of frame days = flights_records frame.carrier.airline days all_flights

base-export : (frame : Frame) (days : FlightNumber → Days) (s : List (List Record)) → chapter7_records frame days ≡ Ok s
    → base_of (records_of s) ≡ based frame (body_of frame days)
unfolding body_of
base-export frame days s h =
    let body = flights_records frame.carrier.airline days all_flights in
    ap (λ t. base_of (records_of t)) (sym (exported (export_refusal frame.carrier.airline days 2 all_flights) (sections frame body) s h))
    ∙ base-is frame body (each-flights HasAccepted leg-kept frame.carrier.airline days all_flights)

pub base-frame : (frame : Frame) (days : FlightNumber → Days) (s : List (List Record)) → chapter7_records frame days ≡ Ok s
    → HasFrame (kept_frame frame) (base_of (records_of s))
unfolding based
base-frame frame days s h = (body_of frame days, base-export frame days s h)

given-back : (frame : Frame) (days : FlightNumber → Days) → IsTimetable days → (j n : ℕ) → j < flight_count → n < day_count
    → itinerary (based frame (body_of frame days)) (flight_at j) n ≡ on_day (days (flight_at j)) n
unfolding based body_of
given-back frame days is j n fit within =
    let f = flight_at j in
    let of_flight = itinerary_pieces (days f) in
    itinerary-flights frame.carrier.airline days 0 flight_count (Trailer (record frame.trailer { check = 0; serial = 0 }) ∷ []) j n (on_day (days f) n)
    (omega arith) (omega arith) (of_flight.on_each_day n) (is.rising f n (flight-is j fit) within) refl (λ name. refl)

pub reads_back : ReadsBack
reads_back frame days s is h f n flight within =
    ap (λ rs. itinerary rs f n) (base-export frame days s h)
    ∙ subst (λ g. itinerary (based frame (body_of frame days)) g n ≡ on_day (days g) n) (flight-place f flight) (given-back frame days is (place_of f) n (place-below f flight) within)

-- ---- the export of what was read

-- a list is determined by its elements
listed : (g : ℕ → Legs) (v : Days) (a : ℕ) → ((n m : ℕ) → n < length v → m ≡ a + n → g m ≡ on_day v n) → map g (range_with_len a (length v)) ≡ v
listed g [] a h = refl
listed g (x ∷ v) a h =
    ap (λ y. y ∷ map g (range_with_len (a + 1) (length v))) (h 0 a (omega arith) (omega arith))
    ∙ ap (λ ys. x ∷ ys) (listed g v (a + 1) (λ n m l e. h (suc n) m (omega arith) (omega arith)))

each_day-is : (g : ℕ → Legs) (v : Days) → length v ≡ day_count → ((n : ℕ) → n < day_count → g n ≡ on_day v n) → each_day g ≡ v
each_day-is g v len h =
    ap (λ k. map g (range_with_len 0 k)) (sym len)
    ∙ listed g v 0 (λ n m l e. let same : m ≡ n = omega arith in ap g same ∙ h n (omega arith))

records-same : (a : List ℕ) (days others : FlightNumber → Days) (low k : ℕ) → ((j : ℕ) → j < low + k → days (flight_at j) ≡ others (flight_at j))
    → flights_records a days (flights_from low k) ≡ flights_records a others (flights_from low k)
records-same a days others low zero h = refl
records-same a days others low (suc k) h =
    ap (λ d. pieces_records a (flight_at low) 1 (pieces d) ++ flights_records a days (flights_from (low + 1) k)) (h low (omega arith))
    ∙ ap (λ rs. flight_records a others (flight_at low) ++ rs) (records-same a days others (low + 1) k (λ j l. h j (omega arith)))

-- a flight with these pieces, and then the others
abbrev pub refusal_after : List ℕ → ℕ → FlightNumber → List Piece → (ℕ → Option ExportRefusal) → Option ExportRefusal
refusal_after a count f ps more =
    let after = count + length (pieces_records a f 1 ps) in
    if nat_lt 99 (length ps) then Some (Variations f) else (if nat_lt 0 (length ps) && nat_lt 999999 (after + 1) then Some Records else more after)

refusal-same : (a : List ℕ) (days others : FlightNumber → Days) (count low k : ℕ) → ((j : ℕ) → j < low + k → days (flight_at j) ≡ others (flight_at j))
    → export_refusal a days count (flights_from low k) ≡ export_refusal a others count (flights_from low k)
refusal-same a days others count low zero h = refl
refusal-same a days others count low (suc k) h =
    let f = flight_at low in
    ap (λ d. refusal_after a count f (pieces d) (λ n. export_refusal a days n (flights_from (low + 1) k))) (h low (omega arith))
    ∙ ap (λ rest. refusal_after a count f (pieces (others f)) (λ n. rest)) (refusal-same a days others (count + length (flight_records a others f)) (low + 1) k (λ j l. h j (omega arith)))

pub same_export : SameExport
same_export frame days others h =
    let same : (j : ℕ) → j < 0 + flight_count → days (flight_at j) ≡ others (flight_at j) = λ j l. h (flight_at j) (flight-is j (omega arith)) in
    ap (λ o. export_unless_refused o (sections frame (flights_records frame.carrier.airline days all_flights))) (refusal-same frame.carrier.airline days others 2 0 flight_count same)
    ∙ ap (λ rs. export_unless_refused (export_refusal frame.carrier.airline others 2 all_flights) (sections frame rs)) (records-same frame.carrier.airline days others 0 flight_count same)

pub exports_again : ExportsAgain
exports_again frame days s is h =
    same_export (kept_frame frame) (days_of (base_of (records_of s))) days
    (λ f flight. each_day-is (itinerary (base_of (records_of s)) f) (days f) (is.each_day f flight) (λ n within. reads_back frame days s is h f n flight within))
    ∙ h

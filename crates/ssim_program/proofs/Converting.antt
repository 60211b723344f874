-- The answer of `convert`, from what the crates below say: timetables that agree on all flights have
-- the same fates and as many flight dates, and a frame in another time mode is that of the records
-- in it.
use Rattle.std.proofs.Common.{◌≡◌, ◌∙◌, ◌+◌, ◌≤◌, ◌∷◌, Bool, List, Result, ap, arith, cond}
use Rattle.std.proofs.Common.{false, map, refl, subst, suc, sym, true, zero, ℕ}
use Rattle.std.specs.List.{count_by, filter, fold, range_with_len}
use Rattle.ssim_values.specs.Flight.{FlightNumber, IsFlight}
use Rattle.ssim_values.specs.declared.time_mode.TimeMode.{TimeMode}
use Rattle.ssim_values.specs.declared.time_mode.TimeMode.TheVariants.{Utc, Local}
use Rattle.ssim_periods.specs.Calendar.{day_count}
use Rattle.ssim_records.specs.declared.record.Record.{Record}
use Rattle.ssim_base.specs.Base.{airline_of}
use Rattle.ssim_base.specs.Export.{Frame, chapter7, flight_at, flight_count, pieces}
use Rattle.ssim_base.specs.ReadBack.{HasFrame}
use Rattle.ssim_base.specs.Stations.{Row}
use Rattle.ssim_base.specs.Timetable.{Days, on_day}
use Rattle.ssim_base.proofs.Places.{flight-is}
use Rattle.ssim_schedule.specs.FlightPieces.{Divided, divided, flies}
use Rattle.ssim_schedule.specs.declared.export.ExportFault.{ExportFault}
use Rattle.ssim_schedule.specs.declared.export.ExportFault.TheVariants.{Memory, Records}
use Rattle.ssim_schedule.specs.declared.export.ExportFault.TheVariants.{Variations, WriteFault}
use Rattle.ssim_schedule.proofs.Divisions.{flights_from}
use Rattle.ssim_held.specs.Entries.{DeskSeen}
use Rattle.ssim_parts.specs.FlightFates.{FlightFate, fate_pieces, fates_of}
use Rattle.ssim_parts.specs.ConversionLines.{flies_with, last_line, unconverted_lines}
use Rattle.ssim_program.specs.Converting.{between, in_mode, in_other_mode, in_own_mode}
use Rattle.ssim_program.specs.Exports.{HasNoExport, RefusesExport}
use Rattle.ssim_program.specs.internal.Export.{HasNoExportIn}
use Rattle.ssim_program.specs.declared.refusal.Refusal.{Refusal}
use Rattle.ssim_program.specs.declared.refusal.Refusal.TheVariants as refused

-- ---- which of the two

pub own_between : (mode : TimeMode) (desk : DeskSeen) (r : Result (List ℕ × List ℕ) Refusal)
    → in_own_mode desk r → between mode mode desk r
own_between Utc desk r h = h
own_between Local desk r h = h

pub other_between : (from to : TimeMode) (desk : DeskSeen) (r : Result (List ℕ × List ℕ) Refusal)
    → (from ≡ to → ⊥) → in_other_mode to desk r → between from to desk r
other_between Utc Utc desk r differ h = absurd (differ refl)
other_between Utc Local desk r differ h = h
other_between Local Utc desk r differ h = h
other_between Local Local desk r differ h = absurd (differ refl)

-- ---- the frame

abbrev framed : TimeMode → Frame → Frame
framed mode frame = record frame { carrier = record frame.carrier { time_mode = mode } }

pub has_framed : (mode : TimeMode) (frame : Frame) (base : List Record) → HasFrame frame base
    → HasFrame (framed mode frame) (in_mode mode base)
has_framed mode frame base (body, is) = (body, ap (in_mode mode) is)

pub same_airline : (mode : TimeMode) (frame : Frame) (base : List Record) → HasFrame frame base
    → airline_of (in_mode mode base) ≡ airline_of base
same_airline mode frame base (body, is) =
    ap (λ (b : List Record). airline_of (in_mode mode b)) is ∙ sym (ap airline_of is)

-- ---- refusals

-- the export of these days is that of others, and there is none
pub no_export : (frame : Frame) (base : List Record) (days others : FlightNumber → Days)
    (fault : ExportFault) → chapter7 frame days ≡ chapter7 frame others → HasFrame frame base
    → HasNoExportIn frame days fault → HasNoExport base others fault
no_export frame base days others (Variations flight) same has none =
    (frame, has, sym same ∙ none)
no_export frame base days others Records same has none = (frame, has, sym same ∙ none)
no_export frame base days others WriteFault same has none = none
no_export frame base days others Memory same has none = tt

pub no_memory : (base : List Record) (days : FlightNumber → Days) (fault : ExportFault)
    → fault ≡ Memory → HasNoExport base days fault
no_memory base days fault is = subst (HasNoExport base days) (sym is) tt

-- the export is refused for its fault, under the airline of the desk
pub refused_for : (base : List Record) (days : FlightNumber → Days) (airline : List ℕ)
    (fault : ExportFault) → airline ≡ airline_of base → HasNoExport base days fault
    → RefusesExport base days (refused.Export airline fault)
refused_for base days airline fault is none =
    (fault, none, ap (λ (a : List ℕ). refused.Export a fault) is)

-- ---- timetables that agree

module _ (days others : FlightNumber → Days)
    (same : (g : FlightNumber) → IsFlight g → days g ≡ others g) where
  -- what becomes of the dates of one flight, before those of later ones
  abbrev before_later : List Row → TimeMode → FlightNumber → Days → List FlightFate → List FlightFate
  before_later rows mode flight ds later =
      cond (flies (flight, pieces ds)) ((flight, fate_pieces rows mode ds) ∷ later) later

  abbrev fates_on : List Row → TimeMode → (FlightNumber → Days) → List Divided → List FlightFate
  fates_on rows mode ds = map (λ flight. (flight.0, fate_pieces rows mode (ds flight.0)))

  next : (rows : List Row) (mode : TimeMode) (ds : FlightNumber → Days) (flight : FlightNumber)
      (rest : List Divided) (b : Bool)
      → fates_on rows mode ds (cond b (divided ds flight ∷ rest) rest)
      ≡ cond b ((flight, fate_pieces rows mode (ds flight)) ∷ fates_on rows mode ds rest)
      (fates_on rows mode ds rest)
  next rows mode ds flight rest true = refl
  next rows mode ds flight rest false = refl

  abbrev flying : (FlightNumber → Days) → ℕ → ℕ → List Divided
  flying ds low k = filter flies (map (divided ds) (flights_from low k))

  fates_from : (rows : List Row) (mode : TimeMode) (low k : ℕ) → low + k ≤ flight_count
      → fates_on rows mode days (flying days low k) ≡ fates_on rows mode others (flying others low k)
  fates_from rows mode low zero within = refl
  fates_from rows mode low (suc k) within =
      let f = flight_at low in
      next rows mode days f (flying days (low + 1) k) (flies (divided days f))
      ∙ ap (λ (ds : Days).
      before_later rows mode f ds (fates_on rows mode days (flying days (low + 1) k)))
      (same f (flight-is low (omega arith)))
      ∙ ap (λ (later : List FlightFate). before_later rows mode f (others f) later)
      (fates_from rows mode (low + 1) k (omega arith))
      ∙ sym (next rows mode others f (flying others (low + 1) k) (flies (divided others f)))

  pub same_fates : (rows : List Row) (mode : TimeMode)
      → fates_of rows mode days ≡ fates_of rows mode others
  same_fates rows mode = fates_from rows mode 0 flight_count (omega arith)

  abbrev dates : (FlightNumber → Days) → FlightNumber → ℕ
  dates ds flight = count_by (λ n. flies_with (on_day (ds flight) n)) (range_with_len 0 day_count)

  sums_from : (low k a : ℕ) → low + k ≤ flight_count
      → fold (λ a flight. a + dates days flight) a (flights_from low k)
      ≡ fold (λ a flight. a + dates others flight) a (flights_from low k)
  sums_from low zero a within = refl
  sums_from low (suc k) a within =
      let f = flight_at low in
      ap (λ (ds : Days). fold (λ a flight. a + dates days flight)
      (a + count_by (λ n. flies_with (on_day ds n)) (range_with_len 0 day_count))
      (flights_from (low + 1) k)) (same f (flight-is low (omega arith)))
      ∙ sums_from (low + 1) k (a + dates others f) (omega arith)

  pub same_lines : unconverted_lines days ≡ unconverted_lines others
  same_lines = ap (λ (n : ℕ). last_line n 0 0) (sums_from 0 flight_count 0 (omega arith))

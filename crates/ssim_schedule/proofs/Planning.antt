-- A plan says of a schedule's flights what the definition says of all flights.
use Rattle.std.proofs.Common.{◌≡◌, ◌≤◌, ◌<◌, ℕ, suc, ◌+◌, Bool, true, false, ◌||◌, nat_eq, if◌then◌else◌, List, [], ◌∷◌, ◌++◌, map, length, get_or, Option, Some, None, Result, Ok, Err, refl, sym, ap, subst, ◌∙◌, arith}
use Rattle.std.specs.Prelude.{◌&&◌, nat_lt}
use Rattle.std.specs.List.{All, list_any, AllByRecursion as Each}
use Rattle.std.proofs.lemmas.Bool.Decides.{nat_tests}
use Rattle.std.proofs.lemmas.List.{append_assoc, get_or_default}
use Rattle.std.proofs.lemmas.List.Elements.{All-append, recursion_from_All, All-from_recursion}
use Rattle.ssim_values.specs.Flight.{FlightNumber, IsFlight}
use Rattle.ssim_periods.specs.Days.{each_day}
use Rattle.ssim_records.specs.Device.{Writer}
use Rattle.ssim_records.specs.declared.record.Record.{Record}
use Rattle.ssim_base.specs.Timetable.{Days, same_flight}
use Rattle.ssim_base.specs.Export as refusal
use Rattle.ssim_base.specs.Export.{ExportRefusal, Frame, flight_at, Piece, pieces, pieces_records}
use Rattle.ssim_base.specs.Export.{flight_records, flights_records, export_refusal, export_of}
use Rattle.ssim_base.specs.Export.{chapter7, chapter7_records, sections, export_unless_refused}
use Rattle.ssim_base.specs.Export.{result_map, export_bytes}
use Rattle.ssim_schedule.specs.internal.Blocks.{all_entries}
use Rattle.ssim_schedule.specs.FlightPieces.{Divided}
use Rattle.ssim_schedule.specs.internal.Plan.{IsRefusedAs, pieces_count, plan_bytes, plan_count, plan_of, plan_records, plan_refusal}
use Rattle.ssim_schedule.specs.clauses.ExportResult.{Refuses}
use Rattle.ssim_schedule.specs.internal.Table.{AreRising, Table, key_at, no_entry, table_days}
use Rattle.ssim_base.specs.ReadBack as law
use Rattle.ssim_base.specs.ReadBack.{place_of}
use Rattle.ssim_base.proofs.ExportLaws.{NoOther}
use Rattle.ssim_schedule.specs.declared.export.ExportFault.{ExportFault}
use Rattle.ssim_schedule.specs.declared.export.ExportFault.TheVariants.{Variations, Records, WriteFault, Memory}
use Rattle.ssim_schedule.specs.declared.timetable.flight_table.FlightPeriods.{FlightPeriods}
use Rattle.ssim_base.proofs.Calendars.{length-each_day, at-each_day}
use Rattle.ssim_base.proofs.Flown.{flown_suffice, unflown}
use Rattle.ssim_base.proofs.Places.{flight-place, same-self}
use Rattle.ssim_schedule.proofs.Puts.{pieces-counted}
use Rattle.ssim_schedule.proofs.TableLemmas.{found_at}

-- ---- flight by flight

abbrev planned : FlightPeriods → Divided
planned f = (f.flight, pieces f.periods.days)

plan-append : (xs ys : Table) → plan_of (xs ++ ys) ≡ plan_of xs ++ plan_of ys
plan-append [] ys = refl
plan-append (x ∷ xs) ys = ap (λ (ps : List Divided). planned x ∷ ps) (plan-append xs ys)

-- a flight is planned, of those that are left
pub planned_left : (left rest : Table) (f : FlightPeriods) (plan new all : List Divided) (ps : List Piece) → left ≡ f ∷ rest → ps ≡ pieces f.periods.days → new ≡ plan ++ (f.flight, ps) ∷ []
    → plan ++ plan_of left ≡ all → new ++ plan_of rest ≡ all
planned_left left rest f plan new all ps is its push before =
    ap (λ (xs : List Divided). xs ++ plan_of rest) (push ∙ ap (λ (xs : List Piece). plan ++ (f.flight, xs) ∷ []) its) ∙ append_assoc plan (planned f ∷ []) (plan_of rest)
    ∙ ap (λ (xs : Table). plan ++ plan_of xs) (sym is) ∙ before

-- a block is planned, of those that are left
pub planned_block : (left rest : List Table) (b : Table) (plan new all : List Divided)
    → left ≡ b ∷ rest → new ≡ plan ++ plan_of b → plan ++ plan_of (all_entries left) ≡ all
    → new ++ plan_of (all_entries rest) ≡ all
planned_block left rest b plan new all is added before =
    ap (λ (xs : List Divided). xs ++ plan_of (all_entries rest)) added ∙ append_assoc plan (plan_of b) (plan_of (all_entries rest))
    ∙ ap (λ (xs : List Divided). plan ++ xs) (sym (plan-append b (all_entries rest)) ∙ ap (λ (ts : List Table). plan_of (all_entries ts)) (sym is)) ∙ before

-- the flights of the current block exist, and those of the blocks after it
pub block_exists : (G : Type 0) (left rest : List Table) (b : Table) → left ≡ b ∷ rest
    → All (λ f. IsFlight f.flight) b → (All (λ f. IsFlight f.flight) (all_entries left) → G)
    → All (λ f. IsFlight f.flight) (all_entries rest) → G
block_exists G left rest b is here all others =
    all (subst (λ (ts : List Table). All (λ f. IsFlight f.flight) (all_entries ts)) (sym is) (All-append (λ (f : FlightPeriods). IsFlight f.flight) b (all_entries rest) here others))

abbrev pub Exists : FlightPeriods → Type 0
Exists f = IsFlight f.flight

-- ---- what can be written

no_piece : (ps : List Piece) → length ps ≡ 0 → pieces_count ps ≡ 0
no_piece [] h = refl
no_piece (p ∷ ps) h = absurd (omega arith)

room : (count : ℕ) (ps : List Piece) → count < 999999 → (nat_lt 0 (length ps) && nat_lt 999999 ((count + pieces_count ps) + 1)) ≡ false → count + pieces_count ps < 999999
room count ps less h = by (nat_lt 0 (length ps)) (nat_lt 999999 ((count + pieces_count ps) + 1)) refl refl h
  where
    by : (b d : Bool) → nat_lt 0 (length ps) ≡ b → nat_lt 999999 ((count + pieces_count ps) + 1) ≡ d → (b && d) ≡ false → count + pieces_count ps < 999999
    by true true e f k = absurd cc
    by true false e f k = grind (arith, nat_tests)
    by false d e f k =
        let none : length ps ≡ 0 = grind (arith, nat_tests) in
        omega (arith, no_piece ps none)

abbrev IsShort : Divided → Type 0
IsShort p = length p.1 ≤ 99

fits_each : (count : ℕ) (plan : List Divided) → count < 999999 → plan_refusal count plan ≡ None → Each IsShort plan × (count + plan_count plan < 999999)
fits_each count [] less h = (tt, omega arith)
fits_each count (p ∷ plan) less h = by (nat_lt 99 (length p.1)) (nat_lt 0 (length p.1) && nat_lt 999999 ((count + pieces_count p.1) + 1)) refl refl (fits_each (count + pieces_count p.1) plan) h
  where
    by : (b d : Bool) → nat_lt 99 (length p.1) ≡ b → (nat_lt 0 (length p.1) && nat_lt 999999 ((count + pieces_count p.1) + 1)) ≡ d
        → (count + pieces_count p.1 < 999999 → plan_refusal (count + pieces_count p.1) plan ≡ None → Each IsShort plan × ((count + pieces_count p.1) + plan_count plan < 999999))
        → (if b then Some (refusal.Variations p.0) else (if d then Some refusal.Records else plan_refusal (count + pieces_count p.1) plan)) ≡ None
        → Each IsShort (p ∷ plan) × (count + plan_count (p ∷ plan) < 999999)
    by true d e f more k = absurd cc
    by false true e f more k = absurd cc
    by false false e f more k =
        let short : length p.1 ≤ 99 = grind (arith, nat_tests) in
        let later = more (room count p.1 less f) k in
        ((short, later.0), omega (arith, later.1))

pub fits : (plan : List Divided) → plan_refusal 2 plan ≡ None → All IsShort plan × (2 + plan_count plan < 999999)
fits plan h = let each = fits_each 2 plan (omega arith) h in (All-from_recursion IsShort plan each.0, each.1)

-- ---- the definition at the flights of a schedule

abbrev pub flights_in : Table → List FlightNumber
flights_in table = map (λ f. f.flight) table

abbrev pub HasDays : (FlightNumber → Days) → FlightPeriods → Type 0
HasDays days f = days f.flight ≡ f.periods.days

pub its_days : (table : Table) → AreRising table → Each (HasDays (table_days table)) table
its_days table rising = recursion_from_All (HasDays (table_days table)) table (λ k d less.
    let f = get_or table k d in
    let same : get_or table k d ≡ get_or table k no_entry = get_or_default table k d no_entry less in
    found_at (λ (x : FlightPeriods). x.periods.days) (each_day (λ _. [])) table rising f.flight k (record { in_range = less; its = ap (λ (x : FlightPeriods). place_of x.flight) (sym same) })
    ∙ ap (λ (x : FlightPeriods). x.periods.days) (sym same))

abbrev after_flight : ℕ → ℕ → FlightNumber → ℕ → Option ExportRefusal → Option ExportRefusal
after_flight count many flight after later =
    if nat_lt 99 many then Some (refusal.Variations flight) else (if nat_lt 0 many && nat_lt 999999 (after + 1) then Some refusal.Records else later)

refusal-same : (a : List ℕ) (days : FlightNumber → Days) (count : ℕ) (table : Table) → Each (HasDays days) table → export_refusal a days count (flights_in table) ≡ plan_refusal count (plan_of table)
refusal-same a days count [] each = refl
refusal-same a days count (f ∷ table) each =
    let ps = pieces f.periods.days in
    ap (λ (ds : Days). after_flight count (length (pieces ds)) f.flight (count + length (pieces_records a f.flight 1 (pieces ds))) (export_refusal a days (count + length (pieces_records a f.flight 1 (pieces ds))) (flights_in table))) each.0
    ∙ ap (λ (n : ℕ). after_flight count (length ps) f.flight (count + n) (export_refusal a days (count + n) (flights_in table))) (pieces-counted a f.flight 1 ps)
    ∙ ap (λ (o : Option ExportRefusal). after_flight count (length ps) f.flight (count + pieces_count ps) o) (refusal-same a days (count + pieces_count ps) table each.1)

records-same : (a : List ℕ) (days : FlightNumber → Days) (table : Table) → Each (HasDays days) table → flights_records a days (flights_in table) ≡ plan_records a (plan_of table)
records-same a days [] each = refl
records-same a days (f ∷ table) each =
    ap (λ (ds : Days). pieces_records a f.flight 1 (pieces ds) ++ flights_records a days (flights_in table)) each.0
    ∙ ap (λ (rs : List Record). pieces_records a f.flight 1 (pieces f.periods.days) ++ rs) (records-same a days table each.1)

rising_tail : (f : FlightPeriods) (table : Table) → AreRising (f ∷ table) → AreRising table
rising_tail f table rising i j less within = rising (suc i) (suc j) (omega arith) (omega arith)

pub rises : (low : ℕ) (table : Table) → AreRising table → Each Exists table → (0 < length table → low ≤ key_at table 0) → law.Rise low (flights_in table)
rises low [] rising each from = tt
rises low (f ∷ table) rising each from =
    (from (omega arith), each.0, rises (place_of f.flight + 1) table (rising_tail f table rising) each.1 (λ some. let next = rising 0 1 (omega arith) (omega arith) in omega (arith, next)))

-- a flight without an entry has none on any day
absent : (table : Table) (g : FlightNumber) → IsFlight g → Each Exists table → list_any (same_flight g) (flights_in table) ≡ false → table_days table g ≡ each_day (λ _. [])
absent [] g is each none = refl
absent (f ∷ table) g is each none = by (same_flight g f.flight) (nat_eq (place_of f.flight) (place_of g)) refl refl (absent table g is each.1) none
  where
    by : (b d : Bool) → same_flight g f.flight ≡ b → nat_eq (place_of f.flight) (place_of g) ≡ d
        → (list_any (same_flight g) (flights_in table) ≡ false → table_days table g ≡ each_day (λ _. [])) → (b || list_any (same_flight g) (flights_in table)) ≡ false
        → (if d then f.periods.days else table_days table g) ≡ each_day (λ _. [])
    by true d e k more h = absurd cc
    by false false e k more h = more h
    by false true e k more h =
        let places : place_of f.flight ≡ place_of g = grind (arith, nat_tests) in
        let one : g ≡ f.flight = sym (flight-place g is) ∙ ap flight_at (sym places) ∙ flight-place f.flight each.0 in
        let same : same_flight g f.flight ≡ true = ap (λ (x : FlightNumber). same_flight g x) (sym one) ∙ same-self g in
        absurd cc

pub no_other : (table : Table) → Each Exists table → NoOther (table_days table) (flights_in table)
no_other table each g is out =
    ap pieces (absent table g is each out) ∙ unflown (each_day (λ n. [])) (λ n l. let len = length-each_day (λ n. []) in at-each_day (λ n. []) n (omega arith))

abbrev Planned_export : Frame → Table → Result (List ℕ) ExportRefusal
Planned_export frame table = result_map export_bytes (export_unless_refused (plan_refusal 2 (plan_of table)) (sections frame (plan_records frame.carrier.airline (plan_of table))))

exported : (frame : Frame) (table : Table) → AreRising table → All Exists table → chapter7 frame (table_days table) ≡ Planned_export frame table
exported frame table rising exist =
    let a = frame.carrier.airline in
    let each = recursion_from_All Exists table exist in
    let days = its_days table rising in
    ap (λ r. result_map export_bytes r) (flown_suffice frame (table_days table) (flights_in table) (rises 0 table rising each (λ some. omega arith)) (no_other table each))
    ∙ ap (λ o. result_map export_bytes (export_unless_refused o (sections frame (flights_records a (table_days table) (flights_in table))))) (refusal-same a (table_days table) 2 table days)
    ∙ ap (λ rs. result_map export_bytes (export_unless_refused (plan_refusal 2 (plan_of table)) (sections frame rs))) (records-same a (table_days table) table days)

-- the export, if none of the flights is refused
pub export_is : (frame : Frame) (table : Table) (plan : List Divided) → AreRising table → All Exists table → plan ≡ plan_of table → plan_refusal 2 plan ≡ None
    → chapter7 frame (table_days table) ≡ Ok (plan_bytes frame plan)
unfolding plan_bytes
export_is frame table plan rising exist is none =
    exported frame table rising exist
    ∙ ap (λ (ps : List Divided). result_map export_bytes (export_unless_refused (plan_refusal 2 ps) (sections frame (plan_records frame.carrier.airline ps)))) (sym is)
    ∙ ap (λ o. result_map export_bytes (export_unless_refused o (sections frame (plan_records frame.carrier.airline plan)))) none

-- the refusal of the export, if a flight is refused
pub refusal_is : (frame : Frame) (table : Table) (plan : List Divided) (r : ExportRefusal) → AreRising table → All Exists table → plan ≡ plan_of table → plan_refusal 2 plan ≡ Some r
    → chapter7 frame (table_days table) ≡ Err r
refusal_is frame table plan r rising exist is some =
    exported frame table rising exist
    ∙ ap (λ (ps : List Divided). result_map export_bytes (export_unless_refused (plan_refusal 2 ps) (sections frame (plan_records frame.carrier.airline ps)))) (sym is)
    ∙ ap (λ o. result_map export_bytes (export_unless_refused o (sections frame (plan_records frame.carrier.airline plan)))) some

-- what was measured is what is returned
pub refuses : {W : Type 0} (state : W → Writer) (export : Result (List ℕ) ExportRefusal) (out : W)
    (answer : Option ExportRefusal) (fault : ExportFault) → IsRefusedAs answer fault
    → ((r : ExportRefusal) → answer ≡ Some r → export ≡ Err r) → Refuses state export out out fault
refuses state export out answer (Variations flight) h is = (is (refusal.Variations flight) h, refl)
refuses state export out answer Records h is = (is refusal.Records h, refl)
refuses state export out answer WriteFault h is = absurd h
refuses state export out answer Memory h is = absurd h

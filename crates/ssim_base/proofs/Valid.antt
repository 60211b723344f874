-- Each record of an export has a spelling: its flight exists, its variation, sequence and serial
-- fit their columns since the export was not refused, its period is one of the calendar by the law
-- of pieces, and its columns and tails are those of the timetable.
use Rattle.std.proofs.Common.{◌≡◌, ℕ, zero, suc, ◌+◌, ◌<◌, ◌≤◌, Bool, true, false, ◌&&◌, nat_lt, if◌then◌else◌, IsTrue, List, [], ◌∷◌, ◌++◌, map, length, length-append, ◌-◌, slice_index, slice_index_or, replicate, Option, Some, None, Ok, ◌⊎◌, inl, inr, refl, sym, ap, subst, ◌∙◌, arith}
use Rattle.std.proofs.lemmas.Bool.Decides.{nat_tests}
use Rattle.std.proofs.lemmas.List.Elements.{recursion_from_All}
use Rattle.std.specs.List.{flat_map, All, AllByRecursion as Each}
use Rattle.ssim_values.specs.Airline.{is_airline}
use Rattle.ssim_values.specs.Calendar.{day_limit}
use Rattle.ssim_values.specs.DayMask.{digits_from}
use Rattle.ssim_values.specs.Flight.{FlightNumber, IsFlight}
use Rattle.ssim_values.specs.Period.{DayRange}
use Rattle.ssim_values.specs.clauses.Period.{IsPeriod}
use Rattle.ssim_periods.specs.Calendar.{day_count, holds}
use Rattle.ssim_values.specs.Calendar.{slot}
use Rattle.ssim_periods.specs.Cover.{first_where, break_after, period_at, cover_from}
use Rattle.ssim_periods.specs.Pieces.{held_on, alone, has_value, values_of, pieces_with}
use Rattle.ssim_periods.proofs.PieceLaw.{Every, Every-append, Every-sort}
use Rattle.ssim_records.specs.Columns.{is_carried}
use Rattle.ssim_records.specs.Leg.{Name, IsName, AreLegColumns}
use Rattle.ssim_records.specs.Record.{IsRecord, AreItems}
use Rattle.ssim_records.specs.Segment.{IsTail}
use Rattle.ssim_records.specs.declared.record.Record.{Record}
use Rattle.ssim_records.specs.declared.record.Record.TheVariants.{Header, Carrier, Leg, Segment, Trailer}
use Rattle.ssim_base.specs.Timetable.{LegValue, Legs, Days, on_day, Above}
use Rattle.ssim_base.specs.Export.{Frame, Piece, same_itinerary, pieces, tail_record, leg_records}
use Rattle.ssim_base.specs.Export.{piece_records, pieces_records, flight_records, flights_records}
use Rattle.ssim_base.specs.Export.{flight_count, flight_at, all_flights, fill_count, with_serial}
use Rattle.ssim_base.specs.Export.{numbered, sections, ExportRefusal, Variations, Records}
use Rattle.ssim_base.specs.Export.{export_refusal, export_unless_refused, chapter7_records}
use Rattle.ssim_base.specs.ReadBack.{IsTimetable, IsWritable, AreWritable, IsWritableFrame}
use Rattle.ssim_base.specs.clauses.ReadBack.{section_items, items_of}
use Rattle.ssim_base.proofs.Each.{each-append, each-both}
use Rattle.ssim_base.proofs.Places.{flight-is}
use Rattle.ssim_base.proofs.Pieces.{itinerary_pieces}
use Rattle.ssim_base.proofs.Parts.{own_name, flights_from}
use Rattle.ssim_base.proofs.Whole.{exported}

-- ---- the periods of pieces

-- each mask has seven weekdays
abbrev HasWeek : {V : Type 0} → DayRange × V → Type 0
HasWeek piece = length piece.0.days ≡ 7

week-cover : {V : Type 0} (v : V) (count : ℕ) (is_in : ℕ → Bool) (from end : ℕ) → Every HasWeek (map (λ period. (period, v)) (cover_from count is_in from end))
week-cover v zero is_in from end = tt
week-cover {V} v (suc count) is_in from end =
    elim (nat_lt a end) as (λ t. Every (HasWeek {V = V}) (map (λ period. (period, v)) (if t then period_at is_in a after ∷ cover_from count is_in after end else []))) [
      | true ↦ (refl, week-cover v count is_in after end)
      | false ↦ tt
    ]
  where
    a : ℕ
    a = first_where is_in from (end - from)

    after : ℕ
    after = break_after is_in a end

week-values : (days : Days) (values : List Legs) → Every HasWeek (flat_map (pieces_with same_itinerary days) values)
week-values days [] = tt
week-values days (v ∷ values) =
    Every-append HasWeek (pieces_with same_itinerary days v) (flat_map (pieces_with same_itinerary days) values)
    (week-cover v (length days) (has_value same_itinerary days v) 0 (length days)) (week-values days values)

every-each : {X : Type 0} (P : X → Type 0) (xs : List X) → Every P xs → Each P xs
every-each P [] h = tt
every-each P (x ∷ xs) h = (h.0, every-each P xs h.1)

pieces-week : (days : Days) → Each HasWeek (pieces days)
pieces-week days =
    every-each HasWeek (pieces days)
    (Every-sort HasWeek (flat_map (pieces_with same_itinerary days) (values_of same_itinerary [] days)) (week-values days (values_of same_itinerary [] days)))

-- a weekday that is set is written
some-digit : (d : ℕ) (days : List Bool) (k : ℕ) → slice_index_or days k false ≡ true → 0 < length (digits_from d days)
some-digit d [] k h = absurd cc
some-digit d (true ∷ days) k h = omega arith
some-digit d (false ∷ days) zero h = absurd cc
some-digit d (false ∷ days) (suc k) h = some-digit (d + 1) days k h

and-right : (a b : Bool) → (a && b) ≡ true → b ≡ true
and-right true b h = h
and-right false b h = absurd cc

-- a piece's period is one of the calendar, and its legs are those of a day
abbrev IsPiece : Days → Piece → Type 0
IsPiece days piece = IsPeriod piece.0 × ((n : ℕ) × (n < day_count) × (piece.1 ≡ on_day days n))

abbrev Begins : ℕ → Piece → Type 0
Begins end piece = (piece.0.first ≤ piece.0.last) × (piece.0.last < end) × (holds piece.0 piece.0.first ≡ true)

-- a day's itinerary is in at most one of the pieces that are left
abbrev Left : Days → List Piece → Type 0
Left days ps = (n : ℕ) → (held_on ps n ≡ []) ⊎ (held_on ps n ≡ alone same_itinerary [] (on_day days n))

period-is : (p : Piece) → Begins day_count p → HasWeek p → IsPeriod p.0
unfolding day_count
period-is p begins week = record {
  ordered = begins.0;
  in_calendar = begins.1;
  mask = record {
    seven = week;
    some = some-digit 49 p.0.days (slot p.0.first) (and-right _ (slice_index_or p.0.days (slot p.0.first) false) begins.2);
  };
}

alone-one : (v : Legs) (rest : List Legs) (w : Legs) → v ∷ rest ≡ alone same_itinerary [] w → (v ≡ w) × (rest ≡ [])
alone-one v rest [] h = absurd cc
alone-one v rest (l ∷ legs) h = (cc, cc)

are-pieces : (days : Days) (ps : List Piece) → Left days ps → Each (Begins day_count) ps → Each HasWeek ps → Each (IsPiece days) ps
are-pieces days [] left begins weeks = tt
are-pieces days (p ∷ ps) left begins weeks = (
  (period-is p begins.0 weeks.0, (p.0.first, first_day, (at p.0.first (holds p.0 p.0.first) begins.0.2 refl (left p.0.first)).0)),
  are-pieces days ps (λ n. rest n (holds p.0 n) refl (left n)) begins.1 weeks.1,
)
  where
    first_day : p.0.first < day_count
    first_day = let from = begins.0.0 in let to = begins.0.1 in omega arith

    at : (n : ℕ) (b : Bool) → holds p.0 n ≡ true → holds p.0 n ≡ b → (held_on (p ∷ ps) n ≡ []) ⊎ (held_on (p ∷ ps) n ≡ alone same_itinerary [] (on_day days n))
        → (p.1 ≡ on_day days n) × (held_on ps n ≡ [])
    at n b on is (inl none) = let held : p.1 ∷ held_on ps n ≡ [] = sym (ap (λ t. if t then p.1 ∷ held_on ps n else held_on ps n) on) ∙ none in absurd cc
    at n b on is (inr one) = alone-one p.1 (held_on ps n) (on_day days n) (sym (ap (λ t. if t then p.1 ∷ held_on ps n else held_on ps n) on) ∙ one)

    rest : (n : ℕ) (b : Bool) → holds p.0 n ≡ b → (held_on (p ∷ ps) n ≡ []) ⊎ (held_on (p ∷ ps) n ≡ alone same_itinerary [] (on_day days n))
        → (held_on ps n ≡ []) ⊎ (held_on ps n ≡ alone same_itinerary [] (on_day days n))
    rest n true is h = inl (at n true is is h).1
    rest n false is (inl none) = inl (sym (ap (λ t. if t then p.1 ∷ held_on ps n else held_on ps n) is) ∙ none)
    rest n false is (inr one) = inr (sym (ap (λ t. if t then p.1 ∷ held_on ps n else held_on ps n) is) ∙ one)

pieces-are : (days : Days) → length days ≡ day_count → Each (IsPiece days) (pieces days)
pieces-are days len =
    let law = itinerary_pieces days in
    are-pieces days (pieces days) (λ n. inr (law.on_each_day n))
    (recursion_from_All (Begins day_count) (pieces days) (subst (λ end. All (Begins end) (pieces days)) len law.each_begins))
    (pieces-week days)

-- ---- the records of a leg

abbrev fault_unless : Bool → Option ℕ
fault_unless ok = if ok then None else Some 0

first-carried : (d : List ℕ) → AreLegColumns d → IsTrue (is_carried (slice_index d 0))
first-carried [] h = let len : length {A = ℕ} [] ≡ 158 = h.len in absurd (omega arith)
first-carried (x ∷ d) h = by (is_carried x) refl h.valid.0
  where
    by : (b : Bool) → is_carried x ≡ b → fault_unless b ≡ None → is_carried x ≡ true
    by true e none = e
    by false e none = absurd cc

tails-valid : (name : Name) (service : ℕ) (tails : List (List ℕ)) → IsName name → IsTrue (is_carried service) → Each IsTail tails → Each IsRecord (map (tail_record name service) tails)
tails-valid name service [] is carried h = tt
tails-valid name service (t ∷ tails) is carried h =
    (record { name = is; service = carried; tail = h.0; overflow = refl; serial = omega arith }, tails-valid name service tails is carried h.1)

leg-valid : (a : List ℕ) (f : FlightNumber) (v : ℕ) (period : DayRange) (l : LegValue) → IsTrue (is_airline a) → IsFlight f → v < 100 → IsPeriod period → 0 < l.sequence → l.sequence < 100 → IsWritable l
    → Each IsRecord (leg_records a f v period l)
leg-valid a f v period l airline flight variation is from to writable =
    let name : IsName (own_name a f v l) = record { airline = airline; flight = flight; variation = variation; sequence_from = from; sequence_to = to } in
    let ordered : period.first ≤ period.last = is.ordered in
    let within : period.last < day_limit = is.in_calendar in (
      record { name = name; first = omega arith; last = (ordered, within); days = is.mask; rate = refl; columns = writable.columns; overflow = refl; serial = omega arith },
      tails-valid (own_name a f v l) (slice_index l.columns 0) l.tails name (first-carried l.columns writable.columns) (recursion_from_All IsTail l.tails writable.tails),
    )

legs-valid : (a : List ℕ) (f : FlightNumber) (v : ℕ) (period : DayRange) (legs : Legs) (k : ℕ) → IsTrue (is_airline a) → IsFlight f → v < 100 → IsPeriod period → Above k legs → Each IsWritable legs
    → Each IsRecord (flat_map (leg_records a f v period) legs)
legs-valid a f v period [] k airline flight variation is above writable = tt
legs-valid a f v period (l ∷ legs) k airline flight variation is above writable =
    let over : k < l.sequence = above.0 in
    each-append IsRecord (leg_records a f v period l) (flat_map (leg_records a f v period) legs)
    (leg-valid a f v period l airline flight variation is (omega arith) above.1 writable.0)
    (legs-valid a f v period legs l.sequence airline flight variation is above.2 writable.1)

-- ---- the records of flights

pieces-valid : (a : List ℕ) (f : FlightNumber) (days : Days) (v : ℕ) (ps : List Piece) → IsTrue (is_airline a) → IsFlight f → v + length ps ≤ 100
    → ((n : ℕ) → n < day_count → Above 0 (on_day days n)) → ((n : ℕ) → n < day_count → Each IsWritable (on_day days n)) → Each (IsPiece days) ps
    → Each IsRecord (pieces_records a f v ps)
pieces-valid a f days v [] airline flight few rising writable are = tt
pieces-valid a f days v (p ∷ ps) airline flight few rising writable are =
    let here = are.0.1 in
    let same : on_day days here.0 ≡ p.1 = sym here.2 in
    each-append IsRecord (piece_records a f v p) (pieces_records a f (v + 1) ps)
    (legs-valid a f v p.0 p.1 0 airline flight (omega arith) are.0.0 (subst (Above 0) same (rising here.0 here.1)) (subst (Each IsWritable) same (writable here.0 here.1)))
    (pieces-valid a f days (v + 1) ps airline flight (omega arith) rising writable are.1)

-- at most 99 pieces, for a flight that exists
abbrev IsExported : (FlightNumber → Days) → FlightNumber → Type 0
IsExported days f = IsFlight f × (length (pieces (days f)) ≤ 99)

flights-valid : (a : List ℕ) (days : FlightNumber → Days) (fs : List FlightNumber) → IsTrue (is_airline a) → IsTimetable days → AreWritable days → Each (IsExported days) fs
    → Each IsRecord (flights_records a days fs)
flights-valid a days [] airline is writable each = tt
flights-valid a days (f ∷ fs) airline is writable each =
    let flight = each.0.0 in
    let few : length (pieces (days f)) ≤ 99 = each.0.1 in
    each-append IsRecord (flight_records a days f) (flights_records a days fs)
    (pieces-valid a f (days f) 1 (pieces (days f)) airline flight (omega arith) (λ n within. is.rising f n flight within)
    (λ n within. recursion_from_All IsWritable (on_day (days f) n) (writable f n flight within))
    (pieces-are (days f) (is.each_day f flight)))
    (flights-valid a days fs airline is writable each.1)

-- ---- what the missing refusal says

room-left : (count m k : ℕ) → (nat_lt 0 (suc k) && nat_lt 999999 ((count + m) + 1)) ≡ false → count + m < 999999
room-left count m k h = grind (arith, nat_tests)

fits : (a : List ℕ) (days : FlightNumber → Days) (count : ℕ) (fs : List FlightNumber) → export_refusal a days count fs ≡ None → count < 999999
    → Each (λ f. length (pieces (days f)) ≤ 99) fs × (count + length (flights_records a days fs) < 999999)
fits a days count [] none room = (tt, omega arith)
fits a days count (f ∷ fs) none room = by (nat_lt 99 (length (pieces (days f)))) (nat_lt 0 (length (pieces (days f))) && nat_lt 999999 (after + 1)) refl refl none (fits a days after fs)
  where
    after : ℕ
    after = count + length (flight_records a days f)

    left : (ps : List Piece) → (nat_lt 0 (length ps) && nat_lt 999999 ((count + length (pieces_records a f 1 ps)) + 1)) ≡ false → count + length (pieces_records a f 1 ps) < 999999
    left [] q = omega arith
    left (p ∷ ps) q = room-left count (length (pieces_records a f 1 (p ∷ ps))) (length ps) q

    by : (x y : Bool) → nat_lt 99 (length (pieces (days f))) ≡ x → (nat_lt 0 (length (pieces (days f))) && nat_lt 999999 (after + 1)) ≡ y
        → (if x then Some (Variations f) else (if y then Some Records else export_refusal a days after fs)) ≡ None
        → (export_refusal a days after fs ≡ None → after < 999999 → Each (λ g. length (pieces (days g)) ≤ 99) fs × (after + length (flights_records a days fs) < 999999))
        → Each (λ g. length (pieces (days g)) ≤ 99) (f ∷ fs) × (count + length (flights_records a days (f ∷ fs)) < 999999)
    by true y p q none rest = absurd cc
    by false true p q none rest = absurd cc
    by false false p q none rest =
        let few : length (pieces (days f)) ≤ 99 = grind (arith, nat_tests) in
        let later = rest none (left (pieces (days f)) q) in
        let total : after + length (flights_records a days fs) < 999999 = later.1 in
        let joined : length (flight_records a days f ++ flights_records a days fs) ≡ length (flight_records a days f) + length (flights_records a days fs) =
        length-append (flight_records a days f) (flights_records a days fs) in
        ((few, later.0), omega arith)

-- ---- the whole

valid-serial : (n : ℕ) (r : Record) → n < 1000000 → IsRecord r → IsRecord (with_serial n r)
valid-serial n (Header r) lt h = record { len = h.len; carried = h.carried; serial = lt }
valid-serial n (Carrier r) lt h = record {
  airline = h.airline;
  season_len = h.season_len;
  season = h.season;
  first = h.first;
  last = h.last;
  created = h.created;
  details_len = h.details_len;
  details = h.details;
  serial = lt;
}
valid-serial n (Leg r) lt h = record {
  name = h.name;
  first = h.first;
  last = h.last;
  days = h.days;
  rate = h.rate;
  columns = h.columns;
  overflow = h.overflow;
  serial = lt;
}
valid-serial n (Segment r) lt h = record { name = h.name; service = h.service; tail = h.tail; overflow = h.overflow; serial = lt }
valid-serial n (Trailer r) lt h = record { spare = h.spare; airline = h.airline; release_len = h.release_len; release = h.release; check = h.check; serial = lt }

valid-numbered : (n : ℕ) (rs : List Record) → n + length rs ≤ 1000000 → Each IsRecord rs → Each IsRecord (numbered n rs)
valid-numbered n [] few h = tt
valid-numbered n (r ∷ rs) few h = (valid-serial n r (omega arith) h.0, valid-numbered (n + 1) rs (omega arith) h.1)

items-append : (xs ys : List (Option Record)) → AreItems xs → AreItems ys → AreItems (xs ++ ys)
items-append [] ys a b = b
items-append (x ∷ xs) ys a b = (a.0, items-append xs ys a.1 b)

pub items-records : (rs : List Record) → Each IsRecord rs → AreItems (map (λ r. Some r) rs)
items-records [] h = tt
items-records (r ∷ rs) h = (h.0, items-records rs h.1)

items-fill : (n : ℕ) → AreItems (replicate n None)
items-fill zero = tt
items-fill (suc n) = (tt, items-fill n)

items-valid : (ss : List (List Record)) → Each (λ s. Each IsRecord s) ss → AreItems (items_of ss)
items-valid [] h = tt
items-valid (s ∷ ss) h =
    items-append (section_items s) (items_of ss)
    (items-append (map (λ r. Some r) s) (replicate (fill_count (length s)) None) (items-records s h.0) (items-fill (fill_count (length s))))
    (items-valid ss h.1)

each-place : (P : FlightNumber → Type 0) (low k : ℕ) → ((j : ℕ) → j < low + k → P (flight_at j)) → Each P (flights_from low k)
each-place P low zero h = tt
each-place P low (suc k) h = (h low (omega arith), each-place P (low + 1) k (λ j l. h j (omega arith)))

no_refusal : (o : Option ExportRefusal) (s t : List (List Record))
    → export_unless_refused o s ≡ Ok t → o ≡ None
no_refusal None s t h = refl
no_refusal (Some refusal) s t h = absurd cc

-- each record of an export has a spelling
pub export-valid : (frame : Frame) (days : FlightNumber → Days) (s : List (List Record)) → IsWritableFrame frame → IsTimetable days → AreWritable days
    → chapter7_records frame days ≡ Ok s → AreItems (items_of s)
export-valid frame days s frame_is is writable h =
    let a = frame.carrier.airline in
    let body = flights_records a days all_flights in
    let fit = fits a days 2 all_flights (no_refusal (export_refusal a days 2 all_flights) (sections frame body) s h) (omega arith) in
    let few : 2 + length body < 999999 = fit.1 in
    let exist : Each IsFlight all_flights = each-place IsFlight 0 flight_count (λ j l. flight-is j (omega arith)) in
    let valid = flights-valid a days all_flights frame_is.carrier.airline is writable (each-both IsFlight (λ f. length (pieces (days f)) ≤ 99) all_flights exist fit.0) in
    let trailer = frame_is.trailer in
    subst (λ ss. AreItems (items_of ss)) (exported (export_refusal a days 2 all_flights) (sections frame body) s h)
    (items-valid (sections frame body) (
      (valid-serial 1 (Header frame.header) (omega arith) frame_is.header, tt),
      (
        (valid-serial 2 (Carrier frame.carrier) (omega arith) frame_is.carrier, tt),
        (
          valid-numbered 3 body (omega arith) valid,
          (
            (
              record { spare = trailer.spare; airline = trailer.airline; release_len = trailer.release_len; release = trailer.release; check = omega arith; serial = omega arith },
              tt,
            ),
            tt,
          ),
        ),
      ),
    ))

-- Equipment and times of new legs: they are the new legs of the same lines with this equipment, or
-- with this leg line in place of the first line between its stations. The stations stay, so that
-- each segment line has the same pair of points.
use Rattle.std.proofs.Common.{◌≡◌, ◌+◌, ◌≤◌, ◌&&◌, ◌∙◌, ℕ, suc, Bool, true, false, not, cond}
use Rattle.std.proofs.Common.{nat_lt}
use Rattle.std.proofs.Common.{if◌then◌else◌, List, [], ◌∷◌, map, length, bytes_eq, refl, sym, ap}
use Rattle.std.proofs.Common.{Option, Some, None, option_map, is_some, IsTrue, position, subst}
use Rattle.std.specs.List.{AllByRecursion, prefix_len}
use Rattle.std.proofs.lemmas.Bool.{and_parts}
use Rattle.std.proofs.lemmas.Slice.Eq.{bytes_eq-Decides}
use Rattle.ssim_values.specs.Station.{is_station}
use Rattle.ssim_values.specs.Variation.{Offset}
use Rattle.ssim_text.specs.Grammar.{IsNewLegs, flies, leg_pair, pair_at}
use Rattle.ssim_text.specs.Values.{EquipmentValue}
use Rattle.ssim_text.specs.declared.action.NewLegs.{NewLegs}
use Rattle.ssim_text.specs.declared.leg.LegLine.{LegLine}
use Rattle.ssim_text.specs.declared.segment.SegmentLine.{SegmentLine}
use Rattle.ssim_base.specs.Timetable.{LegValue, Legs}
use Rattle.ssim_schedule.specs.Effect.{Variations, equipped, fits, joined, leg_at, legs_from}
use Rattle.ssim_schedule.specs.Effect.{retimed, tail_at, tails_for, with_line, with_tail}
use Rattle.ssim_records.specs.LegParts.{new_leg}
use Rattle.ssim_schedule.specs.MessageColumns.{equipment_of, new_columns, stations_of, times_of}
use Rattle.ssim_schedule.specs.MessageColumns.{with_times}
use Rattle.ssim_outbox.proofs.Columns.{AreStations, new_arrival, new_departure, new_equipped}
use Rattle.ssim_outbox.proofs.Columns.{new_timed}

-- the stations of a leg line are stations
abbrev pub HasStations : LegLine → Type 0
HasStations line =
    IsTrue (is_station line.departure.station) × IsTrue (is_station line.arrival.station)

stations_are : (here there : Offset) (line : LegLine) → HasStations line
    → AreStations (stations_of here there line)
stations_are here there line h = record { departure = h.0; arrival = h.1 }

-- ---- equipment

-- the new legs with other equipment
abbrev pub equipped_new : EquipmentValue → NewLegs → NewLegs
equipped_new e new = record new { equipment = e }

leg_equipped : (e : EquipmentValue) (here there : Option Offset) (i : ℕ) (line : LegLine)
    (new : NewLegs) → HasStations line
    → leg_at here there i line (equipped_new e new)
    ≡ option_map (equipped e) (leg_at here there i line new)
leg_equipped e None there i line new h = refl
leg_equipped e (Some here) None i line new h = refl
leg_equipped e (Some here) (Some there) i line new h =
    ap (λ (columns : List ℕ). Some (record {
      sequence = i + 1;
      columns = columns;
      tails = tails_for i new.legs new.segments;
    }))
    (sym (new_equipped (equipment_of e) (equipment_of new.equipment) (stations_of here there line)
    (times_of line) (stations_are here there line h)))

joined_map : (f : LegValue → LegValue) (leg : Option LegValue) (legs : Option Legs)
    → joined (option_map f leg) (option_map (map f) legs) ≡ option_map (map f) (joined leg legs)
joined_map f None legs = refl
joined_map f (Some leg) None = refl
joined_map f (Some leg) (Some legs) = refl

pub equipped_from : (v : Variations) (e : EquipmentValue) (new : NewLegs) (i : ℕ)
    (lines : List LegLine) → AllByRecursion HasStations lines
    → legs_from v (equipped_new e new) i lines
    ≡ option_map (map (equipped e)) (legs_from v new i lines)
equipped_from v e new i [] h = refl
equipped_from v e new i (line ∷ lines) h =
    let here = v line.departure.station in let there = v line.arrival.station in
    (λ k. joined (leg_equipped e here there i line new h.0 k)
    (equipped_from v e new (i + 1) lines h.1 k))
    ∙ joined_map (equipped e) (leg_at here there i line new) (legs_from v new (i + 1) lines)

-- ---- a leg line in place of another

-- whether two leg lines are between the same stations
abbrev pub same_stations : LegLine → LegLine → Bool
same_stations line other =
    bytes_eq other.departure.station line.departure.station
    && bytes_eq other.arrival.station line.arrival.station

-- the leg lines with this one in place of the first between its stations
abbrev pub replaced : LegLine → List LegLine → List LegLine
replaced line [] = []
replaced line (other ∷ others) =
    if same_stations line other then line ∷ others else other ∷ replaced line others

-- the new legs with a leg line in place of another
abbrev pub replaced_new : LegLine → NewLegs → NewLegs
replaced_new line new = record new { legs = replaced line new.legs }

-- the stations are equal if the test says so
record HaveSame (line other : LegLine) : Type 0 where
  departure : other.departure.station ≡ line.departure.station
  arrival : other.arrival.station ≡ line.arrival.station

have_same : (line other : LegLine) → same_stations line other ≡ true → HaveSame line other
have_same line other h =
    let p = and_parts (bytes_eq other.departure.station line.departure.station)
    (bytes_eq other.arrival.station line.arrival.station) h in
    record {
      departure = (bytes_eq-Decides other.departure.station line.departure.station).0 p.0;
      arrival = (bytes_eq-Decides other.arrival.station line.arrival.station).0 p.1;
    }

pub length_replaced : (line : LegLine) (lines : List LegLine)
    → length (replaced line lines) ≡ length lines
length_replaced line [] = refl
length_replaced line (other ∷ others) =
    by (same_stations line other) (length_replaced line others)
  where
    by : (b : Bool) → length (replaced line others) ≡ length others
        → length (if b then line ∷ others else other ∷ replaced line others)
        ≡ length (other ∷ others)
    by true later = refl
    by false later = ap (λ (n : ℕ). suc n) later

pub all_replaced : (P : LegLine → Type 0) (line : LegLine) (lines : List LegLine) → P line
    → AllByRecursion P lines → AllByRecursion P (replaced line lines)
all_replaced P line [] one h = tt
all_replaced P line (other ∷ others) one h =
    by (same_stations line other) (all_replaced P line others one h.1)
  where
    by : (b : Bool) → AllByRecursion P (replaced line others)
        → AllByRecursion P (if b then line ∷ others else other ∷ replaced line others)
    by true later = (one, h.1)
    by false later = (h.0, later)

-- ---- the pairs of points

-- the number of leg lines before the first that arrives at the station
abbrev arrivals_before : List ℕ → List LegLine → ℕ
arrivals_before off lines = prefix_len (λ l. not (bytes_eq l.arrival.station off)) lines

before_replaced : (off : List ℕ) (line : LegLine) (lines : List LegLine)
    → arrivals_before off (replaced line lines) ≡ arrivals_before off lines
before_replaced off line [] = refl
before_replaced off line (other ∷ others) =
    by (same_stations line other) refl (before_replaced off line others)
  where
    by : (b : Bool) → same_stations line other ≡ b
        → arrivals_before off (replaced line others) ≡ arrivals_before off others
        → arrivals_before off (if b then line ∷ others else other ∷ replaced line others)
        ≡ arrivals_before off (other ∷ others)
    by true e later =
        ap (λ (s : List ℕ). cond (not (bytes_eq s off)) (1 + arrivals_before off others) 0)
        (sym (have_same line other e).arrival)
    by false e later =
        ap (λ (n : ℕ). cond (not (bytes_eq other.arrival.station off)) (1 + n) 0) later

-- the place of the first arrival, by the number of leg lines before it and the number of all
abbrev first_of : ℕ → ℕ → Option ℕ
first_of n all = cond (nat_lt n all) (Some n) None

position_replaced : (off : List ℕ) (line : LegLine) (lines : List LegLine)
    → position (λ l. bytes_eq l.arrival.station off) (replaced line lines)
    ≡ position (λ l. bytes_eq l.arrival.station off) lines
position_replaced off line lines =
    λ i. first_of (before_replaced off line lines i) (length_replaced line lines i)

-- the leg lines with this one in place of the first of them, or of one of the others
abbrev first_chosen : LegLine → LegLine → List LegLine → Bool → List LegLine
first_chosen line other others b = if b then line ∷ others else other ∷ replaced line others

-- the first arrival is at the same place, whichever of the two it is
place_chosen : (off : List ℕ) (line other : LegLine) (others : List LegLine) (b : Bool)
    → same_stations line other ≡ b
    → position (λ l. bytes_eq l.arrival.station off) (first_chosen line other others b)
    ≡ position (λ l. bytes_eq l.arrival.station off) (other ∷ others)
place_chosen off line other others b e =
    ap (λ (c : Bool). position (λ l. bytes_eq l.arrival.station off)
    (first_chosen line other others c)) (sym e)
    ∙ position_replaced off line (other ∷ others)

pub pair_replaced : (board off : List ℕ) (n : ℕ) (line : LegLine) (lines : List LegLine)
    → leg_pair board off n (replaced line lines) ≡ leg_pair board off n lines
pair_replaced board off n line [] = refl
pair_replaced board off n line (other ∷ others) =
    by (same_stations line other) refl (pair_replaced board off (n + 1) line others)
  where
    by : (b : Bool) → same_stations line other ≡ b
        → leg_pair board off (n + 1) (replaced line others) ≡ leg_pair board off (n + 1) others
        → leg_pair board off n (first_chosen line other others b)
        ≡ leg_pair board off n (other ∷ others)
    by true e later = λ i.
        pair_at (bytes_eq (sym (have_same line other e).departure i) board)
        (place_chosen off line other others true e i) n (leg_pair board off (n + 1) others)
    by false e later = λ i.
        pair_at (bytes_eq other.departure.station board)
        (place_chosen off line other others false e i) n (later i)

tails_replaced : (i : ℕ) (line : LegLine) (lines : List LegLine) (segments : List SegmentLine)
    → tails_for i (replaced line lines) segments ≡ tails_for i lines segments
tails_replaced i line lines [] = refl
tails_replaced i line lines (segment ∷ segments) = λ k.
    with_tail (tail_at i segment (pair_replaced segment.board segment.off 0 line lines k))
    (tails_replaced i line lines segments k)

flown_replaced : (line : LegLine) (lines : List LegLine) (segments : List SegmentLine)
    → AllByRecursion (λ segment. flies lines segment ≡ true) segments
    → AllByRecursion (λ segment. flies (replaced line lines) segment ≡ true) segments
flown_replaced line lines [] h = tt
flown_replaced line lines (segment ∷ segments) h = (
  ap is_some (pair_replaced segment.board segment.off 0 line lines) ∙ h.0,
  flown_replaced line lines segments h.1,
)

-- the grammar allows the new legs with another leg line
pub allowed_replaced : (line : LegLine) (new : NewLegs) → IsNewLegs new
    → IsNewLegs (replaced_new line new)
allowed_replaced line new h =
    let same = length_replaced line new.legs in
    record {
      some = subst (λ (n : ℕ). 1 ≤ n) (sym same) h.some;
      legs = subst (λ (n : ℕ). n ≤ 20) (sym same) h.legs;
      segments = h.segments;
      flown = flown_replaced line new.legs new.segments h.flown;
    }

-- ---- the legs

-- the leg of new legs with these columns and tails
abbrev made : ℕ → List ℕ → List (List ℕ) → LegValue
made i columns tails = record { sequence = i + 1; columns = columns; tails = tails }

-- a leg line that stays has the same leg
leg_same : (line : LegLine) (new : NewLegs) (here there : Option Offset) (i : ℕ) (other : LegLine)
    → leg_at here there i other (replaced_new line new) ≡ leg_at here there i other new
leg_same line new None there i other = refl
leg_same line new (Some here) None i other = refl
leg_same line new (Some here) (Some there) i other =
    ap (λ (tails : List (List ℕ)). Some (made i (new_columns here there other new.equipment) tails))
    (tails_replaced i line new.legs new.segments)

legs_same : (v : Variations) (line : LegLine) (new : NewLegs) (i : ℕ) (lines : List LegLine)
    → legs_from v (replaced_new line new) i lines ≡ legs_from v new i lines
legs_same v line new i [] = refl
legs_same v line new i (other ∷ others) = λ k.
    joined (leg_same line new (v other.departure.station) (v other.arrival.station) i other k)
    (legs_same v line new (i + 1) others k)

-- the line fits the leg of another line exactly if the two are between the same stations
fits_new : (here there : Offset) (i : ℕ) (line other : LegLine) (e : EquipmentValue)
    (tails : List (List ℕ)) → HasStations other
    → fits line (made i (new_columns here there other e) tails) ≡ same_stations line other
fits_new here there i line other e tails h =
    let s = stations_of here there other in
    let are = stations_are here there other h in
    λ k. bytes_eq (new_departure s (times_of other) (equipment_of e) are k) line.departure.station
    && bytes_eq (new_arrival s (times_of other) (equipment_of e) are k) line.arrival.station

-- the first leg with its tests: with the times of the line if it fits, else as it is
abbrev first_tested : LegLine → Bool → LegValue → Legs → Legs
first_tested line b leg legs = if b then retimed line leg ∷ legs else leg ∷ with_line line legs

-- the columns of the line are those of another between the same stations, with its times
columns_retimed : (here there : Offset) (line other : LegLine) (e : EquipmentValue)
    → HasStations other → HaveSame line other
    → new_columns here there line e ≡ with_times line (new_columns here there other e)
columns_retimed here there line other e h same =
    (λ k. new_leg (record {
      departure = sym same.departure k;
      departure_variation = here;
      arrival = sym same.arrival k;
      arrival_variation = there;
    }) (times_of line) (equipment_of e))
    ∙ sym (new_timed (times_of line) (times_of other) (stations_of here there other)
    (equipment_of e) (stations_are here there other h))

-- the line in place of another between its stations
first_replaced : (line other : LegLine) (new : NewLegs) (here there : Option Offset) (i : ℕ)
    (later : Option Legs) → HasStations other → HaveSame line other
    → same_stations line other ≡ true
    → joined (leg_at here there i line (replaced_new line new)) later
    ≡ option_map (with_line line) (joined (leg_at here there i other new) later)
first_replaced line other new None there i later h same e = refl
first_replaced line other new (Some here) None i later h same e = refl
first_replaced line other new (Some here) (Some there) i None h same e = refl
first_replaced line other new (Some here) (Some there) i (Some legs) h same e =
    let tails = tails_for i new.legs new.segments in
    let leg = made i (new_columns here there other new.equipment) tails in
    (λ k. Some (made i (columns_retimed here there line other new.equipment h same k)
    (tails_replaced i line new.legs new.segments k) ∷ legs))
    ∙ ap (λ (b : Bool). Some (first_tested line b leg legs))
    (sym (fits_new here there i line other new.equipment tails h ∙ e))

-- another line that stays, before later lines
first_stays : (line other : LegLine) (new : NewLegs) (here there : Option Offset) (i : ℕ)
    (later : Option Legs) → HasStations other → same_stations line other ≡ false
    → joined (leg_at here there i other new) (option_map (with_line line) later)
    ≡ option_map (with_line line) (joined (leg_at here there i other new) later)
first_stays line other new None there i later h e = refl
first_stays line other new (Some here) None i later h e = refl
first_stays line other new (Some here) (Some there) i None h e = refl
first_stays line other new (Some here) (Some there) i (Some legs) h e =
    let tails = tails_for i new.legs new.segments in
    let leg = made i (new_columns here there other new.equipment) tails in
    ap (λ (b : Bool). Some (first_tested line b leg legs))
    (sym (fits_new here there i line other new.equipment tails h ∙ e))

pub replaced_from : (v : Variations) (line : LegLine) (new : NewLegs) (i : ℕ)
    (lines : List LegLine) → AllByRecursion HasStations lines
    → legs_from v (replaced_new line new) i (replaced line lines)
    ≡ option_map (with_line line) (legs_from v new i lines)
replaced_from v line new i [] h = refl
replaced_from v line new i (other ∷ others) h =
    by (same_stations line other) refl (replaced_from v line new (i + 1) others h.1)
  where
    by : (b : Bool) → same_stations line other ≡ b
        → legs_from v (replaced_new line new) (i + 1) (replaced line others)
        ≡ option_map (with_line line) (legs_from v new (i + 1) others)
        → legs_from v (replaced_new line new) i (first_chosen line other others b)
        ≡ option_map (with_line line) (legs_from v new i (other ∷ others))
    by true e later =
        let same = have_same line other e in
        (λ k. joined (leg_at (v (sym same.departure k)) (v (sym same.arrival k)) i line
        (replaced_new line new)) (legs_same v line new (i + 1) others k))
        ∙ first_replaced line other new (v other.departure.station) (v other.arrival.station) i
        (legs_from v new (i + 1) others) h.0 same e
    by false e later =
        (λ k. joined (leg_same line new (v other.departure.station) (v other.arrival.station) i
        other k) (later k))
        ∙ first_stays line other new (v other.departure.station) (v other.arrival.station) i
        (legs_from v new (i + 1) others) h.0 e

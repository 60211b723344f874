-- The legs that leg records name, and the dates that they have, by flight.
use Rattle.std.specs.Prelude.{◌≡◌, ◌≢◌, ℕ, zero, suc, ◌+◌, ◌-◌, ◌/◌, ◌%◌, Bool, true, false, ◌&&◌, ◌||◌, nat_eq, if◌then◌else◌, List, [], ◌∷◌, Option, Some, None, slice_get}
use Rattle.std.specs.Int.{bit_at}
use Rattle.std.specs.List.{position_or_len}
use Rattle.std.specs.declared.alloc.Global.{Global}
use Rattle.std.specs.declared.vec.Vec.{Vec}
use Rattle.ssim_values.specs.Flight.{FlightNumber}
use Rattle.ssim_values.specs.Period.{DayRange}
use Rattle.ssim_periods.specs.Calendar.{holds}
use Rattle.ssim_base.specs.internal.Dates.{has_date, is_in}
use Rattle.ssim_base.specs.Export.{flight_at, flight_count}
use Rattle.ssim_base.specs.declared.leg_table.flight_legs.FlightLegs.{FlightLegs}
use Rattle.ssim_base.specs.declared.leg_table.leg_sequence.LegSequence.{LegSequence}
use Rattle.ssim_base.specs.declared.leg_table.LegTable.{LegTable}
use Rattle.ssim_base.specs.declared.leg_table.used_dates.UsedDates.{UsedDates}
use Rattle.ssim_base.specs.declared.leg_table.used_dates.UsedDates.TheVariants.{Empty, One, Few, Many}

-- ---- one leg sequence of a flight

-- whether a date is used: the period or one of the list holds it, or it is in the set
abbrev pub is_used : UsedDates → ℕ → Bool
is_used Empty n = false
is_used (One period) n = holds period n
is_used (Few list) n = is_in list.periods.items n
is_used (Many set) n = has_date set.words.items n

-- whether one of the leg records has this itinerary variation: its bit is 1
abbrev pub has_variation : LegSequence → ℕ → Bool
has_variation legs variation = nat_eq (bit_at legs.variations variation) 1

-- ---- the leg sequences of a flight

-- whether an entry is of this leg sequence
abbrev pub is_numbered : ℕ → LegSequence → Bool
is_numbered sequence legs = nat_eq legs.number sequence

-- whether there is an entry of this leg sequence
abbrev pub is_of : ℕ → Option LegSequence → Bool
is_of sequence None = false
is_of sequence (Some legs) = is_numbered sequence legs

-- the index of the entry of a leg sequence: one less than its number if that entry is of it, else
-- the first index of such an entry, or the number of entries if there is none
abbrev pub index_of : List LegSequence → ℕ → ℕ
index_of entries sequence =
    if is_of sequence (slice_get entries (sequence - 1)) then sequence - 1
    else position_or_len (is_numbered sequence) entries

-- the entry of a leg sequence, if there is one
abbrev pub entry_of : List LegSequence → ℕ → Option LegSequence
entry_of entries sequence = slice_get entries (index_of entries sequence)

-- whether there is an entry and it has this itinerary variation
abbrev pub variation_of : Option LegSequence → ℕ → Bool
variation_of None variation = false
variation_of (Some legs) variation = has_variation legs variation

-- whether there is an entry and it uses this date
abbrev pub used_of : Option LegSequence → ℕ → Bool
used_of None n = false
used_of (Some legs) n = is_used legs.dates n

-- whether a leg record of the flight has this leg sequence and itinerary variation
abbrev pub names_leg : List LegSequence → ℕ → ℕ → Bool
names_leg entries sequence variation = variation_of (entry_of entries sequence) variation

-- whether a leg record of the flight has this leg sequence and a date
abbrev pub uses_date : List LegSequence → ℕ → ℕ → Bool
uses_date entries sequence n = used_of (entry_of entries sequence) n

-- whether the flight has a leg record
abbrev pub has_legs : List LegSequence → Bool
has_legs [] = false
has_legs (legs ∷ entries) = true

-- one more leg record of the flight, of a leg sequence, an itinerary variation and a period
pub record AddsLeg (old new : List LegSequence) (sequence variation : ℕ)
    (period : DayRange) : Type 0 where
  pub named : (s v : ℕ) → names_leg new s v
      ≡ ((nat_eq s sequence && nat_eq v variation) || names_leg old s v)
  pub used : (s n : ℕ) → uses_date new s n ≡ ((nat_eq s sequence && holds period n) || uses_date old s n)
  pub there : has_legs new ≡ true

-- ---- the flights of a flight number, and all flights

-- the entries of a flight, none if the flight has no leg record
abbrev pub entries_of : Option FlightLegs → List LegSequence
entries_of None = []
entries_of (Some flight) = flight.entries.items

-- the leg sequences of the flight at an index
abbrev pub legs_in : List FlightLegs → ℕ → List LegSequence
legs_in flights suffix = entries_of (slice_get flights suffix)

-- the flights of a flight number, none if it has no leg record
abbrev pub flights_of : Option (Vec FlightLegs Global) → List FlightLegs
flights_of None = []
flights_of (Some flights) = flights.items

-- the leg sequences of the flight with this rank among all flights
abbrev pub legs_at : LegTable → ℕ → List LegSequence
legs_at table place = legs_in (flights_of (slice_get table.numbers.items (place / 27))) (place % 27)

-- one more leg record of the flight with this rank; the records of the others stay
pub record AddsLegAt (old new : LegTable) (place sequence variation : ℕ)
    (period : DayRange) : Type 0 where
  pub its : AddsLeg (legs_at old place) (legs_at new place) sequence variation period
  pub others : (k : ℕ) → k ≢ place → legs_at new k ≡ legs_at old k

-- ---- the flights that have leg records

-- the flights that pass a test, in order, among the `count` flights from an index on
abbrev pub flights_from : (ℕ → Bool) → ℕ → ℕ → List FlightNumber
flights_from has place zero = []
flights_from has place (suc count) =
    if has place then flight_at place ∷ flights_from has (place + 1) count
    else flights_from has (place + 1) count

-- the flights that pass a test, in order, among all flights from a rank on
abbrev pub flights_left : (ℕ → Bool) → ℕ → List FlightNumber
flights_left has place = flights_from has place (flight_count - place)

-- the flights that have a leg record, in order
abbrev pub flights_in : LegTable → List FlightNumber
flights_in table = flights_left (λ place. has_legs (legs_at table place)) 0

-- How a schedule stores its flights: entries that rise by number and suffix of the flight.
use Rattle.std.specs.Prelude.{◌≡◌, ◌⊎◌, ℕ, ◌+◌, ◌<◌, ◌≤◌, Bool, nat_eq, if◌then◌else◌, List, [], ◌∷◌, length, slice_index_or, Contains}
use Rattle.ssim_values.specs.Flight.{FlightNumber}
use Rattle.ssim_values.specs.Period.{DayRange}
use Rattle.ssim_periods.specs.Days.{changed_on, each_day}
use Rattle.ssim_base.specs.ReadBack.{place_of}
use Rattle.ssim_base.specs.Timetable.{Days, Legs}
use Rattle.ssim_schedule.specs.declared.timetable.flight_table.FlightPeriods.{FlightPeriods}

-- the stored flights, each with its itineraries and cuts
abbrev pub Table : Type 0
Table = List FlightPeriods

-- a field of a flight's entry, or `other` if the flight has no entry
abbrev pub found : {X : Type 0} → (FlightPeriods → X) → X → Table → FlightNumber → X
found field other [] flight = other
found field other (f ∷ table) flight =
    if nat_eq (place_of f.flight) (place_of flight) then field f else found field other table flight

-- a flight's itinerary on each day; no legs on any day if it was never named
abbrev pub table_days : Table → FlightNumber → Days
table_days = found (λ f. f.periods.days) (each_day (λ _. []))

-- the cuts of a flight
abbrev pub table_cuts : Table → FlightNumber → List ℕ
table_cuts = found (λ f. f.periods.cuts) []

-- an entry in place of one that does not exist
abbrev pub no_entry : FlightPeriods
no_entry =
    record {
      flight = record { number = 0; suffix = 32 };
      periods = record { days = []; cuts = [] };
    }

-- the rank of the flight of the entry at i
abbrev pub key_at : Table → ℕ → ℕ
key_at table i = place_of (slice_index_or table i no_entry).flight

-- the entries rise by number and suffix, so no flight has two
abbrev pub AreRising : Table → Type 0
AreRising table = (i j : ℕ) → i < j → j < length table → key_at table i < key_at table j

-- the entry at i is the flight's
pub record IsAt (table : Table) (flight : FlightNumber) (i : ℕ) : Type 0 where
  pub in_range : i < length table
  pub its : key_at table i ≡ place_of flight

-- a flight without an entry would have it at i: lower ones before it, and higher ones from it on
pub record IsGapFor (table : Table) (flight : FlightNumber) (i : ℕ) : Type 0 where
  pub in_range : i ≤ length table
  pub lower_before : (j : ℕ) → j < i → key_at table j < place_of flight
  pub higher_after : (j : ℕ) → i ≤ j → j < length table → place_of flight < key_at table j

-- a flight's new cuts are old ones, or, of the flight whose dates were changed, the period's first
-- day and the day after its last
abbrev pub AddsOnlyAt : FlightNumber → DayRange → FlightNumber → List ℕ → List ℕ → Type 0
AddsOnlyAt flight period g old new =
    (cut : ℕ) → Contains new cut
    → Contains old cut ⊎ ((place_of flight ≡ place_of g)
    × ((cut ≡ period.first) ⊎ (cut ≡ period.last + 1)))

-- On the days of a set the flight's itinerary is the outcome of a change. No other itinerary
-- changes.
abbrev pub ChangesOn : FlightNumber → (ℕ → Bool) → (Legs → Legs) → Table → Table → Type 0
ChangesOn flight is_in outcome old new =
    (g : FlightNumber) → table_days new g
    ≡ (if nat_eq (place_of flight) (place_of g) then changed_on is_in outcome 0 (table_days old g)
    else table_days old g)

-- the new cuts of each flight are old ones, or, of the flight whose dates were changed, an end of
-- the period
abbrev pub AddsEnds : FlightNumber → DayRange → Table → Table → Type 0
AddsEnds flight period old new =
    (g : FlightNumber) → AddsOnlyAt flight period g (table_cuts old g) (table_cuts new g)

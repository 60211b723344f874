-- What the records of a data set say, flight by flight and day by day.
use Rattle.std.specs.Prelude.{ℕ, ◌<◌, Bool, ◌&&◌, nat_eq, nat_lt, if◌then◌else◌, List, [], ◌∷◌, slice_index_or, unwrap_or}
use Rattle.std.specs.List.{list_any}
use Rattle.ssim_values.specs.Flight.{FlightNumber}
use Rattle.ssim_values.specs.Period.{DayRange}
use Rattle.ssim_periods.specs.Calendar.{holds}
use Rattle.ssim_periods.specs.Days.{each_day}
use Rattle.ssim_records.specs.Leg.{LegFields, Name}
use Rattle.ssim_records.specs.declared.record.Record.{Record}
use Rattle.ssim_records.specs.declared.record.Record.TheVariants.{Leg, Segment}

-- a leg of an itinerary: its sequence, the 158 bytes of its own columns, and its tails of 179 bytes
pub record LegValue : Type 0 where
  pub sequence : ℕ
  pub columns : List ℕ
  pub tails : List (List ℕ)

-- an itinerary: legs by rising sequence; the empty list if there is no flight
abbrev pub Legs : Type 0
Legs = List LegValue

-- whether two flights are the same: number and suffix
abbrev pub same_flight : FlightNumber → FlightNumber → Bool
same_flight a b = nat_eq a.number b.number && nat_eq a.suffix b.suffix

-- whether two legs have the same flight, itinerary variation and leg sequence
abbrev pub same_name : Name → Name → Bool
same_name a b =
    same_flight a.flight b.flight && (nat_eq a.variation b.variation
    && nat_eq a.sequence b.sequence)

-- the tails of a leg record: those of the later segment records with its name, up to the next leg
-- record with that name
abbrev pub tails_of : Name → List Record → List (List ℕ)
tails_of name [] = []
tails_of name (Leg r ∷ later) = if same_name name r.name then [] else tails_of name later
tails_of name (Segment r ∷ later) =
    if same_name name r.name then r.tail ∷ tails_of name later else tails_of name later
tails_of name (_ ∷ later) = tails_of name later

-- the leg that a leg record gives, with these records after it
abbrev pub leg_of : LegFields → List Record → LegValue
leg_of r later =
    record { sequence = r.name.sequence; columns = r.columns; tails = tails_of r.name later }

-- the period of a leg record; the legs of a base have no open end
abbrev pub period_of : LegFields → DayRange
period_of r = record { first = r.first; last = unwrap_or r.last 0; days = r.days }

-- whether a leg record is of the flight and its period holds the day
abbrev pub is_on : LegFields → FlightNumber → ℕ → Bool
is_on r flight day = same_flight r.name.flight flight && holds (period_of r) day

-- the legs with one more, in order of sequence
abbrev pub placed : LegValue → Legs → Legs
placed l [] = l ∷ []
placed l (m ∷ legs) = if nat_lt m.sequence l.sequence then m ∷ placed l legs else l ∷ m ∷ legs

-- the itinerary of a flight on a day: the legs, by sequence, of all its leg records whose period
-- holds the day
abbrev pub itinerary : List Record → FlightNumber → ℕ → Legs
itinerary [] flight day = []
itinerary (Leg r ∷ later) flight day =
    if is_on r flight day then placed (leg_of r later) (itinerary later flight day)
    else itinerary later flight day
itinerary (_ ∷ later) flight day = itinerary later flight day

-- whether the flight is in the list
abbrev pub is_among : List FlightNumber → FlightNumber → Bool
is_among flights flight = list_any (same_flight flight) flights

-- a flight's itinerary on each day
abbrev pub Days : Type 0
Days = List Legs

-- the itineraries of each flight by day that records give
abbrev pub days_of : List Record → FlightNumber → Days
days_of records flight = each_day (itinerary records flight)

-- the itinerary on a day
abbrev pub on_day : Days → ℕ → Legs
on_day days n = slice_index_or days n []

-- the legs are ordered by rising sequence, above n and up to 99
abbrev pub Above : ℕ → Legs → Type 0
Above n [] = Unit {0}
Above n (l ∷ legs) = (n < l.sequence) × (l.sequence < 100) × Above l.sequence legs

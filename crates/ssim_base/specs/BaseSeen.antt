-- What contracts see of a base, and what always holds of it.
use Rattle.std.specs.Prelude.{◌≡◌, ℕ, Bool, false, List, Ok}
use Rattle.std.specs.List.{All, list_any}
use Rattle.ssim_values.specs.Flight.{FlightNumber, IsFlight}
use Rattle.ssim_records.specs.Record.{IsRecord}
use Rattle.ssim_records.specs.declared.record.Record.{Record}
use Rattle.ssim_records.specs.declared.record.Record.TheVariants.{Leg}
use Rattle.ssim_base.specs.Base.{Ending, data_set}
use Rattle.ssim_base.specs.ReadBack.{Rise}
use Rattle.ssim_base.specs.Stations.{Row}
use Rattle.ssim_base.specs.Timetable.{same_flight}
use Rattle.ssim_base.specs.declared.note.Note.{Note}

-- what contracts see of a base: its records in order, and the rows of the station table
pub record BaseSeen : Type 0 where
  pub records : List Record
  pub rows : List Row

-- the base of these records with these rows
abbrev pub base_with : List Record → List Row → BaseSeen
base_with records rows = record { records = records; rows = rows }

-- these are the records of a base: some valid records are read as them
pub record WasRead (base : List Record) : Type 0 where
  pub ending : Ending
  pub records : List (ℕ × Record)
  pub notes : List Note
  pub spelt : All (λ r. IsRecord r.1) records
  pub read : data_set ending records ≡ Ok (base, notes)

-- whether a record is a leg of the flight
abbrev pub is_leg_of : FlightNumber → Record → Bool
is_leg_of flight (Leg r) = same_flight flight r.name.flight
is_leg_of flight _ = false

-- the flights of the leg records, each once, rising by number and suffix
pub record AreFlights (records : List Record) (flights : List FlightNumber) : Type 0 where
  pub rising : Rise 0 flights
  pub each : (flight : FlightNumber) → IsFlight flight
      → list_any (same_flight flight) flights ≡ list_any (is_leg_of flight) records

-- The days at which the leg records of a flight divide its dates.
use Rattle.std.specs.Prelude.{ℕ, ◌+◌, Bool, false, ◌&&◌, ◌||◌, nat_eq, IsTrue, List, Contains}
use Rattle.std.specs.List.{list_any}
use Rattle.ssim_values.specs.Flight.{FlightNumber}
use Rattle.ssim_records.specs.declared.record.Record.{Record}
use Rattle.ssim_records.specs.declared.record.Record.TheVariants.{Header, Carrier, Leg, Segment, Trailer}
use Rattle.ssim_base.specs.Timetable.{same_flight, period_of}

-- whether the day is the first of a leg record of the flight, or the day after its last
abbrev pub is_point : FlightNumber → ℕ → Record → Bool
is_point flight day (Header r) = false
is_point flight day (Carrier r) = false
is_point flight day (Leg r) =
    same_flight r.name.flight flight && (nat_eq day r.first || nat_eq day ((period_of r).last + 1))
is_point flight day (Segment r) = false
is_point flight day (Trailer r) = false

-- each cut is a division point of the flight's leg records
abbrev pub AreAtPoints : List ℕ → FlightNumber → List Record → Type 0
AreAtPoints cuts flight records =
    (cut : ℕ) → Contains cuts cut → IsTrue (list_any (is_point flight cut) records)

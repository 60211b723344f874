-- A timetable that grows. The flight whose records are being put, the current one, is stored apart
-- from the other flights.
use Rattle.std.specs.Prelude.{Bool, false, nat_eq, ◌∷◌, Option, Some, None}
use Rattle.ssim_values.specs.Flight.{FlightNumber}
use Rattle.ssim_periods.specs.clauses.Days.{Seen}
use Rattle.ssim_base.specs.ReadBack.{place_of}
use Rattle.ssim_base.specs.Timetable.{Legs}
use Rattle.ssim_schedule.specs.internal.Runs.{with_runs}
use Rattle.ssim_schedule.specs.internal.Table.{Table}
use Rattle.ssim_schedule.specs.declared.builder.table_builder.TableBuilder.{TableBuilder}

-- whether the flight is the current one
abbrev pub is_current : Option FlightNumber → FlightNumber → Bool
is_current None flight = false
is_current (Some current) flight = nat_eq (place_of current) (place_of flight)

-- the entries with the current flight first. A look-up takes the first entry of a flight, so it
-- hides an older entry of the current flight.
abbrev pub with_current : Option FlightNumber → Seen Legs → Table → Table
with_current None periods table = table
with_current (Some flight) periods table = record { flight = flight; periods = periods } ∷ table

-- the entries of all flights
abbrev pub table_of : TableBuilder → Table
table_of b = with_current b.current (with_runs b.runs.items b.periods) b.blocks

-- What contracts see of a schedule: the itinerary of each flight on each day, and the cuts of each
-- flight. How these are stored is in internal/Table.
use Rattle.std.specs.Prelude.{ℕ, List, refl}
use Rattle.std.specs.Coded.{Coded, code_by, coded_list}
use Rattle.ssim_values.specs.Flight.{FlightNumber}
use Rattle.ssim_base.specs.Timetable.{Days}
use Rattle.ssim_schedule.specs.internal.Table.{Table, table_cuts, table_days}
use Rattle.ssim_schedule.specs.contracts.timetable.flight_table.FlightPeriods as entry

-- what the flights of a schedule fly; all that is seen of it is `days_in` and `cuts_in`
pub record Flown : Type 0 where
  table : Table

-- a flight's itinerary on each day; no legs on any day if it was never named
abbrev pub days_in : Flown → FlightNumber → Days
days_in flown = table_days flown.table

-- the cuts of a flight; none if it was never named
abbrev pub cuts_in : Flown → FlightNumber → List ℕ
cuts_in flown = table_cuts flown.table

-- ---- for the model of `Schedule` alone

-- what the stored flights fly
abbrev pub flown_by : Table → Flown
flown_by table = record { table = table }

-- by this code a proof sees that two values differ
abbrev pub flown_code : Coded Flown
flown_code =
    code_by Table (coded_list entry.the_row.coded) (λ flown. flown.table) flown_by (λ _. refl)

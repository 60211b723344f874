-- What is kept of a timetable while it is compared.
use Rattle.std.specs.Prelude.{◌≡◌, List}
use Rattle.ssim_records.specs.Carrier.{CarrierFields}
use Rattle.ssim_held.specs.Entries.{DeskSeen}
use Rattle.ssim_schedule.specs.FlightPieces.{Divided, divided_flights}
use Rattle.ssim_desk.specs.Desk.{days_of_desk}
use Rattle.ssim_program.specs.Timetables.{HasCarrier}

-- this is the carrier record of the desk's data set, and these are the flights of its timetable
pub record HasFlights (desk : DeskSeen) (carrier : CarrierFields) (flights : List Divided)
    : Type 0 where
  pub has_carrier : HasCarrier desk.base.records carrier
  pub flights_are : flights ≡ divided_flights (days_of_desk desk)

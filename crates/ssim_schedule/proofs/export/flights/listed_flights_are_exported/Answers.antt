use Rattle.ssim_schedule.proofs.Divisions.{are_exported}
use Rattle.ssim_schedule.proofs.export.flights.listed_flights_are_exported.Goals as goal

pub returns : goal.returns
returns c = are_exported

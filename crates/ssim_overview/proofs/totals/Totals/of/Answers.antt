-- Each of the totals by itself.
use Rattle.std.proofs.Common.{◌∙◌}
use Rattle.ssim_overview.proofs.FlownFlights.{all_dates_counted, all_ends, all_flights_counted, all_stations_counted}
use Rattle.ssim_overview.proofs.totals.Totals.of.Goals as goal

pub returns : goal.returns
returns c legs_on are = let flights = c.args.flights.now in λ i. record {
  flights = all_flights_counted legs_on flights are i;
  stations = (c.in_ok-stations.ensures ∙ all_stations_counted legs_on flights are) i;
  dates = all_dates_counted legs_on flights are c.dates_of_flights.result c.dates_of_flights.ensures i;
  first_and_last = (c.ends_of_flights.ensures ∙ all_ends legs_on flights are) i;
}

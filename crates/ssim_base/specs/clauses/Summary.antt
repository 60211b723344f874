-- What a summary says of a data set.
use Rattle.std.specs.Prelude.{◌≡◌, ℕ, List, length, Option, Ok}
use Rattle.ssim_values.specs.Flight.{FlightNumber}
use Rattle.ssim_records.specs.declared.record.Record.{Record}
use Rattle.ssim_base.specs.BaseSeen.{AreFlights}
use Rattle.ssim_base.specs.Reading.{IsWholeOf}
use Rattle.ssim_base.specs.declared.summary.Summary.{Summary}

-- the summary of a data set has its notes and the numbers of its records and of its flights
pub record IsSummary (limit : ℕ) (known : Option (List ℕ)) (summary : Summary) : Type 0 where
  pub base : List Record
  pub flights : List FlightNumber
  pub read : IsWholeOf limit known (Ok (base, summary.notes.items))
  pub are_flights : AreFlights base flights
  pub records_are : summary.records ≡ length base
  pub flights_are : summary.flights ≡ length flights

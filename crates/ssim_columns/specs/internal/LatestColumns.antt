-- What records say in columns that are parsed once.
use Rattle.std.specs.Prelude.{ℕ, ◌≡◌, ◌<◌, List, [], ◌∷◌, Some}
use Rattle.ssim_values.specs.Day.{day_of}
use Rattle.ssim_values.specs.DayMask.{days_of}
use Rattle.ssim_columns.specs.declared.latest_columns.LegDates.{LegDates}
use Rattle.ssim_columns.specs.declared.latest_columns.LegEnds.{LegEnds}
use Rattle.ssim_columns.specs.declared.latest_columns.SerialFront.{SerialFront}
use Rattle.ssim_columns.specs.declared.leg.leg_name.AirlineFlight.{AirlineFlight}
use Rattle.ssim_columns.specs.declared.leg.leg_name.FlightLeg.{FlightLeg}
use Rattle.ssim_columns.specs.Columns.{columns, end_from}
use Rattle.ssim_columns.specs.Numbers.{digits_of, number_of, sequence_of}

-- columns 15 to 35 say these dates
pub record SpellsDates (d : LegDates) (bytes : List ℕ) : Type 0 where
  pub first : day_of (columns 15 21 bytes) ≡ Some d.first
  pub last : end_from (Some d.first) (columns 22 28 bytes) ≡ Some d.last
  pub days : days_of (columns 29 35 bytes) ≡ Some d.days

-- columns 15 to 28 say these ends of a period
pub record SpellsEnds (e : LegEnds) (bytes : List ℕ) : Type 0 where
  pub first : day_of (columns 15 21 bytes) ≡ Some e.first
  pub last : end_from (Some e.first) (columns 22 28 bytes) ≡ Some e.last

-- columns 2 to 9 say this flight of an airline
pub record SpellsFlight (f : AirlineFlight) (bytes : List ℕ) : Type 0 where
  pub suffix : columns 2 2 bytes ≡ f.flight.suffix ∷ []
  pub airline : columns 3 5 bytes ≡ f.airline
  pub number : number_of (columns 6 9 bytes) ≡ Some f.flight.number

-- columns 10 to 13 say this leg of a flight
pub record SpellsFlightLeg (l : FlightLeg) (bytes : List ℕ) : Type 0 where
  pub variation : number_of (columns 10 11 bytes) ≡ Some l.variation
  pub sequence : sequence_of (columns 12 13 bytes) ≡ Some l.sequence
  pub variation_to : l.variation < 100
  pub sequence_from : 0 < l.sequence
  pub sequence_to : l.sequence < 100

-- columns 195 to 198 say this number in four digits
pub record SpellsSerialFront (f : SerialFront) (bytes : List ℕ) : Type 0 where
  pub value : digits_of (columns 195 198 bytes) ≡ Some f.number
  pub small : f.number < 10000

-- a fact holds of each record with this text in these columns
abbrev pub Everywhere : (List ℕ → List ℕ) → List ℕ → (List ℕ → Type 0) → Type 0
Everywhere columns_in text Holds = (bytes : List ℕ) → columns_in bytes ≡ text → Holds bytes

-- The columns of a new leg, and of a leg that gets other times or other equipment.
use Rattle.std.specs.Prelude.{ℕ, List, [], ◌∷◌, ◌++◌, replicate}
use Rattle.std.specs.List.{concat}
use Rattle.ssim_values.specs.Clock.{clock_text}
use Rattle.ssim_values.specs.Variation.{variation_text}
use Rattle.ssim_columns.specs.Numbers.{digits}
use Rattle.ssim_columns.specs.Columns.{filled}
use Rattle.ssim_columns.specs.Leg.{leg_columns}
use Rattle.ssim_columns.specs.declared.leg.leg_parts.LegStations.{LegStations}
use Rattle.ssim_columns.specs.declared.leg.leg_parts.LegTimes.{LegTimes}

-- ---- times

-- the date variations of departure and arrival, a digit each
abbrev pub date_variations : LegTimes → List ℕ
date_variations t = digits 1 t.departure_date_variation ++ digits 1 t.arrival_date_variation

-- a leg's columns with these times in columns 40 to 47, 58 to 65, 193 and 194
unfoldable pub with_times : LegTimes → List ℕ → List ℕ
with_times t d =
    concat (leg_columns 14 14 d
    ∷ leg_columns 37 39 d
    ∷ clock_text t.passenger_departure
    ∷ clock_text t.aircraft_departure
    ∷ leg_columns 48 57 d
    ∷ clock_text t.aircraft_arrival
    ∷ clock_text t.passenger_arrival
    ∷ leg_columns 66 127 d
    ∷ leg_columns 129 192 d
    ∷ date_variations t
    ∷ [])

-- ---- equipment

-- the equipment of a leg
pub record EquipmentFields : Type 0 where
  pub service_type : ℕ
  pub aircraft_type : List ℕ
  pub booking_designators : List ℕ
  pub configuration : List ℕ

-- a leg's columns with this equipment in columns 14, 73 to 95 and 173 to 192, and blanks for what
-- it leaves out
unfoldable pub with_equipment : EquipmentFields → List ℕ → List ℕ
with_equipment e d =
    concat (filled 1 (e.service_type ∷ [])
    ∷ leg_columns 37 72 d
    ∷ filled 3 e.aircraft_type
    ∷ filled 20 e.booking_designators
    ∷ leg_columns 96 127 d
    ∷ leg_columns 129 172 d
    ∷ filled 20 e.configuration
    ∷ leg_columns 193 194 d
    ∷ [])

-- ---- a new leg

-- the stations and their UTC variations, and blanks in all other columns
unfoldable pub station_columns : LegStations → List ℕ
station_columns s =
    concat ((32 ∷ [])
    ∷ s.departure
    ∷ replicate 8 32
    ∷ variation_text s.departure_variation
    ∷ replicate 2 32
    ∷ s.arrival
    ∷ replicate 8 32
    ∷ variation_text s.arrival_variation
    ∷ replicate 123 32
    ∷ [])

-- the columns of a new leg: stations, UTC variations, times and equipment, and blanks in all other
-- columns
unfoldable pub new_leg : LegStations → LegTimes → EquipmentFields → List ℕ
new_leg s t e = with_equipment e (with_times t (station_columns s))

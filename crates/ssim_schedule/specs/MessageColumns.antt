-- The columns that the lines of a message write in a leg and in the tail of a segment.
use Rattle.std.specs.Prelude.{ℕ, ◌+◌, List, [], ◌∷◌}
use Rattle.ssim_values.specs.Variation.{Offset}
use Rattle.ssim_records.specs.LegParts as leg
use Rattle.ssim_records.specs.LegParts.{EquipmentFields, new_leg}
use Rattle.ssim_records.specs.Segment.{new_tail}
use Rattle.ssim_columns.specs.declared.leg.leg_parts.LegStations.{LegStations}
use Rattle.ssim_columns.specs.declared.leg.leg_parts.LegTimes.{LegTimes}
use Rattle.ssim_text.specs.Values.{EquipmentValue}
use Rattle.ssim_text.specs.declared.leg.LegLine.{LegLine}
use Rattle.ssim_text.specs.declared.segment.SegmentLine.{SegmentLine}

-- the times of a leg line
abbrev pub times_of : LegLine → LegTimes
times_of line = record {
  passenger_departure = line.departure.passenger;
  aircraft_departure = line.departure.time;
  aircraft_arrival = line.arrival.time;
  passenger_arrival = line.arrival.passenger;
  departure_date_variation = line.departure.variation;
  arrival_date_variation = line.arrival.variation;
}

-- the equipment of an equipment line
abbrev pub equipment_of : EquipmentValue → EquipmentFields
equipment_of e = record {
  service_type = e.service;
  aircraft_type = e.aircraft;
  booking_designators = e.designators;
  configuration = e.configuration;
}

-- the stations of a leg line, which have these UTC variations
abbrev pub stations_of : Offset → Offset → LegLine → LegStations
stations_of here there line = record {
  departure = line.departure.station;
  departure_variation = here;
  arrival = line.arrival.station;
  arrival_variation = there;
}

-- a leg's columns with the equipment of a line
abbrev pub with_equipment : EquipmentValue → List ℕ → List ℕ
with_equipment e d = leg.with_equipment (equipment_of e) d

-- a leg's columns with the times and date variations of a line
abbrev pub with_times : LegLine → List ℕ → List ℕ
with_times line d = leg.with_times (times_of line) d

-- the columns of a new leg: stations and times of its leg line, UTC variations of the stations, and
-- the equipment
abbrev pub new_columns : Offset → Offset → LegLine → EquipmentValue → List ℕ
new_columns here there line e =
    new_leg (stations_of here there line) (times_of line) (equipment_of e)

-- the tail of a segment line whose pair of points is leg lines i to j, counted from 0: the letters
-- of the points, the identifier, the stations and the text
abbrev pub segment_tail : ℕ → ℕ → SegmentLine → List ℕ
segment_tail i j segment =
    new_tail ((65 + i) ∷ (66 + j) ∷ []) segment.identifier segment.board segment.off segment.text

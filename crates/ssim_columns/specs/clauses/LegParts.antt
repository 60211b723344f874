-- The columns of a leg that change with other times or other equipment.
use Rattle.std.specs.Prelude.{◌≡◌, ◌≤◌, ℕ, List, [], ◌∷◌}
use Rattle.ssim_values.specs.Clock.{clock_text}
use Rattle.ssim_columns.specs.Columns.{filled}
use Rattle.ssim_columns.specs.Leg.{leg_columns}
use Rattle.ssim_columns.specs.declared.leg.leg_parts.LegEquipment.{LegEquipment}
use Rattle.ssim_columns.specs.declared.leg.leg_parts.LegTimes.{LegTimes}
use Rattle.ssim_columns.specs.LegParts.{date_variations, EquipmentFields}

-- ---- times

-- each time is a time of day
pub record AreTimes (t : LegTimes) : Type 0 where
  pub passenger_departure : t.passenger_departure ≤ 1440
  pub aircraft_departure : t.aircraft_departure ≤ 1440
  pub aircraft_arrival : t.aircraft_arrival ≤ 1440
  pub passenger_arrival : t.passenger_arrival ≤ 1440

-- columns 40 to 47, 58 to 65, 193 and 194 have the times, and all others are as before
pub record ChangesTimes (t : LegTimes) (before after : List ℕ) : Type 0 where
  pub column_14 : leg_columns 14 14 after ≡ leg_columns 14 14 before
  pub columns_37_to_39 : leg_columns 37 39 after ≡ leg_columns 37 39 before
  pub passenger_departure : leg_columns 40 43 after ≡ clock_text t.passenger_departure
  pub aircraft_departure : leg_columns 44 47 after ≡ clock_text t.aircraft_departure
  pub columns_48_to_57 : leg_columns 48 57 after ≡ leg_columns 48 57 before
  pub aircraft_arrival : leg_columns 58 61 after ≡ clock_text t.aircraft_arrival
  pub passenger_arrival : leg_columns 62 65 after ≡ clock_text t.passenger_arrival
  pub columns_66_to_127 : leg_columns 66 127 after ≡ leg_columns 66 127 before
  pub columns_129_to_192 : leg_columns 129 192 after ≡ leg_columns 129 192 before
  pub date_variations : leg_columns 193 194 after ≡ date_variations t

-- ---- equipment

-- the equipment of a leg, with its texts as bytes
abbrev pub equipment_fields : LegEquipment → EquipmentFields
equipment_fields e = record {
  service_type = e.service_type;
  aircraft_type = e.aircraft_type;
  booking_designators = e.booking_designators.now;
  configuration = e.configuration.now;
}

-- columns 14, 73 to 95 and 173 to 192 have the equipment, and all others are as before
pub record ChangesEquipment (e : EquipmentFields) (before after : List ℕ) : Type 0 where
  pub service_type : leg_columns 14 14 after ≡ filled 1 (e.service_type ∷ [])
  pub columns_37_to_72 : leg_columns 37 72 after ≡ leg_columns 37 72 before
  pub aircraft_type : leg_columns 73 75 after ≡ filled 3 e.aircraft_type
  pub booking_designators : leg_columns 76 95 after ≡ filled 20 e.booking_designators
  pub columns_96_to_127 : leg_columns 96 127 after ≡ leg_columns 96 127 before
  pub columns_129_to_172 : leg_columns 129 172 after ≡ leg_columns 129 172 before
  pub configuration : leg_columns 173 192 after ≡ filled 20 e.configuration
  pub columns_193_to_194 : leg_columns 193 194 after ≡ leg_columns 193 194 before

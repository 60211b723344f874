-- A small data set, worked out by hand: its records, their fields, its frames, wrong bytes in it,
-- and changed columns.
use Rattle.std.specs.Prelude.{◌≡◌, ℕ, true, false, List, [], ◌∷◌, ◌++◌, codes, take, drop, Some}
use Rattle.ssim_columns.specs.declared.field.end_code.EndCode.TheVariants.{End}
use Rattle.ssim_records.specs.declared.fault.RecordFault.TheVariants.{BadType, BadColumn}
use Rattle.ssim_columns.specs.declared.leg.leg_parts.LegStations.{LegStations}
use Rattle.ssim_columns.specs.declared.leg.leg_parts.LegTimes.{LegTimes}
use Rattle.ssim_records.specs.declared.record.Record.{Record}
use Rattle.ssim_records.specs.declared.record.Record.TheVariants.{Header, Carrier, Leg, Trailer}
use Rattle.ssim_values.specs.declared.time_mode.TimeMode.TheVariants.{Utc}
use Rattle.ssim_columns.specs.Columns.{columns}
use Rattle.ssim_records.specs.Frames.{Frames, others}
use Rattle.ssim_records.specs.Header.{HeaderFields}
use Rattle.ssim_records.specs.Carrier.{CarrierFields}
use Rattle.ssim_columns.specs.Leg.{LegFields, own_columns}
use Rattle.ssim_columns.specs.LegParts.{EquipmentFields, new_leg, with_equipment, with_times}
use Rattle.ssim_records.specs.Trailer.{TrailerFields}
use Rattle.ssim_records.specs.Record.{Spells, fault_of, written}

-- the bytes spell the record and are its one written spelling
abbrev pub IsWorked : Record → List ℕ → Type 0
IsWorked r bytes = Spells r bytes × (written r ≡ bytes)

-- ---- the records

-- the bytes of the header
abbrev pub header_bytes : List ℕ
header_bytes = codes "1AIRLINE STANDARD SCHEDULE DATA SET     1                                                                                                                                                      001000001"

-- the header
abbrev pub the_header : HeaderFields
the_header = record { details = columns 36 194 header_bytes; serial = 1 }

-- the bytes of the carrier record
abbrev pub carrier_bytes : List ℕ
carrier_bytes = codes "2ULX      S25 30MAR2525OCT2501FEB25SUMMER 2025                  01FEB25                                                                                                                       0900000002"

-- the carrier record; 30MAR25 is day 9220, 25OCT25 day 9429, 01FEB25 day 9163
abbrev pub the_carrier : CarrierFields
the_carrier = record { time_mode = Utc; airline = codes "LX "; season = codes "     S25 "; first = 9220; last = Some 9429; created = 9163; details = columns 36 194 carrier_bytes; serial = 2 }

-- the bytes of a leg record
abbrev pub leg_bytes : List ℕ
leg_bytes = codes "3 LX 05440101J30MAR2525OCT251234567 ZRH05450545+0200  LHR07000700+0100  320CY                                                                                               C12Y138             00000003"

-- the leg record
abbrev pub the_leg : LegFields
the_leg = record { name = record { airline = codes "LX "; flight = record { number = 544; suffix = 32 }; variation = 1; sequence = 1 }; first = 9220; last = Some 9429; days = true ∷ true ∷ true ∷ true ∷ true ∷ true ∷ true ∷ []; rate = 32; columns = own_columns leg_bytes; overflow = 32; serial = 3 }

-- the bytes of the trailer
abbrev pub trailer_bytes : List ℕ
trailer_bytes = codes "5 LX 01FEB25                                                                                                                                                                               000003E000004"

-- the trailer
abbrev pub the_trailer : TrailerFields
the_trailer = record { spare = 32; airline = codes "LX "; release = columns 6 187 trailer_bytes; check = 3; code = End; serial = 4 }

-- the records, each followed by LF
abbrev pub data_set : List ℕ
data_set = header_bytes ++ 10 ∷ (carrier_bytes ++ 10 ∷ (leg_bytes ++ 10 ∷ (trailer_bytes ++ 10 ∷ [])))

-- ---- other columns of the leg

-- the stations ZRH and LHR with their UTC variations in summer
abbrev pub stations : LegStations
stations = record {
  departure = codes "ZRH";
  departure_variation = record { negative = false; minutes = 120 };
  arrival = codes "LHR";
  arrival_variation = record { negative = false; minutes = 60 };
}

-- the times 0545 to 0700
abbrev pub times : LegTimes
times = record {
  passenger_departure = 345;
  aircraft_departure = 345;
  aircraft_arrival = 420;
  passenger_arrival = 420;
  departure_date_variation = 0;
  arrival_date_variation = 0;
}

-- other times: passengers from 0600 to 0720, the aircraft from 0605 to 0715 on the next day
abbrev pub other_times : LegTimes
other_times = record {
  passenger_departure = 360;
  aircraft_departure = 365;
  aircraft_arrival = 435;
  passenger_arrival = 440;
  departure_date_variation = 0;
  arrival_date_variation = 1;
}

-- the equipment of the leg
abbrev pub equipment : EquipmentFields
equipment = record { service_type = 74; aircraft_type = codes "320"; booking_designators = codes "CY"; configuration = codes "C12Y138" }

-- other equipment: a service type C, and a DEL, which is written as a blank
abbrev pub other_equipment : EquipmentFields
other_equipment = record { service_type = 67; aircraft_type = codes "319"; booking_designators = codes "Y" ++ 127 ∷ []; configuration = codes "Y120" }

-- the leg record with other times
abbrev pub retimed_leg : List ℕ
retimed_leg = codes "3 LX 05440101J30MAR2525OCT251234567 ZRH06000605+0200  LHR07150720+0100  320CY                                                                                               C12Y138             01000003"

-- the leg record with other equipment
abbrev pub equipped_leg : List ℕ
equipped_leg = codes "3 LX 05440101C30MAR2525OCT251234567 ZRH05450545+0200  LHR07000700+0100  319Y                                                                                                Y120                00000003"

-- ---- what holds of them

-- the examples are read, written and changed as expected
pub record WorkedRecords : Type 0 where
  pub header : IsWorked (Header the_header) header_bytes
  pub carrier : IsWorked (Carrier the_carrier) carrier_bytes
  pub leg : IsWorked (Leg the_leg) leg_bytes
  pub trailer : IsWorked (Trailer the_trailer) trailer_bytes
  -- the frames of the data set are the four records
  pub framed : Frames 0 false data_set (header_bytes ∷ carrier_bytes ∷ leg_bytes ∷ trailer_bytes ∷ []) []
  pub numbered : others 0 (header_bytes ∷ carrier_bytes ∷ leg_bytes ∷ trailer_bytes ∷ []) ≡ (1, header_bytes) ∷ (2, carrier_bytes) ∷ (3, leg_bytes) ∷ (4, trailer_bytes) ∷ []
  -- the data set cut after 802 bytes ends within the last record
  pub cut : Frames 0 false (take 802 data_set) (header_bytes ∷ carrier_bytes ∷ leg_bytes ∷ []) (take 199 trailer_bytes)
  -- the departure station Z1H
  pub other_station : fault_of 3 (take 36 leg_bytes ++ codes "Z1H" ++ drop 39 leg_bytes) ≡ Some (BadColumn 3 37)
  -- an end before its start
  pub other_end : fault_of 3 (take 21 leg_bytes ++ codes "29MAR25" ++ drop 28 leg_bytes) ≡ Some (BadColumn 3 22)
  -- DEL in column 100, which is carried
  pub other_byte : fault_of 3 (take 99 leg_bytes ++ 127 ∷ drop 100 leg_bytes) ≡ Some (BadColumn 3 100)
  pub other_type : fault_of 3 (codes "6" ++ drop 1 leg_bytes) ≡ Some (BadType 3)
  pub new : new_leg stations times equipment ≡ own_columns leg_bytes
  pub retimed : with_times other_times (own_columns leg_bytes) ≡ own_columns retimed_leg
  pub equipped : with_equipment other_equipment (own_columns leg_bytes) ≡ own_columns equipped_leg

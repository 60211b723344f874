-- What lines are made of: values within their bounds.
use Rattle.std.specs.Prelude.{◌≡◌, ◌≤◌, ℕ, Bool, false, ◌&&◌, if◌then◌else◌, Option, Some, None}
use Rattle.std.specs.Prelude.{IsTrue, List, length, codes}
use Rattle.std.specs.Str.{bytes_eq}
use Rattle.ssim_values.specs.Station.{is_station}
use Rattle.ssim_text.specs.declared.leg.LegEnd.{LegEnd}
use Rattle.ssim_text.specs.declared.segment.SegmentLine.{SegmentLine}
use Rattle.ssim_text.specs.Values.{EquipmentValue}
use Rattle.ssim_text.specs.Bytes.{◌>>=◌, is_alphanumeric, is_text_of}
use Rattle.ssim_text.specs.Left.{IsTextLine}
use Rattle.ssim_text.specs.Lines.{aircraft_of, designators_of, service_of}

-- the configuration without a dot: up to 20 letters or digits
abbrev pub layout_of : List ℕ → Option (List ℕ)
layout_of text = if is_text_of is_alphanumeric 0 20 text then Some text else None

-- the equipment with these parts, if each is within its bounds
unfoldable pub equipment_with : List ℕ → List ℕ → List ℕ → List ℕ → Option EquipmentValue
equipment_with service aircraft designators configuration = do
  own_service ← service_of service
  own_aircraft ← aircraft_of aircraft
  letters ← designators_of designators
  layout ← layout_of configuration
  Some (record {
    service = own_service;
    aircraft = own_aircraft;
    designators = letters;
    configuration = layout;
  })

-- a station, times of day, and a date variation of at most 7
pub record IsEndBounded (e : LegEnd) : Type 0 where
  pub station : IsTrue (is_station e.station)
  pub time : e.time ≤ 1440
  pub variation : e.variation ≤ 7
  pub passenger : e.passenger ≤ 1440

-- both points are `QQQ`, which stands for all points
abbrev pub are_all_points : List ℕ → List ℕ → Bool
are_all_points board off = bytes_eq board (codes "QQQ") && bytes_eq off (codes "QQQ")

-- two stations that do not stand for all points, an identifier of up to three digits, and up to 155
-- bytes that can end a line
pub record IsSegmentWithin (s : SegmentLine) : Type 0 where
  pub board : IsTrue (is_station s.board)
  pub off : IsTrue (is_station s.off)
  pub points : are_all_points s.board s.off ≡ false
  pub identifier : s.identifier ≤ 999
  pub few : length s.text ≤ 155
  pub text : IsTextLine s.text

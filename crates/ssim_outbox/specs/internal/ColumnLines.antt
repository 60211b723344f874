-- The lines of messages that the columns of legs and tails have.
use Rattle.std.specs.Prelude.{◌≡◌, ℕ, ◌+◌, ◌%◌, if◌then◌else◌, List, [], ◌∷◌}
use Rattle.std.specs.List.{AllZip, flat_map}
use Rattle.ssim_values.specs.Clock.{clock_text}
use Rattle.ssim_columns.specs.Leg.{leg_columns}
use Rattle.ssim_columns.specs.Segment.{new_tail}
use Rattle.ssim_text.specs.Grammar.{IsLegLine, IsSegmentLine}
use Rattle.ssim_text.specs.Left.{without_end}
use Rattle.ssim_text.specs.Values.{EquipmentValue}
use Rattle.ssim_text.specs.declared.action.NewLegs.{NewLegs}
use Rattle.ssim_text.specs.declared.leg.LegLine.{LegLine}
use Rattle.ssim_text.specs.declared.segment.SegmentLine.{SegmentLine}
use Rattle.ssim_base.specs.Timetable.{Legs}
use Rattle.ssim_outbox.specs.Route.{same_times}

-- ---- leg lines

-- a line of a text can spell the leg line, and the columns of a leg have its stations, times and
-- date variations
pub record HasLine (line : LegLine) (d : List ℕ) : Type 0 where
  pub is_line : IsLegLine line
  pub departure : leg_columns 37 39 d ≡ line.departure.station
  pub passenger_departure : leg_columns 40 43 d ≡ clock_text line.departure.passenger
  pub aircraft_departure : leg_columns 44 47 d ≡ clock_text line.departure.time
  pub arrival : leg_columns 55 57 d ≡ line.arrival.station
  pub aircraft_arrival : leg_columns 58 61 d ≡ clock_text line.arrival.time
  pub passenger_arrival : leg_columns 62 65 d ≡ clock_text line.arrival.passenger
  pub variations : leg_columns 193 194 d
      ≡ (48 + line.departure.variation % 10) ∷ (48 + line.arrival.variation % 10) ∷ []

-- the columns of the legs whose times are not those of the old legs
abbrev pub retimed_columns : Legs → Legs → List (List ℕ)
retimed_columns [] new = []
retimed_columns (old ∷ olds) [] = []
retimed_columns (old ∷ olds) (new ∷ news) =
    if same_times old.columns new.columns then retimed_columns olds news
    else new.columns ∷ retimed_columns olds news

-- ---- equipment

-- the columns of a leg have this equipment
pub record HasEquipment (e : EquipmentValue) (d : List ℕ) : Type 0 where
  pub service : leg_columns 14 14 d ≡ e.service ∷ []
  pub aircraft : leg_columns 73 75 d ≡ e.aircraft
  pub designators : without_end (leg_columns 76 95 d) ≡ e.designators
  pub configuration : without_end (leg_columns 173 192 d) ≡ e.configuration

-- the first leg has this equipment
abbrev pub FirstHas : EquipmentValue → Legs → Type 0
FirstHas e [] = ⊥
FirstHas e (leg ∷ legs) = HasEquipment e leg.columns

-- ---- segment lines

-- a line of a text can spell the segment line, and the tail is what it gives, with some letters of
-- its points
pub record HasSegment (s : SegmentLine) (tail : List ℕ) : Type 0 where
  pub is_line : IsSegmentLine s
  pub points : List ℕ
  pub made : tail ≡ new_tail points s.identifier s.board s.off s.text

-- ---- new legs

-- the first leg has the equipment of the new legs, each leg the columns of its leg line, and the
-- tails of each leg are those of its segment lines, which are in the order of the legs
pub record HaveLines (new : NewLegs) (legs : Legs) : Type 0 where
  pub equipment : FirstHas new.equipment legs
  pub lines : AllZip (λ line leg. HasLine line leg.columns) new.legs legs
  pub segments : List (List SegmentLine)
  pub in_order : new.segments ≡ flat_map (λ own. own) segments
  pub tails : AllZip (λ own leg. AllZip HasSegment own leg.tails) segments legs

-- The three kinds of itinerary that messages can make of an itinerary on one date: none, a whole
-- new one, and the old one with other equipment and other times. Messages make no others, and `say`
-- returns actions for each of these.
use Rattle.std.specs.Prelude.{◌≡◌, ◌⊎◌, ◌↔◌, ℕ, List, [], map, length, Option, Some, None, IfSome}
use Rattle.std.specs.List.{AllByRecursion}
use Rattle.ssim_text.specs.Grammar.{IsEquipment, IsLegLine, IsNewLegs, IsSegmentLine}
use Rattle.ssim_text.specs.Values.{EquipmentValue}
use Rattle.ssim_text.specs.declared.action.NewLegs.{NewLegs}
use Rattle.ssim_text.specs.declared.leg.LegLine.{LegLine}
use Rattle.ssim_base.specs.Stations.{Row}
use Rattle.ssim_base.specs.Timetable.{Legs}
use Rattle.ssim_schedule.specs.Effect.{equipped, new_legs, variation_on, with_lines}
use Rattle.ssim_outbox.specs.Reach.{Reach}

-- new legs that NEW and RPL can have: the grammar allows them, and lines of a text can spell them
pub record AreNewLegs (new : NewLegs) : Type 0 where
  pub allowed : IsNewLegs new
  pub equipment : IsEquipment new.equipment
  pub legs : AllByRecursion IsLegLine new.legs
  pub segments : AllByRecursion IsSegmentLine new.segments

-- a whole new itinerary: the legs that NEW and RPL make, with the UTC variations of the day
pub record IsWhole (rows : List Row) (day : ℕ) (legs : Legs) : Type 0 where
  pub new : NewLegs
  pub are_new : AreNewLegs new
  pub made : new_legs (variation_on rows day) new ≡ Some legs

-- the legs with this equipment; the same legs if there is none
abbrev pub equipped_by : Option EquipmentValue → Legs → Legs
equipped_by None legs = legs
equipped_by (Some equipment) legs = map (equipped equipment) legs

-- the old itinerary with other equipment, or its own, and then with the times of leg lines, or none
pub record ArePartsOf (old new : Legs) : Type 0 where
  pub equipment : Option EquipmentValue
  pub is_equipment : IfSome equipment IsEquipment
  pub lines : List LegLine
  pub are_lines : AllByRecursion IsLegLine lines
  pub made : new ≡ with_lines lines (equipped_by equipment old)

-- one of the three kinds of itinerary
abbrev pub IsSayable : List Row → ℕ → Legs → Legs → Type 0
IsSayable rows day old new = (new ≡ []) ⊎ IsWhole rows day new ⊎ ArePartsOf old new

-- each leg has its 158 columns, as the legs of every `Itinerary` have
abbrev pub HaveColumns : Legs → Type 0
HaveColumns = AllByRecursion (λ leg. length leg.columns ≡ 158)

-- Messages make exactly these: some list of sub-messages makes the new itinerary of the old one if
-- and only if the new one is none, a whole new one, or the old one with other equipment and times.
abbrev pub MessagesReach : Type 0
MessagesReach =
    (rows : List Row) (day : ℕ) (old new : Legs) → HaveColumns old
    → Reach rows day old new ↔ IsSayable rows day old new

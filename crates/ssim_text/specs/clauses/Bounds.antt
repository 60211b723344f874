-- Which values a message has: what a caller may rely on who writes them into columns.
use Rattle.std.specs.Prelude.{◌≡◌, ℕ, ◌≤◌, true, List, length, IfSome}
use Rattle.std.specs.List.{AllByRecursion, list_all}
use Rattle.ssim_values.specs.Characters.{is_letter}
use Rattle.ssim_text.specs.declared.leg.LegLine.{LegLine}
use Rattle.ssim_text.specs.declared.segment.SegmentLine.{SegmentLine}
use Rattle.ssim_text.specs.declared.reference.GivenReference.{GivenReference}
use Rattle.ssim_text.specs.declared.action.NewLegs.{NewLegs}
use Rattle.ssim_text.specs.declared.action.Action.{Action}
use Rattle.ssim_text.specs.declared.action.Action.TheVariants as action
use Rattle.ssim_text.specs.declared.action.Sub.{Sub}
use Rattle.ssim_text.specs.Bytes.{is_alphanumeric, is_printable}
use Rattle.ssim_text.specs.Values.{EquipmentValue}

-- the date variations of a leg line are from 0 to 7
abbrev pub IsLegBounded : LegLine → Type 0
IsLegBounded leg = (leg.departure.variation ≤ 7) × (leg.arrival.variation ≤ 7)

-- a segment line has an identifier of at most three digits and a text of 1 to 155 printable bytes
pub record IsSegmentBounded (s : SegmentLine) : Type 0 where
  pub identifier : s.identifier ≤ 999
  pub some : 1 ≤ length s.text
  pub few : length s.text ≤ 155
  pub printable : list_all is_printable s.text ≡ true

-- An equipment line has a service type of one letter, an aircraft type of three letters or digits,
-- up to twenty booking designators, and a configuration of up to twenty letters or digits.
pub record IsEquipmentBounded (e : EquipmentValue) : Type 0 where
  pub service : is_letter e.service ≡ true
  pub aircraft_three : length e.aircraft ≡ 3
  pub aircraft : list_all is_alphanumeric e.aircraft ≡ true
  pub designators_few : length e.designators ≤ 20
  pub designators : list_all is_letter e.designators ≡ true
  pub configuration_few : length e.configuration ≤ 20
  pub configuration : list_all is_alphanumeric e.configuration ≡ true

-- the lines of new legs have values within their bounds
pub record AreNewLegsBounded (new : NewLegs) : Type 0 where
  pub equipment : IsEquipmentBounded new.equipment
  pub legs : AllByRecursion IsLegBounded new.legs
  pub segments : AllByRecursion IsSegmentBounded new.segments

-- the lines of an action have values within their bounds
abbrev pub IsActionBounded : Action → Type 0
IsActionBounded (action.New new) = AreNewLegsBounded new
IsActionBounded action.Cnl = Unit {0}
IsActionBounded (action.Rpl new) = AreNewLegsBounded new
IsActionBounded (action.Eqt equipment) = IsEquipmentBounded equipment
IsActionBounded (action.Tim legs) = AllByRecursion IsLegBounded legs

-- the lines of all sub-messages have values within their bounds
abbrev pub AreSubsBounded : List Sub → Type 0
AreSubsBounded = AllByRecursion (λ sub. IsActionBounded sub.action)

-- a creator reference has 1 to 35 printable bytes
pub record IsCreatorBounded (creator : List ℕ) : Type 0 where
  pub some : 1 ≤ length creator
  pub few : length creator ≤ 35
  pub printable : list_all is_printable creator ≡ true

-- a reference has a group of at most five digits, a serial of at most three, and a creator
-- reference within its bounds
pub record IsReferenceBounded (r : GivenReference) : Type 0 where
  pub group : r.group ≤ 99999
  pub serial : r.serial ≤ 999
  pub creator : IfSome r.creator IsCreatorBounded

-- each line of free text is printable
abbrev pub AreFreeLinesBounded : List (List ℕ) → Type 0
AreFreeLinesBounded = AllByRecursion (λ line. list_all is_printable line ≡ true)

-- What a sub-message does to a flight on one date.
use Rattle.std.specs.Prelude.{ℕ, ◌+◌, Bool, true, false, ◌&&◌, ◌||◌, nat_eq, if◌then◌else◌, List, [], ◌∷◌, map, Option, Some, None}
use Rattle.std.specs.Option.{option_map}
use Rattle.std.specs.Str.{bytes_eq}
use Rattle.ssim_values.specs.Variation.{Offset}
use Rattle.ssim_records.specs.Leg.{leg_columns}
use Rattle.ssim_text.specs.Values.{EquipmentValue}
use Rattle.ssim_text.specs.Grammar.{leg_pair}
use Rattle.ssim_text.specs.declared.leg.LegLine.{LegLine}
use Rattle.ssim_text.specs.declared.segment.SegmentLine.{SegmentLine}
use Rattle.ssim_text.specs.declared.action.NewLegs.{NewLegs}
use Rattle.ssim_text.specs.declared.action.Action.{Action}
use Rattle.ssim_text.specs.declared.action.Action.TheVariants.{New, Cnl, Rpl, Eqt, Tim}
use Rattle.ssim_schedule.specs.MessageColumns.{new_columns, segment_tail, with_equipment, with_times}
use Rattle.ssim_base.specs.Stations.{Row, variation_at}
use Rattle.ssim_base.specs.Timetable.{LegValue, Legs}
use Rattle.ssim_schedule.specs.declared.finding.Reason.{Reason}
use Rattle.ssim_schedule.specs.declared.finding.Reason.TheVariants.{Acted, Absent, Present, Leg, Station}

-- the legs that a flight has on one date after an action, and the reason
abbrev pub Outcome : Type 0
Outcome = Legs × Reason

-- the UTC variation of each station on one date
abbrev pub Variations : Type 0
Variations = List ℕ → Option Offset

-- ---- the new legs of NEW and RPL

-- the tail of a segment line, if its pair of points begins with leg line i, counted from 0
abbrev pub tail_at : ℕ → SegmentLine → Option (ℕ × ℕ) → Option (List ℕ)
tail_at i segment None = None
tail_at i segment (Some pair) =
    if nat_eq pair.0 i then Some (segment_tail pair.0 pair.1 segment) else None

-- the tail that a segment line gives the leg of leg line i, if any
abbrev pub tail_for : ℕ → List LegLine → SegmentLine → Option (List ℕ)
tail_for i lines segment = tail_at i segment (leg_pair segment.board segment.off 0 lines)

-- the tails after one more tail, if there is one
abbrev pub with_tail : Option (List ℕ) → List (List ℕ) → List (List ℕ)
with_tail None tails = tails
with_tail (Some tail) tails = tail ∷ tails

-- the tails of the leg of leg line i, in the order of the segment lines
abbrev pub tails_for : ℕ → List LegLine → List SegmentLine → List (List ℕ)
tails_for i lines [] = []
tails_for i lines (segment ∷ segments) =
    with_tail (tail_for i lines segment) (tails_for i lines segments)

-- the leg of leg line i, if its two stations have UTC variations
abbrev pub leg_at : Option Offset → Option Offset → ℕ → LegLine → NewLegs → Option LegValue
leg_at None there i line new = None
leg_at (Some here) None i line new = None
leg_at (Some here) (Some there) i line new =
    Some (record {
      sequence = i + 1;
      columns = new_columns here there line new.equipment;
      tails = tails_for i new.legs new.segments;
    })

-- a leg before the later legs, if all of them exist
abbrev pub joined : Option LegValue → Option Legs → Option Legs
joined None legs = None
joined (Some leg) legs = option_map (λ legs. leg ∷ legs) legs

-- the legs of the leg lines from line i on; None if a station has no variation
abbrev pub legs_from : Variations → NewLegs → ℕ → List LegLine → Option Legs
legs_from variation new i [] = Some []
legs_from variation new i (line ∷ lines) =
    joined (leg_at (variation line.departure.station) (variation line.arrival.station) i line new)
    (legs_from variation new (i + 1) lines)

-- the legs that new legs give; None if a station has no variation
abbrev pub new_legs : Variations → NewLegs → Option Legs
new_legs variation new = legs_from variation new 0 new.legs

-- ---- the legs of TIM

-- whether the leg departs and arrives at the stations of the leg line
abbrev pub fits : LegLine → LegValue → Bool
fits line leg =
    bytes_eq (leg_columns 37 39 leg.columns) line.departure.station
    && bytes_eq (leg_columns 55 57 leg.columns) line.arrival.station

-- the leg with the times of a leg line
abbrev pub retimed : LegLine → LegValue → LegValue
retimed line leg = record leg { columns = with_times line leg.columns }

-- the legs with the times of a leg line at the first leg that fits it
abbrev pub with_line : LegLine → Legs → Legs
with_line line [] = []
with_line line (leg ∷ legs) =
    if fits line leg then retimed line leg ∷ legs else leg ∷ with_line line legs

-- the legs with the times of all leg lines, one line after another
abbrev pub with_lines : List LegLine → Legs → Legs
with_lines [] legs = legs
with_lines (line ∷ lines) legs = with_lines lines (with_line line legs)

-- whether a leg fits the leg line
abbrev pub has_leg : Legs → LegLine → Bool
has_leg [] line = false
has_leg (leg ∷ legs) line = fits line leg || has_leg legs line

-- whether each leg line has a leg that fits it
abbrev pub have_legs : Legs → List LegLine → Bool
have_legs legs [] = true
have_legs legs (line ∷ lines) = has_leg legs line && have_legs legs lines

-- ---- the table of effects

-- the leg with this equipment
abbrev pub equipped : EquipmentValue → LegValue → LegValue
equipped equipment leg = record leg { columns = with_equipment equipment leg.columns }

-- the new legs if there are any; else the old ones, with the reason
abbrev pub act_or : Reason → Legs → Option Legs → Outcome
act_or reason old None = (old, reason)
act_or reason old (Some new) = (new, Acted)

-- NEW: the new legs if the flight does not fly, else the old ones
abbrev pub create : Option Legs → Legs → Outcome
create new [] = act_or Station [] new
create new (leg ∷ legs) = (leg ∷ legs, Present)

-- CNL: no legs
abbrev pub cancel : Legs → Outcome
cancel [] = ([], Absent)
cancel (leg ∷ legs) = ([], Acted)

-- RPL: the new legs if the flight flies
abbrev pub replace : Option Legs → Legs → Outcome
replace new [] = ([], Absent)
replace new (leg ∷ legs) = act_or Station (leg ∷ legs) new

-- EQT: each leg with the equipment, if the flight flies
abbrev pub equip : EquipmentValue → Legs → Outcome
equip equipment [] = ([], Absent)
equip equipment (leg ∷ legs) = (map (equipped equipment) (leg ∷ legs), Acted)

-- TIM: the legs with the times of the leg lines, if the flight flies and has such legs
abbrev pub retime : List LegLine → Legs → Outcome
retime lines [] = ([], Absent)
retime lines (leg ∷ legs) =
    if have_legs (leg ∷ legs) lines then (with_lines lines (leg ∷ legs), Acted)
    else (leg ∷ legs, Leg)

-- the outcome of an action, by the UTC variation of each station on the date
abbrev pub outcome : Variations → Action → Legs → Outcome
outcome variation (New new) old = create (new_legs variation new) old
outcome variation Cnl old = cancel old
outcome variation (Rpl new) old = replace (new_legs variation new) old
outcome variation (Eqt equipment) old = equip equipment old
outcome variation (Tim lines) old = retime lines old

-- the variation of a station on a day, by these rows
abbrev pub variation_on : List Row → ℕ → Variations
variation_on rows day station = variation_at rows station day

-- what the flight has on the day after the sub-message, and why
abbrev pub effect : List Row → Action → ℕ → Legs → Outcome
effect rows action day old = outcome (variation_on rows day) action old

-- the class in which a reason is counted
abbrev pub class_number : Reason → ℕ
class_number Acted = 0
class_number Absent = 1
class_number Present = 2
class_number Leg = 3
class_number Station = 4

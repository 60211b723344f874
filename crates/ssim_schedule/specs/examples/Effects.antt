-- Small examples of effects, checked by computation.
use Rattle.std.specs.Prelude.{◌≡◌, ℕ, true, false, List, [], ◌∷◌, ◌++◌, replicate, codes, refl}
use Rattle.std.specs.List.{concat}
use Rattle.ssim_values.specs.Period.{DayRange}
use Rattle.ssim_periods.specs.Calendar.{holds}
use Rattle.ssim_text.specs.Values.{EquipmentValue}
use Rattle.ssim_text.specs.declared.leg.LegEnd.{LegEnd}
use Rattle.ssim_text.specs.declared.leg.LegLine.{LegLine}
use Rattle.ssim_text.specs.declared.segment.SegmentLine.{SegmentLine}
use Rattle.ssim_text.specs.declared.action.NewLegs.{NewLegs}
use Rattle.ssim_text.specs.declared.action.Action.TheVariants.{New, Cnl, Rpl, Eqt, Tim}
use Rattle.ssim_schedule.specs.clauses.Acts.{acted_on}
use Rattle.ssim_schedule.specs.internal.ActionParts.{counts_by}
use Rattle.ssim_records.specs.LegParts.{new_leg, station_columns, with_equipment, with_times}
use Rattle.ssim_records.specs.Segment.{new_tail}
use Rattle.ssim_schedule.specs.Effect.{effect, tails_for}
use Rattle.ssim_base.specs.Stations.{Row}
use Rattle.ssim_base.specs.Timetable.{LegValue}
use Rattle.ssim_schedule.specs.declared.finding.Reason.TheVariants as reason

abbrev blanks : ℕ → List ℕ
blanks n = replicate n 32

-- a time in minutes, for aircraft and passengers, on the date of origin
abbrev end_at : List ℕ → ℕ → LegEnd
end_at station minutes = record { station = station; time = minutes; variation = 0; passenger = minutes }

abbrev line : List ℕ → ℕ → List ℕ → ℕ → LegLine
line board departure off arrival = record { departure = end_at board departure; arrival = end_at off arrival }

-- ZRH0545 LHR0700
abbrev zurich_london : LegLine
zurich_london = line (codes "ZRH") 345 (codes "LHR") 420

-- ZRH0600 LHR0715
abbrev later : LegLine
later = line (codes "ZRH") 360 (codes "LHR") 435

-- LHR0800 JFK1500
abbrev onward : LegLine
onward = line (codes "LHR") 480 (codes "JFK") 900

-- J 320 CY.C12Y138
abbrev airbus : EquipmentValue
airbus = record { service = 74; aircraft = codes "320"; designators = codes "CY"; configuration = codes "C12Y138" }

-- J 319 Y
abbrev smaller : EquipmentValue
smaller = record { service = 74; aircraft = codes "319"; designators = codes "Y"; configuration = [] }

abbrev new : NewLegs
new = record { equipment = airbus; legs = zurich_london ∷ []; segments = [] }

-- a row by its minutes
abbrev row : List ℕ → ℕ → ℕ → ℕ → Row
row station first last minutes = record { station = station; first = first; last = last; variation = record { negative = false; minutes = minutes } }

-- summer to 25OCT25, winter from 26OCT25 on
abbrev rows : List Row
rows = row (codes "ZRH") 9220 9429 120 ∷ row (codes "LHR") 9220 9429 60 ∷ row (codes "ZRH") 9430 9583 60 ∷ row (codes "LHR") 9430 9583 0 ∷ []

-- a leg of an A320 or the like, with no tails
abbrev leg_of : List ℕ → List ℕ → List ℕ → List ℕ → LegValue
leg_of board off equipment configuration = record {
  sequence = 1;
  columns = concat (codes "J" ∷ board ∷ blanks 2 ∷ off ∷ blanks 2 ∷ equipment ∷ blanks 76 ∷ configuration ∷ codes "00" ∷ []);
  tails = [];
}

abbrev summer : LegValue
summer = leg_of (codes "ZRH05450545+0200") (codes "LHR07000700+0100") (codes "320CY" ++ blanks 18) (codes "C12Y138" ++ blanks 13)

abbrev winter : LegValue
winter = leg_of (codes "ZRH05450545+0100") (codes "LHR07000700+0000") (codes "320CY" ++ blanks 18) (codes "C12Y138" ++ blanks 13)

-- ---- NEW and RPL

new_in_summer : effect rows (New new) 9313 [] ≡ (summer ∷ [], reason.Acted)
unfolding new_leg station_columns with_times with_equipment
new_in_summer = refl

new_in_autumn : effect rows (New new) 9430 [] ≡ (winter ∷ [], reason.Acted)
unfolding new_leg station_columns with_times with_equipment
new_in_autumn = refl

no_station : effect [] (New new) 9313 [] ≡ ([], reason.Station)
unfolding new_leg station_columns with_times with_equipment
no_station = refl

already_there : effect rows (New new) 9313 (summer ∷ []) ≡ (summer ∷ [], reason.Present)
unfolding new_leg station_columns with_times with_equipment
already_there = refl

replaced : effect rows (Rpl new) 9430 (summer ∷ []) ≡ (winter ∷ [], reason.Acted)
unfolding new_leg station_columns with_times with_equipment
replaced = refl

-- that the flight does not fly comes before the reason of a station
not_replaced : effect [] (Rpl new) 9430 [] ≡ ([], reason.Absent)
unfolding new_leg station_columns with_times with_equipment
not_replaced = refl

-- ---- CNL, EQT and TIM

cancelled : effect rows Cnl 9313 (summer ∷ []) ≡ ([], reason.Acted)
cancelled = refl

other_equipment : effect rows (Eqt smaller) 9313 (summer ∷ []) ≡ (leg_of (codes "ZRH05450545+0200") (codes "LHR07000700+0100") (codes "319Y" ++ blanks 19) (blanks 20) ∷ [], reason.Acted)
unfolding with_equipment
other_equipment = refl

-- the segment tails stay
other_times : effect rows (Tim (later ∷ [])) 9313 (record summer { tails = (9 ∷ []) ∷ [] } ∷ [])
    ≡ (record (leg_of (codes "ZRH06000600+0200") (codes "LHR07150715+0100") (codes "320CY" ++ blanks 18) (codes "C12Y138" ++ blanks 13)) { tails = (9 ∷ []) ∷ [] } ∷ [], reason.Acted)
unfolding with_times
other_times = refl

-- the second of two leg lines names a leg that is missing: neither line acts
missing_leg : effect rows (Tim (later ∷ onward ∷ [])) 9313 (summer ∷ []) ≡ (summer ∷ [], reason.Leg)
unfolding with_times
missing_leg = refl

-- two leg lines name one leg: the second counts
two_for_one_leg : effect rows (Tim (later ∷ zurich_london ∷ [])) 9313 (summer ∷ []) ≡ (summer ∷ [], reason.Acted)
unfolding with_times
two_for_one_leg = refl

-- ---- segment lines

abbrev segment : List ℕ → List ℕ → ℕ → List ℕ → SegmentLine
segment board off identifier text = record { board = board; off = off; identifier = identifier; text = text }

-- out and back: the pair of points from Zurich to Zurich begins with the first leg and ends with
-- the second
abbrev out_and_back : List LegLine
out_and_back = zurich_london ∷ line (codes "LHR") 480 (codes "ZRH") 645 ∷ []

abbrev segments : List SegmentLine
segments = segment (codes "ZRH") (codes "LHR") 99 (codes "VIA TERMINAL 2") ∷ segment (codes "LHR") (codes "ZRH") 10 (codes "LX") ∷ segment (codes "ZRH") (codes "ZRH") 109 (codes "M") ∷ []

first_tails : tails_for 0 out_and_back segments ≡ (blanks 13 ++ codes "AB099ZRHLHRVIA TERMINAL 2" ++ blanks 141) ∷ (blanks 13 ++ codes "AC109ZRHZRHM" ++ blanks 154) ∷ []
unfolding new_tail
first_tails = refl

second_tails : tails_for 1 out_and_back segments ≡ (blanks 13 ++ codes "BC010LHRZRHLX" ++ blanks 153) ∷ []
unfolding new_tail
second_tails = refl

-- ---- dates

-- days 0 to 2 without the Sunday, day 1: Saturday and Monday
abbrev period : DayRange
period = record { first = 0; last = 2; days = true ∷ true ∷ true ∷ true ∷ true ∷ true ∷ false ∷ [] }

cancelled_days : acted_on rows Cnl period ((summer ∷ []) ∷ (summer ∷ []) ∷ [] ∷ (summer ∷ []) ∷ []) ≡ [] ∷ (summer ∷ []) ∷ [] ∷ (summer ∷ []) ∷ []
cancelled_days = refl

counted_days : counts_by rows Cnl (holds period) ((summer ∷ []) ∷ (summer ∷ []) ∷ [] ∷ (summer ∷ []) ∷ []) ≡ 1 ∷ 1 ∷ 0 ∷ 0 ∷ 0 ∷ []
counted_days = refl

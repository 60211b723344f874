-- Small examples of what sub-messages make of a date, checked by computation.
use Rattle.std.specs.Prelude.{◌≡◌, ℕ, false, List, [], ◌∷◌, ◌++◌, replicate, codes, refl, Some}
use Rattle.std.specs.List.{concat}
use Rattle.ssim_records.specs.LegParts.{new_leg, station_columns, with_equipment, with_times}
use Rattle.ssim_text.specs.Values.{EquipmentValue}
use Rattle.ssim_text.specs.declared.leg.LegEnd.{LegEnd}
use Rattle.ssim_text.specs.declared.leg.LegLine.{LegLine}
use Rattle.ssim_text.specs.declared.action.NewLegs.{NewLegs}
use Rattle.ssim_text.specs.declared.action.Action.TheVariants.{New, Cnl, Rpl, Eqt, Tim}
use Rattle.ssim_base.specs.Stations.{Row}
use Rattle.ssim_base.specs.Timetable.{Legs}
use Rattle.ssim_schedule.specs.Effect.{with_lines}
use Rattle.ssim_outbox.specs.Reach.{after_all}
use Rattle.ssim_outbox.specs.Sayable.{equipped_by}

abbrev blanks : ℕ → List ℕ
blanks n = replicate n 32

-- a time in minutes, for aircraft and passengers, on the date of origin
abbrev end_at : List ℕ → ℕ → LegEnd
end_at station minutes =
    record { station = station; time = minutes; variation = 0; passenger = minutes }

abbrev line : List ℕ → ℕ → List ℕ → ℕ → LegLine
line board departure off arrival =
    record { departure = end_at board departure; arrival = end_at off arrival }

-- ZRH0545 LHR0700
abbrev early : LegLine
early = line (codes "ZRH") 345 (codes "LHR") 420

-- ZRH0600 LHR0715
abbrev pub later : LegLine
later = line (codes "ZRH") 360 (codes "LHR") 435

-- equipment of service type J without a configuration
abbrev equipment : List ℕ → List ℕ → EquipmentValue
equipment aircraft designators = record {
  service = 74;
  aircraft = aircraft;
  designators = designators;
  configuration = [];
}

-- J 320 CY
abbrev larger : EquipmentValue
larger = equipment (codes "320") (codes "CY")

-- J 319 Y
abbrev pub smaller : EquipmentValue
smaller = equipment (codes "319") (codes "Y")

-- a leg from Zurich to London with these lines
abbrev new : LegLine → EquipmentValue → NewLegs
new leg_line carried =
    record { equipment = carried; legs = leg_line ∷ []; segments = [] }

abbrev row : List ℕ → ℕ → Row
row station minutes = record {
  station = station;
  first = 9220;
  last = 9429;
  variation = record { negative = false; minutes = minutes };
}

-- the variations of summer 2025
abbrev pub rows : List Row
rows = row (codes "ZRH") 120 ∷ row (codes "LHR") 60 ∷ []

-- an itinerary of one leg of service type J, with these columns, and a terminal at Zurich
abbrev flown : List ℕ → List ℕ → List ℕ → List ℕ → Legs
flown board terminal off aircraft = record {
  sequence = 1;
  columns = concat (codes "J"
      ∷ board
      ∷ terminal
      ∷ off
      ∷ blanks 2
      ∷ aircraft
      ∷ blanks 96
      ∷ codes "00"
      ∷ []);
  tails = [];
} ∷ []

-- ZRH0545 LHR0700 by a 320 from this terminal
abbrev before : List ℕ → Legs
before terminal =
    flown (codes "ZRH05450545+0200") terminal (codes "LHR07000700+0100")
    (codes "320CY" ++ blanks 18)

-- ZRH0600 LHR0715 by a 319 from this terminal
abbrev pub changed : List ℕ → Legs
changed terminal =
    flown (codes "ZRH06000600+0200") terminal (codes "LHR07150715+0100")
    (codes "319Y" ++ blanks 19)

abbrev pub with_terminal : Legs
with_terminal = before (codes "1 ")

-- no sub-message
nothing_said : after_all rows 9313 [] with_terminal ≡ with_terminal
nothing_said = refl

-- EQT and TIM, which keep the terminal
equipment_and_times : after_all rows 9313 (Eqt smaller ∷ Tim (later ∷ []) ∷ []) with_terminal
    ≡ changed (codes "1 ")
unfolding with_times with_equipment
equipment_and_times = refl

-- the same in the other order
times_and_equipment : after_all rows 9313 (Tim (later ∷ []) ∷ Eqt smaller ∷ []) with_terminal
    ≡ changed (codes "1 ")
unfolding with_times with_equipment
times_and_equipment = refl

-- EQT and TIM on what the same TIM has left, as of a desk that holds both and one that holds TIM
said_again : after_all rows 9313 (Eqt smaller ∷ Tim (later ∷ []) ∷ [])
    (after_all rows 9313 (Tim (later ∷ []) ∷ []) with_terminal)
    ≡ changed (codes "1 ")
unfolding with_times with_equipment
said_again = refl

-- EQT and TIM on what CNL has left, which a desk with these two does not hold
said_of_none : after_all rows 9313 (Eqt smaller ∷ Tim (later ∷ []) ∷ [])
    (after_all rows 9313 (Cnl ∷ []) with_terminal)
    ≡ []
said_of_none = refl

-- RPL, which takes the terminal away
replaced : after_all rows 9313 (Rpl (new later smaller) ∷ []) with_terminal ≡ changed (blanks 2)
unfolding new_leg station_columns with_times with_equipment
replaced = refl

-- CNL and NEW, and then EQT and TIM: as if NEW had had this equipment and these times at once
by_detour : after_all rows 9313
    (Cnl ∷ New (new early larger) ∷ Eqt smaller ∷ Tim (later ∷ []) ∷ []) with_terminal
    ≡ changed (blanks 2)
unfolding new_leg station_columns with_times with_equipment
by_detour = refl

-- without rows of its stations NEW makes nothing
no_rows : after_all [] 9313 (Cnl ∷ New (new early larger) ∷ []) with_terminal ≡ []
unfolding new_leg station_columns with_times with_equipment
no_rows = refl

-- the old itinerary with other equipment and times
other_parts : with_lines (later ∷ []) (equipped_by (Some smaller) with_terminal)
    ≡ changed (codes "1 ")
unfolding with_times with_equipment
other_parts = refl

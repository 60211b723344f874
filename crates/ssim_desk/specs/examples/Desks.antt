-- Small examples of desks, checked by computation.
use Rattle.std.specs.Prelude.{◌≡◌, ℕ, true, false, None, List, [], ◌∷◌, ◌++◌, replicate, codes, refl}
use Rattle.std.specs.List.{concat}
use Rattle.ssim_periods.specs.Calendar.{day_count}
use Rattle.ssim_records.specs.LegParts.{new_leg, station_columns, with_equipment, with_times}
use Rattle.ssim_base.specs.BaseSeen.{BaseSeen}
use Rattle.ssim_base.specs.Stations.{Row}
use Rattle.ssim_base.specs.Timetable.{LegValue}
use Rattle.ssim_base.specs.declared.sub_message.ResolvedSub.{ResolvedSub}
use Rattle.ssim_text.specs.Message.{begun, with_sub}
use Rattle.ssim_text.specs.Values.{EquipmentValue, no_originator}
use Rattle.ssim_text.specs.declared.action.Action.{Action}
use Rattle.ssim_text.specs.declared.action.Action.TheVariants.{New, Cnl, Eqt}
use Rattle.ssim_text.specs.declared.action.NewLegs.{NewLegs}
use Rattle.ssim_text.specs.declared.action.Sub.{Sub}
use Rattle.ssim_text.specs.declared.dates.Dates.TheVariants.{Date}
use Rattle.ssim_text.specs.declared.dates.GivenDate.TheVariants.{Full}
use Rattle.ssim_text.specs.declared.kind.ActionIdentifier.TheVariants as identifier
use Rattle.ssim_text.specs.declared.kind.Kind.{Kind}
use Rattle.ssim_text.specs.declared.kind.Kind.TheVariants.{Ssm}
use Rattle.ssim_values.specs.declared.time_mode.TimeMode.TheVariants.{Utc}
use Rattle.ssim_text.specs.declared.leg.LegEnd.{LegEnd}
use Rattle.ssim_text.specs.declared.reference.GroupCode.TheVariants.{End}
use Rattle.ssim_text.specs.declared.reference.Reference.{Reference}
use Rattle.ssim_values.specs.Flight.{FlightNumber}
use Rattle.ssim_held.specs.Entries.{Entry}
use Rattle.ssim_desk.specs.Meaning.{Timetable, after_subs}
use Rattle.ssim_desk.specs.Desk.{finding_lines}
use Rattle.ssim_desk.specs.clauses.Desk.{is_desk_point, is_flight_named, point_bound}

-- ---- meaning

abbrev reference : ℕ → ℕ → Kind → List ℕ → Reference
reference date group kind originator =
    record { date = date; group = group; serial = 1; kind = kind; originator = originator }

abbrev lx600 : FlightNumber
lx600 = record { number = 600; suffix = 32 }

-- a sub-message for LX600 on 01JUL25
abbrev sub : Action → Sub
sub action =
    record {
      designator = record { airline = codes "LX "; flight = lx600 };
      dates = Date (Full 9313);
      action = action;
    }

abbrev dated : ResolvedSub
dated =
    record {
      flight = lx600;
      period = record {
        first = 9313;
        last = 9313;
        days = true ∷ true ∷ true ∷ true ∷ true ∷ true ∷ true ∷ [];
      };
    }

abbrev end_at : List ℕ → ℕ → LegEnd
end_at station minutes =
    record { station = station; time = minutes; variation = 0; passenger = minutes }

-- J 320 CY.C12Y138, ZRH0545 LHR0700
abbrev new : NewLegs
new =
    record {
      equipment = record {
        service = 74;
        aircraft = codes "320";
        designators = codes "CY";
        configuration = codes "C12Y138";
      };
      legs = record {
        departure = end_at (codes "ZRH") 345;
        arrival = end_at (codes "LHR") 420;
      } ∷ [];
      segments = [];
    }

-- J 319 CY and J 320 CY
abbrev equipment : List ℕ → EquipmentValue
equipment aircraft =
    record { service = 74; aircraft = aircraft; designators = codes "CY"; configuration = [] }

abbrev row : List ℕ → ℕ → Row
row station minutes =
    record {
      station = station;
      first = 9220;
      last = 9429;
      variation = record { negative = false; minutes = minutes };
    }

abbrev rows : List Row
rows = row (codes "ZRH") 120 ∷ row (codes "LHR") 60 ∷ []

abbrev blanks : ℕ → List ℕ
blanks n = replicate n 32

-- a leg of this aircraft type and this configuration
abbrev leg : List ℕ → List ℕ → LegValue
leg aircraft configuration = record {
  sequence = 1;
  columns =
      concat (codes "JZRH05450545+0200" ∷ blanks 2 ∷ codes "LHR07000700+0100" ∷ blanks 2 ∷ aircraft
      ∷ codes "CY" ∷ blanks 94 ∷ configuration ∷ codes "00" ∷ []);
  tails = [];
}

abbrev by_airbus : LegValue
by_airbus = leg (codes "320") (codes "C12Y138" ++ blanks 13)

-- no flight flies before
abbrev nothing : Timetable
nothing flight day = []

-- what one sub-message leaves
abbrev after : Action → Timetable → Timetable
after action = after_subs rows (sub action ∷ []) (dated ∷ [])

-- NEW of 01MAY25 and CNL of 01JUN25, in their order: the flight is cancelled
late_message_comes_first : after Cnl (after (New new) nothing) lx600 9313 ≡ []
late_message_comes_first = refl

-- in the order in which they came the flight would fly
arrival_does_not_count : after (New new) (after Cnl nothing) lx600 9313 ≡ by_airbus ∷ []
unfolding new_leg station_columns with_times with_equipment
arrival_does_not_count = refl

-- the next day, and any other flight, is not changed
other_date : after (New new) nothing lx600 9314 ≡ []
unfolding new_leg station_columns with_times with_equipment
other_date = refl

other_flight : after (New new) nothing (record { number = 600; suffix = 65 }) 9313 ≡ []
unfolding new_leg station_columns with_times with_equipment
other_flight = refl

-- of two equipment changes the later by reference stays
year_of_a_reference : after (Eqt (equipment (codes "319")))
    (after (Eqt (equipment (codes "320"))) (after (New new) nothing)) lx600 9313 ≡ leg (codes "319")
    (blanks 20) ∷ []
unfolding new_leg station_columns with_times with_equipment
year_of_a_reference = refl

-- a text's own sub-messages act in their order
in_one_text : after_subs rows (sub (New new) ∷ sub Cnl ∷ []) (dated ∷ dated ∷ []) nothing lx600 9313
    ≡ []
in_one_text = refl

-- ---- cuts

-- a desk over this base that holds the one message that names LX600 on 01JUL25
abbrev over : BaseSeen
over = record { records = []; rows = row (codes "ZRH") 120 ∷ [] }

abbrev holding : List Entry
holding = record {
  reference = reference 9252 1 Ssm no_originator;
  message = begun no_originator Ssm Utc
      (record { date = record { month = 5; day = 1 }; group = 1; code = End; serial = 1; creator = None });
  dates = dated ∷ [];
} ∷ []

-- the date, the day after it, and the ends of the station row 30MAR25 25OCT25 are points, and no
-- other day of that time
first_day : is_desk_point over holding lx600 9313 ≡ true
first_day = refl

day_after : is_desk_point over holding lx600 9314 ≡ true
day_after = refl

day_before : is_desk_point over holding lx600 9312 ≡ false
day_before = refl

row_ends : is_desk_point over holding lx600 9430 ≡ true
row_ends = refl

-- no message names LX600A, so the ends of the row are no points of it
no_row_end : is_desk_point over holding (record { number = 600; suffix = 65 }) 9430 ≡ false
no_row_end = refl

named : is_flight_named (record { base = over; held = holding; applied = 1 }) lx600 ≡ true
named = refl

not_named : is_flight_named (record { base = over; held = holding; applied = 1 })
    (record { number = 600; suffix = 65 }) ≡ false
not_named = refl

-- there are at most four cuts; of another flight at most two
of_the_flight : point_bound over holding lx600 ≡ 4
of_the_flight = refl

of_another_flight : point_bound over holding (record { number = 600; suffix = 65 }) ≡ 2
of_another_flight = refl

-- ---- findings

-- a desk over the same base that holds one message: CNL of LX600 on 01JUL25, which does not fly
abbrev cancelled : Entry
cancelled = record {
  reference = reference 9252 1 Ssm no_originator;
  message = with_sub (begun no_originator Ssm Utc (record {
    date = record { month = 5; day = 1 };
    group = 1;
    code = End;
    serial = 1;
    creator = None;
  })) (sub Cnl);
  dates = dated ∷ [];
}

-- the one line of this desk says that the flight was absent on the one date
one_line : finding_lines (record { base = over; held = cancelled ∷ []; applied = 1 })
    ≡ record {
      reference = reference 9252 1 Ssm no_originator;
      sub = 1;
      action = identifier.Cnl;
      designator = record { airline = codes "LX "; flight = lx600 };
      finding = record { acted = 0; absent = 1; present = 0; leg = 0; station = 0 };
    } ∷ []
unfolding day_count
one_line = refl

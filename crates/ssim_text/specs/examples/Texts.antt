-- Ten texts worked out by hand, and the messages that they spell.
use Rattle.std.specs.Prelude.{◌≡◌, ℕ, Bool, true, false, Some, None, List, [], ◌∷◌, ◌++◌, codes}
use Rattle.std.specs.List.{flat_map}
use Rattle.ssim_text.specs.declared.kind.Kind.{Kind}
use Rattle.ssim_text.specs.declared.kind.Kind.TheVariants.{Ssm, Asm}
use Rattle.ssim_values.specs.declared.time_mode.TimeMode.TheVariants.{Utc, Local}
use Rattle.ssim_text.specs.declared.reference.GroupCode.TheVariants.{End}
use Rattle.ssim_text.specs.declared.reference.GivenReference.{GivenReference}
use Rattle.ssim_text.specs.declared.dates.GivenDate.{GivenDate}
use Rattle.ssim_text.specs.declared.dates.GivenDate.TheVariants.{Full, Yearless}
use Rattle.ssim_text.specs.declared.dates.GivenEnd.TheVariants.{Until}
use Rattle.ssim_text.specs.declared.dates.Dates.{Dates}
use Rattle.ssim_text.specs.declared.dates.Dates.TheVariants.{Period, Date}
use Rattle.ssim_text.specs.declared.leg.LegLine.{LegLine}
use Rattle.ssim_text.specs.declared.action.Action.{Action}
use Rattle.ssim_text.specs.declared.action.Action.TheVariants as action
use Rattle.ssim_values.specs.declared.designator.Designator.{Designator}
use Rattle.ssim_text.specs.Values.{EquipmentValue, no_originator}
use Rattle.ssim_text.specs.Message.{MessageValue}
use Rattle.ssim_text.specs.Canonical.{canonical}
use Rattle.ssim_text.specs.Spelling.{SpellsMessage}

-- the text of lines, each followed by LF
abbrev pub text_of : List (List ℕ) → List ℕ
text_of = flat_map (λ line. line ++ 10 ∷ [])

-- the lines spell the message and are its canonical text
pub record IsWorked (m : MessageValue) (lines : List (List ℕ)) : Type 0 where
  pub spells : SpellsMessage m (text_of lines)
  pub written : canonical m ≡ text_of lines

-- ---- values

-- a reference with message serial 1 that ends its group
abbrev pub reference : ℕ → ℕ → ℕ → GivenReference
reference day month group =
    record {
      date = record { month = month; day = day };
      group = group;
      code = End;
      serial = 1;
      creator = None;
    }

-- a designator of the airline LX
abbrev pub swiss : ℕ → Designator
swiss number = record { airline = codes "LX "; flight = record { number = number; suffix = 32 } }

-- the period from a first to a last date on some weekdays
abbrev pub on_days : GivenDate → GivenDate → List Bool → Dates
on_days first last days = Period (record { first = first; last = Until last; days = days })

-- Monday alone
abbrev pub mondays : List Bool
mondays = true ∷ false ∷ false ∷ false ∷ false ∷ false ∷ false ∷ []

-- Tuesday alone
abbrev pub tuesdays : List Bool
tuesdays = false ∷ true ∷ false ∷ false ∷ false ∷ false ∷ false ∷ []

-- Wednesday alone
abbrev pub wednesdays : List Bool
wednesdays = false ∷ false ∷ true ∷ false ∷ false ∷ false ∷ false ∷ []

-- a message with one sub-message
abbrev pub one_sub : List ℕ → Kind → GivenReference → Designator → Dates → Action → MessageValue
one_sub originator kind reference designator dates action = record {
  originator = originator;
  kind = kind;
  mode = Utc;
  reference = reference;
  subs = record { designator = designator; dates = dates; action = action } ∷ [];
  free = [];
}

-- equipment with service type J
abbrev pub equipment : ℕ → ℕ → ℕ → List ℕ → List ℕ → EquipmentValue
equipment a b c designators configuration =
    record {
      service = 74;
      aircraft = a ∷ b ∷ c ∷ [];
      designators = designators;
      configuration = configuration;
    }

-- a leg line without date variations and without passenger times of its own
abbrev pub leg : List ℕ → ℕ → List ℕ → ℕ → LegLine
leg from departs to arrives = record {
  departure = record { station = from; time = departs; variation = 0; passenger = departs };
  arrival = record { station = to; time = arrives; variation = 0; passenger = arrives };
}

-- ---- messages and their lines

-- one Tuesday is cancelled
abbrev pub week_cancelled : MessageValue
week_cancelled = one_sub no_originator Ssm (reference 1 6 1) (swiss 544)
    (on_days (Full 9313) (Full 9319) tuesdays) action.Cnl

-- the lines of `week_cancelled`
abbrev pub week_cancelled_lines : List (List ℕ)
week_cancelled_lines = codes "SSM" ∷ codes "UTC" ∷ codes "01JUN00001E001" ∷ codes "CNL" ∷ codes "LX544"
    ∷ codes "01JUL25 07JUL25 2" ∷ []

-- all Wednesdays of a season are cancelled
abbrev pub season_cancelled : MessageValue
season_cancelled = one_sub no_originator Ssm (reference 1 6 2) (swiss 544)
    (on_days (Full 9220) (Full 9429) wednesdays) action.Cnl

-- the lines of `season_cancelled`
abbrev pub season_cancelled_lines : List (List ℕ)
season_cancelled_lines = codes "SSM" ∷ codes "UTC" ∷ codes "01JUN00002E001" ∷ codes "CNL" ∷ codes "LX544"
    ∷ codes "30MAR25 25OCT25 3" ∷ []

-- the Mondays of a month have other times
abbrev pub retimed : MessageValue
retimed = one_sub no_originator Ssm (reference 1 6 3) (swiss 544) (on_days (Full 9313) (Full 9343) mondays)
    (action.Tim (leg (codes "ZRH") 360 (codes "LHR") 435 ∷ []))

-- the lines of `retimed`
abbrev pub retimed_lines : List (List ℕ)
retimed_lines = codes "SSM" ∷ codes "UTC" ∷ codes "01JUN00003E001" ∷ codes "TIM" ∷ codes "LX544"
    ∷ codes "01JUL25 31JUL25 1" ∷ codes "ZRH0600 LHR0715" ∷ []

-- one date is operated again
abbrev pub put_back : MessageValue
put_back = one_sub no_originator Ssm (reference 1 6 5) (swiss 544) (on_days (Full 9313) (Full 9313) tuesdays)
    (action.New (record {
      equipment = equipment 51 50 48 (codes "CY") (codes "C12Y138");
      legs = leg (codes "ZRH") 345 (codes "LHR") 420 ∷ [];
      segments = [];
    }))

-- the lines of `put_back`
abbrev pub put_back_lines : List (List ℕ)
put_back_lines = codes "SSM" ∷ codes "UTC" ∷ codes "01JUN00005E001" ∷ codes "NEW" ∷ codes "LX544"
    ∷ codes "01JUL25 01JUL25 2" ∷ codes "J 320 CY.C12Y138" ∷ codes "ZRH0545 LHR0700" ∷ []

-- one date has other equipment
abbrev pub other_equipment : MessageValue
other_equipment = one_sub no_originator Ssm (reference 1 1 1) (swiss 544)
    (on_days (Full 9501) (Full 9501) mondays) (action.Eqt (equipment 51 49 57 (codes "CY") []))

-- the lines of `other_equipment`
abbrev pub other_equipment_lines : List (List ℕ)
other_equipment_lines = codes "SSM" ∷ codes "UTC" ∷ codes "01JAN00001E001" ∷ codes "EQT" ∷ codes "LX544"
    ∷ codes "05JAN26 05JAN26 1" ∷ codes "J 319 CY" ∷ []

-- 29 February without a year
abbrev pub leap_day : GivenDate
leap_day = Yearless (record { month = 2; day = 29 })

-- one leap day is cancelled
abbrev pub leap_day_cancelled : MessageValue
leap_day_cancelled =
    one_sub no_originator Ssm (reference 1 11 1) (swiss 544) (on_days leap_day leap_day tuesdays) action.Cnl

-- the lines of `leap_day_cancelled`
abbrev pub leap_day_cancelled_lines : List (List ℕ)
leap_day_cancelled_lines = codes "SSM" ∷ codes "UTC" ∷ codes "01NOV00001E001" ∷ codes "CNL" ∷ codes "LX544"
    ∷ codes "29FEB 29FEB 2" ∷ []

-- an ASM for one date
abbrev pub one_date : MessageValue
one_date =
    one_sub no_originator Asm (reference 1 6 2) (swiss 544) (Date (Yearless (record { month = 7; day = 1 })))
    (action.New (record {
      equipment = equipment 51 50 48 (codes "CY") [];
      legs = leg (codes "ZRH") 345 (codes "LHR") 420 ∷ [];
      segments = [];
    }))

-- the lines of `one_date`
abbrev pub one_date_lines : List (List ℕ)
one_date_lines = codes "ASM" ∷ codes "UTC" ∷ codes "01JUN00002E001" ∷ codes "NEW" ∷ codes "LX544/01JUL"
    ∷ codes "J 320 CY" ∷ codes "ZRH0545 LHR0700" ∷ []

-- an ASM in local time with a creator reference, a passenger time and free text
abbrev pub every_part : MessageValue
every_part = record {
  originator = no_originator;
  kind = Asm;
  mode = Local;
  reference = record {
    date = record { month = 5; day = 23 };
    group = 144;
    code = End;
    serial = 3;
    creator = Some (codes "REF 123");
  };
  subs = record {
    designator = record { airline = codes "SWR"; flight = record { number = 7; suffix = 65 } };
    dates = Date (Yearless (record { month = 7; day = 1 }));
    action = action.Rpl (record {
      equipment = equipment 51 50 48 [] (codes "C12Y138");
      legs = record {
        departure = record { station = codes "ZRH"; time = 1430; variation = 0; passenger = 1430 };
        arrival = record { station = codes "LHR"; time = 20; variation = 1; passenger = 25 };
      }
          ∷ [];
      segments = [];
    });
  }
      ∷ [];
  free = codes "SI FREE TEXT" ∷ [];
}

-- the lines of `every_part`
abbrev pub every_part_lines : List (List ℕ)
every_part_lines =
    codes "ASM" ∷ codes "LT" ∷ codes "23MAY00144E003/REF 123" ∷ codes "RPL" ∷ codes "SWR007A/01JUL"
    ∷ codes "J 320 .C12Y138" ∷ codes "ZRH2350 LHR0020/1/0025"
    ∷ codes "//" ∷ codes "SI FREE TEXT" ∷ []

-- a message with an originator
abbrev pub originated : MessageValue
originated = one_sub (codes "AAAAAAA") Ssm (reference 1 6 1) (swiss 544)
    (on_days (Full 9313) (Full 9313) tuesdays) (action.Eqt (equipment 51 49 57 (codes "CY") []))

-- the lines of `originated`
abbrev pub originated_lines : List (List ℕ)
originated_lines = codes ".AAAAAAA" ∷ codes "SSM" ∷ codes "UTC" ∷ codes "01JUN00001E001" ∷ codes "EQT"
    ∷ codes "LX544" ∷ codes "01JUL25 01JUL25 2" ∷ codes "J 319 CY" ∷ []

-- a message with segment lines
abbrev pub with_segments : MessageValue
with_segments =
    one_sub no_originator Ssm (reference 1 6 10) (swiss 700) (on_days (Full 9313) (Full 9313) tuesdays)
    (action.New (record {
      equipment = equipment 51 50 48 (codes "CY") [];
      legs = leg (codes "ZRH") 345 (codes "LHR") 420 ∷ leg (codes "LHR") 480 (codes "ZRH") 645 ∷ [];
      segments =
          record { board = codes "ZRH"; off = codes "LHR"; identifier = 99; text = codes "VIA TERMINAL 2" }
          ∷ record { board = codes "LHR"; off = codes "ZRH"; identifier = 10; text = codes "LX" }
          ∷ record { board = codes "ZRH"; off = codes "ZRH"; identifier = 109; text = codes "M" }
          ∷ [];
    }))

-- the lines of `with_segments`
abbrev pub with_segments_lines : List (List ℕ)
with_segments_lines =
    codes "SSM" ∷ codes "UTC" ∷ codes "01JUN00010E001" ∷ codes "NEW" ∷ codes "LX700"
    ∷ codes "01JUL25 01JUL25 2" ∷ codes "J 320 CY"
    ∷ codes "ZRH0545 LHR0700" ∷ codes "LHR0800 ZRH1045" ∷ codes "ZRHLHR 99/VIA TERMINAL 2"
    ∷ codes "LHRZRH 10/LX" ∷ codes "ZRHZRH 109/M" ∷ []

-- the lines of each example spell its message
pub record WorkedTexts : Type 0 where
  pub week_cancelled : IsWorked week_cancelled week_cancelled_lines
  pub season_cancelled : IsWorked season_cancelled season_cancelled_lines
  pub retimed : IsWorked retimed retimed_lines
  pub put_back : IsWorked put_back put_back_lines
  pub other_equipment : IsWorked other_equipment other_equipment_lines
  pub leap_day_cancelled : IsWorked leap_day_cancelled leap_day_cancelled_lines
  pub one_date : IsWorked one_date one_date_lines
  pub every_part : IsWorked every_part every_part_lines
  pub originated : IsWorked originated originated_lines
  pub with_segments : IsWorked with_segments with_segments_lines

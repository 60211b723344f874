-- The keys of rows, and that no two rows of a table have one key. A key is of the values of a row
-- before they are text. The name of the timetable is left out: all rows of a script have the same.
use Rattle.std.specs.Prelude.{◌≢◌, ℕ, List, [], ◌∷◌, map}
use Rattle.std.specs.List.{AllByRecursion, enumerate_from, flat_map}
use Rattle.ssim_values.specs.Flight.{FlightNumber}
use Rattle.ssim_base.specs.ReadBack.{IsTimetable}
use Rattle.ssim_base.specs.Stations.{Row}
use Rattle.ssim_base.specs.Timetable.{days_of}
use Rattle.ssim_base.specs.declared.sub_message.ResolvedSub.{ResolvedSub}
use Rattle.ssim_schedule.specs.FlightPieces.{divided_flights}
use Rattle.ssim_text.specs.declared.reference.Reference.{Reference}
use Rattle.ssim_held.specs.Entries.{AreRising, DeskSeen, Entry}
use Rattle.ssim_desk.specs.Desk.{days_of_desk, finding_lines}
use Rattle.ssim_desk.specs.declared.finding_line.FindingLine.{FindingLine}
use Rattle.ssim_sql.specs.ChangeRows.{SideLeg, change_legs}
use Rattle.ssim_sql.specs.LegRows.{FlightLeg, flight_legs}
use Rattle.ssim_sql.specs.Messages.{subs_found}
use Rattle.ssim_sql.specs.Script.{changes_of}

-- no two values of a list are equal: the first is none of the others, and no two of these are equal
abbrev pub AreDistinct : {K : Type 0} → List K → Type 0
AreDistinct [] = Unit {0}
AreDistinct (k ∷ keys) = AllByRecursion (λ other. k ≢ other) keys × AreDistinct keys

-- ---- keys

-- a flight, the first day of a period, and a leg sequence
abbrev pub LegKey : Type 0
LegKey = FlightNumber × ℕ × ℕ

-- the key of a row of `leg`
abbrev pub leg_key : FlightLeg → LegKey
leg_key it = (it.flight, it.period.first, it.leg.sequence)

-- the keys of the rows of `segment` that a leg has: its own, each with a place from 1 on
abbrev pub segment_keys : FlightLeg → List (LegKey × ℕ)
segment_keys it = map (λ tail. (leg_key it, tail.0)) (enumerate_from 1 it.leg.tails)

-- the key of a row of `station_row`: its place
abbrev pub station_key : ℕ × Row → ℕ
station_key it = it.0

-- the key of a row of `message`: its reference
abbrev pub message_key : ℕ × Entry → Reference
message_key it = it.1.reference

-- the key of a row of `sub_message`: the reference and the number of the sub-message
abbrev pub sub_key : ResolvedSub × FindingLine → Reference × ℕ
sub_key it = (it.1.reference, it.1.sub)

-- the key of a row of `change`: that of the leg, and the side
abbrev pub change_key : SideLeg → LegKey × List ℕ
change_key it = (leg_key it.leg, it.side)

-- ---- law

-- no two rows of a table of a desk's script have one key
pub record HaveKeys (desk : DeskSeen) : Type 0 where
  pub legs : AreDistinct (map leg_key (flight_legs (divided_flights (days_of_desk desk))))
  pub segments :
      AreDistinct (flat_map segment_keys (flight_legs (divided_flights (days_of_desk desk))))
  pub stations : AreDistinct (map station_key (enumerate_from 1 desk.base.rows))
  pub messages : AreDistinct (map message_key (enumerate_from 1 desk.held))
  pub subs : AreDistinct (map sub_key (subs_found desk.held (finding_lines desk)))
  pub changes : AreDistinct (map change_key (change_legs (changes_of desk)))

-- The law of keys: no key refuses a script. The messages of the desk are in order of reference. In
-- the timetable of its data set and in its own the legs of a date rise by leg sequence, as those of
-- each schedule do.
abbrev pub NoKeyTwice : Type 0
NoKeyTwice =
    (desk : DeskSeen) → AreRising desk.held → IsTimetable (days_of desk.base.records)
    → IsTimetable (days_of_desk desk) → HaveKeys desk

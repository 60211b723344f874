-- What contracts see of a desk, what its calls leave, and where the dates of its flights are
-- divided.
use Rattle.std.specs.Prelude.{◌≡◌, ℕ, ◌+◌, ◌*◌, ◌≤◌, Bool, ◌&&◌, ◌||◌, nat_eq, IsTrue, List}
use Rattle.std.specs.Prelude.{length, take, slice_get, Contains, None}
use Rattle.std.specs.Prelude.{Some, Result, Ok, Err}
use Rattle.std.specs.{FinMap.get, List.{count_by, flat_map, list_any}}
use Rattle.ssim_base.specs.BaseSeen.{BaseSeen, is_leg_of}
use Rattle.ssim_records.specs.Device.{Writer}
use Rattle.ssim_base.specs.Sinks.{Breaks, Grows}
use Rattle.ssim_base.specs.Stations.{Row}
use Rattle.ssim_base.specs.Timetable.{same_flight}
use Rattle.ssim_base.specs.Export as exported
use Rattle.ssim_schedule.specs.clauses.DivisionPoints.{is_point}
use Rattle.ssim_schedule.specs.clauses.Schedule.{Flown}
use Rattle.ssim_schedule.specs.declared.export.ExportFault.{ExportFault}
use Rattle.ssim_schedule.specs.declared.export.ExportFault.TheVariants as export
use Rattle.ssim_base.specs.{declared.sub_message.ResolvedSub.ResolvedSub}
use Rattle.ssim_values.specs.Flight.{FlightNumber}
use Rattle.ssim_held.specs.Entries.{DeskSeen, Entry, map_of}
use Rattle.ssim_held.specs.Held.{DeskState}
use Rattle.ssim_held.specs.declared.fault.DeskFault.{DeskFault}
use Rattle.ssim_desk.specs.Meaning.{Exports}
use Rattle.ssim_desk.specs.declared.steps.Answer.{Answer}
use Rattle.ssim_desk.specs.declared.steps.Answer.TheVariants.{Merged, Refused}

-- what contracts see of a desk that keeps its timetable: what they see of any desk, and its latest
-- schedule, which has the itineraries and cuts of each flight
pub record ScheduledDesk : Type 0 where
  pub seen : DeskSeen
  pub schedule : Flown

-- the `Answer` for a result of `merge`
abbrev pub merge_answer : Result (Unit {0}) DeskFault → Answer
merge_answer (Ok done) = Merged
merge_answer (Err fault) = Refused fault

-- A change inserts messages; n messages come after the first new one. From n + 1 to n + 32 messages
-- are applied.
pub record IsReplayed (old new : DeskSeen) : Type 0 where
  pub at : ℕ  -- the position of the first new message
  pub n : ℕ
  pub first : Entry
  pub is_there : slice_get new.held at ≡ Some first
  pub is_new : get (map_of old.held) first.reference ≡ None
  pub before : take at new.held ≡ take at old.held
  pub after : at + 1 + n ≡ length new.held
  pub at_least : n + 1 ≤ new.applied
  pub at_most : new.applied ≤ n + 32

-- no message is applied, and nothing else changes
abbrev pub at_rest : DeskSeen → DeskSeen
at_rest desk = record desk { applied = 0 }

-- ---- what a desk shows

-- What an export of a desk leaves. The sink has taken the bytes of the desk's export; or the desk's
-- export is this refusal, 50 or 51; or the sink failed, and has taken a prefix of the bytes of the
-- desk's export; or memory ran out.
abbrev pub WritesDesk : DeskState → Writer → Writer → Result (Unit {0}) ExportFault → Type 0
WritesDesk desk old new (Ok x) = (bytes : List ℕ) × Exports desk (Ok bytes) × Grows bytes old new
WritesDesk desk old new (Err (export.Variations flight)) =
    Exports desk (Err (exported.Variations flight))
WritesDesk desk old new (Err export.Records) = Exports desk (Err exported.Records)
WritesDesk desk old new (Err export.WriteFault) =
    (bytes : List ℕ) × Exports desk (Ok bytes) × Breaks bytes old new
WritesDesk desk old new (Err export.Memory) = Unit {0}

-- ---- cuts: the days at which the dates of a flight are divided

-- the sub-messages of messages, each with its flight and its full dates
abbrev pub subs_of : List Entry → List ResolvedSub
subs_of entries = flat_map (λ e. e.dates) entries

-- whether the sub-message names the flight
abbrev pub is_sub_of : FlightNumber → ResolvedSub → Bool
is_sub_of flight sub = same_flight sub.flight flight

-- whether the day is the first of a station row, or the day after its last
abbrev pub is_row_point : ℕ → Row → Bool
is_row_point day row = nat_eq day row.first || nat_eq day (row.last + 1)

-- whether the sub-message names the flight, and the day is the first of its period or of a station
-- row, or the day after the last of one of these
abbrev pub is_sub_point : List Row → FlightNumber → ℕ → ResolvedSub → Bool
is_sub_point rows flight day sub =
    is_sub_of flight sub
    && ((nat_eq day sub.period.first || nat_eq day (sub.period.last + 1))
    || list_any (is_row_point day) rows)

-- whether the day is a division point of the flight: of a leg record, or of a sub-message that
-- names it
abbrev pub is_desk_point : BaseSeen → List Entry → FlightNumber → ℕ → Bool
is_desk_point base entries flight day =
    list_any (is_point flight day) base.records
    || list_any (is_sub_point base.rows flight day) (subs_of entries)

-- each cut is a division point of the flight
abbrev pub AreDeskPoints : BaseSeen → List Entry → FlightNumber → List ℕ → Type 0
AreDeskPoints base entries flight cuts =
    (cut : ℕ) → Contains cuts cut → IsTrue (is_desk_point base entries flight cut)

-- the most division points: two for each leg record of the flight, each sub-message that names it,
-- and each station row
abbrev pub point_bound : BaseSeen → List Entry → FlightNumber → ℕ
point_bound base entries flight =
    2 * (count_by (is_leg_of flight) base.records + count_by (is_sub_of flight) (subs_of entries)
    + length base.rows)

-- whether a leg record of the base, or a sub-message that is held, names the flight
abbrev pub is_flight_named : DeskSeen → FlightNumber → Bool
is_flight_named desk flight =
    list_any (is_leg_of flight) desk.base.records || list_any (is_sub_of flight) (subs_of desk.held)

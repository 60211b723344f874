-- What a text or a merge changes in the messages that are held, and the schedules after them.
use Rattle.std.specs.Prelude.{◌≡◌, ◌⊎◌, ℕ, ◌+◌, ◌*◌, ◌/◌, ◌%◌, ◌≤◌, List, ◌∷◌, ◌++◌, length, take, map}
use Rattle.std.specs.Prelude.{slice_get, Bool, true, ◌&&◌, nat_le, Contains, IsTrue, IfSome}
use Rattle.std.specs.Prelude.{Option, None, Some}
use Rattle.std.specs.FinMap.{get}
use Rattle.std.specs.Prelude.{Vec, vec_capacity, vec_len}
use Rattle.std.specs.List.{flat_map, list_any}
use Rattle.ssim_periods.specs.Days.{each_day}
use Rattle.ssim_base.specs.{BaseSeen.BaseSeen, Stations.Row, Timetable.is_among}
use Rattle.ssim_schedule.specs.clauses.Schedule.{Flown, cuts_in, days_in}
use Rattle.ssim_base.specs.declared.sub_message.ResolvedSub.{ResolvedSub}
use Rattle.ssim_text.specs.Message.{MessageValue}
use Rattle.ssim_values.specs.Flight.{FlightNumber, IsFlight}
use Rattle.ssim_held.specs.Held.{DeskState, Holds, Says}
use Rattle.ssim_held.specs.Entries.{AreEntries, DeskSeen, Entry, IsEntry, map_of, state_of}
use Rattle.ssim_held.specs.clauses.Ordered.{Belongs}
use Rattle.ssim_desk.specs.clauses.Desk.{AreDeskPoints, is_sub_point}
use Rattle.ssim_desk.specs.Meaning.{Timetable, left_by}
use Rattle.ssim_desk.specs.{Steps.IsUnion, declared.schedules.Schedules.Schedules}
use Rattle.ssim_desk.specs.declared.offer.Offer.{Offer}
use Rattle.ssim_desk.specs.declared.offer.Offer.TheVariants.{Known, New}
use Rattle.ssim_desk.specs.declared.replay.Replay.{Replay}

-- ---- a text that is offered

-- the place of a message among the held ones: it is held, or it is new and belongs at a position
abbrev pub IsOffer : DeskState → List Entry → List ℕ → Offer → Type 0
IsOffer desk held text (Known reference) =
    (message : MessageValue) × Says desk.base text reference message × Holds desk reference message
IsOffer desk held text (New at e) =
    Belongs held e.reference at at × IsEntry desk.base.records e
    × Says desk.base text e.reference e.message

-- ---- another desk

-- what a merge brings: the messages from a position on, the first of which is new
pub record MergeBrings (mine theirs : DeskSeen) (at : ℕ) (rest : List Entry) : Type 0 where
  pub within : at ≤ length mine.held
  pub entries : AreEntries mine.base.records (take at mine.held ++ rest)
  pub union : IsUnion (state_of mine) (state_of theirs) (map_of (take at mine.held ++ rest))
  pub first : Entry
  pub others : List Entry
  pub begins : rest ≡ first ∷ others
  pub is_new : get (map_of mine.held) first.reference ≡ None

-- what a merge changes: nothing, as each message of the other is held; or it brings messages
abbrev pub IsChange : {A : Type 0} → DeskSeen → DeskSeen → Option (ℕ × Vec Entry A) → Type 0
IsChange mine theirs None = IsUnion (state_of mine) (state_of theirs) (map_of mine.held)
IsChange mine theirs (Some change) = MergeBrings mine theirs change.0 change.1.items

-- ---- the schedules of a desk: that after every 32 messages, and the latest one

-- the schedule has this timetable
abbrev pub Shows : Flown → Timetable → Type 0
Shows schedule timetable =
    (g : FlightNumber) → IsFlight g → days_in schedule g ≡ each_day (timetable g)

-- the timetables agree at each of these flights
abbrev pub AgreeAt : List FlightNumber → Timetable → Timetable → Type 0
AgreeAt flights one other = (g : FlightNumber) → is_among flights g ≡ true → one g ≡ other g

-- the timetables agree on each day from a first date to a last
abbrev pub AgreeFrom : ℕ → ℕ → Timetable → Timetable → Type 0
AgreeFrom first last one other =
    (g : FlightNumber) (day : ℕ) → first ≤ day → day ≤ last → one g day ≡ other g day

-- whether the period of a sub-message reaches into the dates from a first to a last
abbrev pub reaches : ℕ → ℕ → ResolvedSub → Bool
reaches first last sub = nat_le first sub.period.last && nat_le sub.period.first last

-- the flights of the sub-messages of messages
abbrev pub flights_of : List Entry → List FlightNumber
flights_of entries = flat_map (λ e. map (λ sub. sub.flight) e.dates) entries

-- a flight's new cuts are old ones, or division points of those sub-messages that name it
abbrev pub AddsSubPoints : List Row → List ResolvedSub → FlightNumber → List ℕ → List ℕ → Type 0
AddsSubPoints rows subs flight old new =
    (cut : ℕ) → Contains new cut
    → Contains old cut ⊎ IsTrue (list_any (is_sub_point rows flight cut) subs)

-- the schedule is the base's after these messages
pub record IsAfter (base : BaseSeen) (entries : List Entry) (schedule : Flown) : Type 0 where
  pub shows : Shows schedule (left_by base entries)
  pub cuts : (flight : FlightNumber) → IsFlight flight
      → AreDeskPoints base entries flight (cuts_in schedule flight)

-- the checkpoints from number `first` on: checkpoint k is the schedule after 32 * k messages
pub record AreCheckpoints (base : BaseSeen) (entries : List Entry) (first : ℕ)
    (checkpoints : List Flown) : Type 0 where
  pub count : first + length checkpoints ≡ length entries / 32 + 1
  pub each : (k : ℕ)
      → IfSome (slice_get checkpoints k) (IsAfter base (take (32 * (first + k)) entries))

-- the schedules of a base and messages
pub record AreSchedules (base : BaseSeen) (entries : List Entry)
    (schedules : Schedules) : Type 0 where
  pub latest_is : IsAfter base entries schedules.latest
  pub kept : AreCheckpoints base entries 0 schedules.checkpoints.items

-- what follows the first messages: the latest schedule and the checkpoints
pub record IsReplay (base : BaseSeen) (entries : List Entry) (replay : Replay) : Type 0 where
  pub within : replay.from ≤ length entries
  pub latest_is : IsAfter base entries replay.latest
  pub kept : AreCheckpoints base entries (replay.from / 32 + 1) replay.checkpoints.items
  pub since_is : replay.since ≡ length entries % 32

-- the list has room for what follows
abbrev pub HasRoom : Schedules → Replay → Type 0
HasRoom schedules replay =
    vec_len schedules.checkpoints + vec_len replay.checkpoints ≤ vec_capacity schedules.checkpoints

-- The messages from a position on are replaced. The new ones were applied, and fewer than 32 before
-- them; only the new ones if all messages are replaced.
pub record IsReplaced (old : DeskSeen) (at : ℕ) (rest : List Entry) (new : DeskSeen) : Type 0 where
  pub base : new.base ≡ old.base
  pub held : new.held ≡ take at old.held ++ rest
  pub at_least : length rest ≤ new.applied
  pub at_most : new.applied ≤ length rest + 31
  pub whole : at ≡ 0 → new.applied ≡ length rest

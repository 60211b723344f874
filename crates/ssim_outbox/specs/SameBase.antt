-- Two desks over one base, where the second holds all that the first holds: nothing is left unsaid.
use Rattle.std.specs.Prelude.{◌≡◌, ℕ, ◌<◌, [], All}
use Rattle.ssim_values.specs.Flight.{FlightNumber, IsFlight}
use Rattle.ssim_periods.specs.Calendar.{day_count}
use Rattle.ssim_base.specs.BaseSeen.{WasRead}
use Rattle.ssim_base.specs.ReadBack.{HaveSameItineraries}
use Rattle.ssim_base.specs.Timetable.{Days, on_day}
use Rattle.ssim_text.specs.Message.{MessageValue}
use Rattle.ssim_text.specs.declared.reference.Reference.{Reference}
use Rattle.ssim_held.specs.Entries.{AreEntries, DeskSeen, state_of}
use Rattle.ssim_held.specs.Held.{Holds}
use Rattle.ssim_desk.specs.Desk.{days_of_desk}
use Rattle.ssim_difference.specs.Differences.{differences}
use Rattle.ssim_outbox.specs.Published.{IsPublished}
use Rattle.ssim_outbox.specs.Reach.{Reach}
use Rattle.ssim_outbox.specs.Messages.{IsText}

-- The desk `to` has the base of the desk `from`, and holds each message that `from` holds, under
-- the same reference. It may hold more messages, with references before, between and after these.
pub record HoldsAllOf (from to : DeskSeen) : Type 0 where
  pub base : to.base ≡ from.base
  pub holds : (reference : Reference) (message : MessageValue)
      → Holds (state_of from) reference message → Holds (state_of to) reference message
  -- what is always true of desks: the base was read, the messages are in order of reference, with
  -- the dates that the base gives, and a text can have each of them
  pub was_read : WasRead from.base.records
  pub from_entries : AreEntries from.base.records from.held
  pub to_entries : AreEntries to.base.records to.held
  pub texts : All (λ e. IsText e.message) to.held

-- If `to` holds all that `from` holds, then some list of sub-messages makes, on each date of each
-- flight, the itinerary of `to` of the itinerary of `from`.
abbrev pub AllIsReached : Type 0
AllIsReached =
    (from to : DeskSeen) → HoldsAllOf from to
    → (flight : FlightNumber) (day : ℕ) → IsFlight flight → day < day_count
    → Reach from.base.rows day (on_day (days_of_desk from flight) day)
    (on_day (days_of_desk to flight) day)

-- So what messages make of the timetable of `from`, on the way to the timetable of `to`, differs
-- from the latter on no date. The old and the new timetable are any that have the itineraries of
-- the desks.
abbrev pub NothingIsUnsaid : Type 0
NothingIsUnsaid =
    (from to : DeskSeen) (old new after : FlightNumber → Days) → HoldsAllOf from to
    → HaveSameItineraries old (days_of_desk from) → HaveSameItineraries new (days_of_desk to)
    → IsPublished from.base.rows old new after
    → differences after new ≡ []

-- Messages that are addressed to a desk, before they are made.
use Rattle.std.specs.Prelude.{◌≡◌, ◌⊎◌, ℕ, ◌<◌, List}
use Rattle.std.specs.List.{AllByRecursion}
use Rattle.ssim_values.specs.Flight.{FlightNumber, IsFlight}
use Rattle.ssim_periods.specs.Calendar.{day_count}
use Rattle.ssim_records.specs.Carrier.{CarrierFields}
use Rattle.ssim_base.specs.Resolve.{HasNone, Resolves}
use Rattle.ssim_base.specs.Timetable.{Days, on_day}
use Rattle.ssim_base.specs.declared.resolution.ResolveFault.{ResolveFault}
use Rattle.ssim_base.specs.declared.resolution.ResolveFault.TheVariants as resolve
use Rattle.ssim_base.specs.declared.resolution.ResolvedText.{ResolvedText}
use Rattle.ssim_difference.specs.Differences.{Compared, differences}
use Rattle.ssim_text.specs.Message.{MessageValue}
use Rattle.ssim_text.specs.declared.action.Sub.{Sub}
use Rattle.ssim_text.specs.declared.reference.Reference.{Reference}
use Rattle.ssim_held.specs.Entries.{DeskSeen}
use Rattle.ssim_desk.specs.Desk.{days_of_desk}
use Rattle.ssim_outbox.specs.Reach.{IsSaid}
use Rattle.ssim_outbox.specs.declared.planned_sub.PlannedSub.{PlannedSub}
use Rattle.ssim_outbox.specs.Messages.{Send}
use Rattle.ssim_outbox.specs.Order.{Follows}
use Rattle.ssim_outbox.specs.Publication.{IsPlan, BeginAt}
use Rattle.ssim_outbox.specs.declared.fault.OutboxFault.{OutboxFault}
use Rattle.ssim_outbox.specs.declared.fault.OutboxFault.TheVariants as fault

-- the message resolves by the carrier record, and this is its reference
pub record HasReference (carrier : CarrierFields) (m : MessageValue)
    (reference : Reference) : Type 0 where
  pub text : ResolvedText
  pub resolves : Resolves carrier m text
  pub reference_is : reference ≡ text.reference

-- the fault of a heading that does not resolve, of which only the date can be refused
abbrev pub date_refused : ResolveFault → OutboxFault
date_refused resolve.Memory = fault.Memory
date_refused resolve.TimeMode = fault.Date
date_refused (resolve.Airline n) = fault.Date
date_refused (resolve.NoSuchDate n) = fault.Date
date_refused (resolve.Period n) = fault.Date

-- why a message has no reference: memory ran out, or its date means no day
abbrev pub RefusesDate : CarrierFields → MessageValue → OutboxFault → Type 0
RefusesDate carrier m refusal =
    (refusal ≡ fault.Memory)
    ⊎ ((refusal ≡ fault.Date) × HasNone carrier.created m.reference.date)

-- The word names the heading of messages to the first desk, whose first reference follows all that
-- the desk holds.
pub record IsAddressed (from to : DeskSeen) (word : List ℕ) (heading : MessageValue)
    (reference : Reference)
    : Type 0 where
  pub named : BeginAt from to word heading reference
  pub has : HasReference named.named.comparable.carriers.mine.carrier heading reference
  pub follows : Follows reference from.held

-- the sub-messages are a plan between two desks, each of a flight that exists and of an action that
-- a text can have, and these are the dates that they leave unsaid
pub record HasPlan (from to : DeskSeen) (subs : List PlannedSub)
    (unsaid : List Compared) : Type 0 where
  pub after : FlightNumber → Days
  pub is_plan : IsPlan from.base.rows (days_of_desk from) (days_of_desk to) subs after
  pub said : AllByRecursion (λ sub. IsSaid sub.action) subs
  pub unsaid_is : unsaid ≡ differences after (days_of_desk to)

-- why no messages are made: memory ran out, or none send the sub-messages
abbrev pub RefusesMessages : MessageValue → List Sub → OutboxFault → Type 0
RefusesMessages heading subs refusal =
    (refusal ≡ fault.Memory)
    ⊎ ((refusal ≡ fault.References)
    × ((messages : List MessageValue) → Send heading heading.reference.group subs messages → ⊥))

-- two timetables agree on each date of each flight
abbrev pub Agree : (FlightNumber → Days) → (FlightNumber → Days) → Type 0
Agree one other = (flight : FlightNumber) (day : ℕ) → IsFlight flight → day < day_count
    → on_day (one flight) day ≡ on_day (other flight) day

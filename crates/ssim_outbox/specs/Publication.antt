-- What is published: the messages that lead the timetable of one desk towards another desk's, and
-- the lines that say which.
use Rattle.std.specs.Prelude.{◌≡◌, ℕ, List, ◌++◌, codes, length, map}
use Rattle.std.specs.Fmt.{decimal}
use Rattle.std.specs.List.{AllByRecursion, flat_map}
use Rattle.ssim_values.specs.Flight.{FlightNumber}
use Rattle.ssim_records.specs.Carrier.{CarrierFields}
use Rattle.ssim_base.specs.Base.{airline_of}
use Rattle.ssim_base.specs.Export.{line}
use Rattle.ssim_base.specs.Resolve.{HasNone, IsNext}
use Rattle.ssim_base.specs.Stations.{Row}
use Rattle.ssim_base.specs.Timetable.{Days}
use Rattle.ssim_base.specs.declared.sub_message.ResolvedSub.{ResolvedSub}
use Rattle.ssim_text.specs.Message.{MessageValue}
use Rattle.ssim_text.specs.Reference.{printed_reference}
use Rattle.ssim_text.specs.declared.action.Sub.{Sub}
use Rattle.ssim_text.specs.declared.reference.Reference.{Reference}
use Rattle.ssim_held.specs.Entries.{DeskSeen}
use Rattle.ssim_desk.specs.Desk.{days_of_desk}
use Rattle.ssim_difference.specs.Differences.{date_count}
use Rattle.ssim_outbox.specs.Acting.{ActOnTheirDates}
use Rattle.ssim_outbox.specs.Published.{IsPublished, Leave, NamesDifferences}
use Rattle.ssim_outbox.specs.Unsaid.{unsaid_lines}
use Rattle.ssim_outbox.specs.declared.planned_sub.PlannedSub.{PlannedSub}
use Rattle.ssim_outbox.specs.Comparable.{AreComparable, AreOfOtherAirlines, AreOfOtherModes}
use Rattle.ssim_outbox.specs.DatedSub.{dated}
use Rattle.ssim_outbox.specs.Delivery.{AreDelivered, CanDeliver}
use Rattle.ssim_outbox.specs.Heading.{NamesHeading}
use Rattle.ssim_outbox.specs.MailFile.{mail_file}
use Rattle.ssim_outbox.specs.Messages.{Send}
use Rattle.ssim_outbox.specs.Order.{Follows, RefusesOrder}
use Rattle.ssim_outbox.specs.PlanOrder.{ComeInOrder, DoNotOverlap}
use Rattle.ssim_outbox.specs.declared.fault.OutboxFault.{OutboxFault}
use Rattle.ssim_outbox.specs.declared.fault.OutboxFault.TheVariants as fault

-- ---- the heading

-- The bases of the desks can be compared, and the word names the heading, in the time mode of the
-- first desk.
pub record IsHeading (from to : DeskSeen) (word : List ℕ) (heading : MessageValue) : Type 0 where
  pub comparable : AreComparable from.base.records to.base.records
  pub names : NamesHeading comparable.carriers.mine.carrier.time_mode word heading

-- The reference of the first message, with its year: its date is the next such date from the day on
-- which the data set was made.
pub record IsFirstReference (carrier : CarrierFields) (heading : MessageValue)
    (reference : Reference)
    : Type 0 where
  pub date : IsNext carrier.created heading.reference.date reference.date
  pub group : reference.group ≡ heading.reference.group
  pub serial : reference.serial ≡ heading.reference.serial
  pub kind : reference.kind ≡ heading.kind
  pub originator : reference.originator ≡ heading.originator

-- the messages under the heading that the word names begin at this reference
pub record BeginAt (from to : DeskSeen) (word : List ℕ) (heading : MessageValue)
    (reference : Reference) : Type 0 where
  pub named : IsHeading from to word heading
  pub means : IsFirstReference named.comparable.carriers.mine.carrier heading reference

-- ---- the sub-messages

-- The sub-messages lead the old timetable towards the new one, and `after` is what they leave. On
-- each date `after` has the new itinerary if messages can make it, and the old one if not. No
-- sub-message names a date on which its flight does not differ, and each acts on every date that it
-- names. They come by flight, and those of one flight by first day. Two of one flight have the same
-- period, or no date of both.
pub record IsPlan (rows : List Row) (old new : FlightNumber → Days) (plan : List PlannedSub)
    (after : FlightNumber → Days) : Type 0 where
  pub leave : Leave rows plan old after
  pub published : IsPublished rows old new after
  pub differing : AllByRecursion (NamesDifferences old new) plan
  pub acting : ActOnTheirDates rows plan old
  pub ordered : ComeInOrder plan
  pub apart : DoNotOverlap plan

-- the sub-messages of a plan, for flights of an airline and with full dates
abbrev pub subs_of_plan : List ℕ → List PlannedSub → List Sub
subs_of_plan airline =
    map (λ sub. dated (record { airline = airline; flight = sub.flight }) sub.period sub.action)

-- the flight and the dates of each
abbrev pub dates_of_plan : List PlannedSub → List ResolvedSub
dates_of_plan = map (λ sub. record { flight = sub.flight; period = sub.period })

-- ---- the lines

-- the line of a message: its reference, which has the date, the message serial and the originator
-- of the first one, and how many sub-messages it has
abbrev pub text_line : Reference → MessageValue → List ℕ
text_line first m =
    line (codes "text " ++ printed_reference (record first { group = m.reference.group })
    ++ codes " subs " ++ decimal (length m.subs))

-- the lines of messages
abbrev pub text_lines : Reference → List MessageValue → List ℕ
text_lines first = flat_map (text_line first)

-- the last line: how many texts and sub-messages there are, and how many dates are unsaid
abbrev pub last_line : ℕ → ℕ → ℕ → List ℕ
last_line texts subs dates =
    line (codes "texts " ++ decimal texts ++ codes " subs " ++ decimal subs
    ++ codes " unsaid dates " ++ decimal dates)

-- The lines of messages and of what they leave unsaid: those of the messages, those of the dates on
-- which `after` still differs from the new timetable, by the rows of the first desk, and the last
-- line.
abbrev pub publication_lines : List ℕ → List Row → Reference → List MessageValue → ℕ
    → (FlightNumber → Days) → (FlightNumber → Days) → List ℕ
publication_lines airline rows reference messages subs after new =
    text_lines reference messages
    ++ (unsaid_lines airline rows after new
    ++ last_line (length messages) subs (date_count after new))

-- ---- what is published

-- What is published of the way from one desk to another. The messages have the heading that the
-- word names. A desk that holds what the first desk holds takes each of them as new, and then holds
-- what `after` holds. The timetable of `after` has on each date the new itinerary if messages can
-- make it, and the old one if not.
pub record Publishes (from to : DeskSeen) (word lines mail : List ℕ) : Type 0 where
  pub heading : MessageValue
  pub reference : Reference
  pub named : BeginAt from to word heading reference
  pub plan : List PlannedSub
  pub messages : List MessageValue
  pub after : DeskSeen
  pub can_deliver : CanDeliver from heading heading.reference.group
      (subs_of_plan (airline_of from.base.records) plan) reference (dates_of_plan plan) messages
  pub delivered : AreDelivered from (subs_of_plan (airline_of from.base.records) plan) reference
      (dates_of_plan plan) messages after
  pub is_plan : IsPlan from.base.rows (days_of_desk from) (days_of_desk to) plan
      (days_of_desk after)
  pub lines_are : lines ≡ publication_lines (airline_of from.base.records) from.base.rows reference
      messages (length plan) (days_of_desk after) (days_of_desk to)
  pub mail_is : mail ≡ mail_file messages

-- no messages send the sub-messages of a plan under the heading, since the group serial would pass
-- 99999
pub record LackReferences (from to : DeskSeen) (word : List ℕ) : Type 0 where
  pub heading : MessageValue
  pub reference : Reference
  pub named : BeginAt from to word heading reference
  pub follows : Follows reference from.held
  pub plan : List PlannedSub
  pub after : FlightNumber → Days
  pub is_plan : IsPlan from.base.rows (days_of_desk from) (days_of_desk to) plan after
  pub none : (messages : List MessageValue)
      → Send heading heading.reference.group
      (subs_of_plan (airline_of from.base.records) plan) messages → ⊥

-- Why nothing is published, in this order: memory ran out; the base of the second desk has another
-- airline (41), or another time mode (40); the word names no heading (21); its date is none up to
-- 2099 (42); a message is held whose reference is not before the first one (64); no messages send
-- the sub-messages (65).
abbrev pub RefusesPublication : DeskSeen → DeskSeen → List ℕ → OutboxFault → Type 0
RefusesPublication from to word fault.Memory = Unit {0}
RefusesPublication from to word fault.OtherAirline =
    AreOfOtherAirlines from.base.records to.base.records
RefusesPublication from to word fault.OtherMode = AreOfOtherModes from.base.records to.base.records
RefusesPublication from to word fault.Reference =
    (comparable : AreComparable from.base.records to.base.records)
    × ((heading : MessageValue)
    → NamesHeading comparable.carriers.mine.carrier.time_mode word heading → ⊥)
RefusesPublication from to word fault.Date =
    (heading : MessageValue) × (named : IsHeading from to word heading)
    × HasNone named.comparable.carriers.mine.carrier.created heading.reference.date
RefusesPublication from to word (fault.Order last) =
    (heading : MessageValue) × (reference : Reference)
    × BeginAt from to word heading reference × RefusesOrder reference from.held last
RefusesPublication from to word fault.References = LackReferences from to word

-- A plan and the messages that send its sub-messages: what the sub-messages leave of a timetable is
-- what a desk has after it takes the messages. So the dates that the plan leaves unsaid are those on
-- which the desk still differs.
use Rattle.std.proofs.Common.{◌≡◌, ◌≤◌, ◌<◌, ◌+◌, ℕ, zero, suc, List, [], ◌∷◌, ◌++◌, map, length}
use Rattle.std.proofs.Common.{refl, sym, ap, subst, inl, inr, ◌∙◌, arith}
use Rattle.std.specs.List.{AllByRecursion, filter, range_with_len}
use Rattle.ssim_values.specs.Flight.{FlightNumber, IsFlight}
use Rattle.ssim_periods.specs.Calendar.{day_count}
use Rattle.ssim_periods.specs.Pieces.{pieces_of}
use Rattle.ssim_records.specs.Carrier.{CarrierFields}
use Rattle.ssim_base.specs.Base.{airline_of}
use Rattle.ssim_base.specs.Export.{flight_at, flight_count}
use Rattle.ssim_base.specs.Resolve.{AreResolved}
use Rattle.ssim_base.specs.Stations.{Row}
use Rattle.ssim_base.specs.Timetable.{Days, Legs, on_day}
use Rattle.ssim_base.proofs.Calendars.{at-each_day}
use Rattle.ssim_base.proofs.Places.{flight-is}
use Rattle.ssim_text.specs.Message.{MessageValue}
use Rattle.ssim_text.specs.declared.action.Sub.{Sub}
use Rattle.ssim_text.specs.declared.reference.Reference.{Reference}
use Rattle.ssim_held.specs.Entries.{DeskSeen}
use Rattle.ssim_desk.specs.Desk.{days_of_desk, timetable_of}
use Rattle.ssim_desk.specs.Meaning.{Timetable, after_one, after_subs}
use Rattle.ssim_difference.specs.Differences.{Compared, compared, difference}
use Rattle.ssim_difference.specs.Differences.{differences, differs, no_difference, same_difference}
use Rattle.ssim_difference.specs.declared.difference.Difference.{Difference}
use Rattle.ssim_outbox.specs.Acting.{ActOn, ActOnTheirDates}
use Rattle.ssim_outbox.specs.Published.{IsPublished, IsPublishedOn, Leave, NamesDifferences, legs_after}
use Rattle.ssim_outbox.specs.Reach.{IsSaid}
use Rattle.ssim_outbox.specs.declared.planned_sub.PlannedSub.{PlannedSub}
use Rattle.ssim_outbox.specs.Delivery.{AreDelivered, entries_of}
use Rattle.ssim_outbox.specs.MailFile.{mail_file}
use Rattle.ssim_outbox.specs.clauses.Fault.{not_sent}
use Rattle.ssim_outbox.specs.clauses.Messages.{RefusesSubs}
use Rattle.ssim_outbox.specs.Messages.{Send}
use Rattle.ssim_outbox.specs.declared.send_fault.SendFault.{SendFault}
use Rattle.ssim_outbox.specs.declared.send_fault.SendFault.TheVariants as send_fault
use Rattle.ssim_outbox.specs.PlanOrder.{ComeInOrder, DoNotOverlap}
use Rattle.ssim_outbox.specs.Publication.{IsPlan, LackReferences, Publishes, RefusesPublication}
use Rattle.ssim_outbox.specs.Publication.{publication_lines}
use Rattle.ssim_outbox.specs.Publication.{dates_of_plan, subs_of_plan}
use Rattle.ssim_outbox.specs.declared.fault.OutboxFault.{OutboxFault}
use Rattle.ssim_outbox.specs.internal.Addressed.{Agree, HasPlan, IsAddressed, RefusesMessages}
use Rattle.ssim_outbox.proofs.Delivered.{holding_all}

-- ---- the timetable

-- the sub-messages of a plan, and those that a desk has resolved, leave the same
plan_left : (rows : List Row) (airline : List ℕ) (plan : List PlannedSub) (t : Timetable)
    (flight : FlightNumber) (day : ℕ)
    → after_subs rows (subs_of_plan airline plan) (dates_of_plan plan) t flight day
    ≡ legs_after rows plan flight day (t flight day)
plan_left rows airline [] t flight day = refl
plan_left rows airline (sub ∷ plan) t flight day =
    plan_left rows airline plan
    (after_one rows sub.action (record { flight = sub.flight; period = sub.period }) t) flight day

-- the desk has on each date what the plan leaves
agree_left : (from to after : DeskSeen) (airline : List ℕ) (plan : List PlannedSub) (reference : Reference)
    (messages : List MessageValue) (left : FlightNumber → Days)
    → AreDelivered from (subs_of_plan airline plan) reference (dates_of_plan plan) messages after
    → IsPlan from.base.rows (days_of_desk from) (days_of_desk to) plan left
    → Agree left (days_of_desk after)
agree_left from to after airline plan reference messages left delivered is flight day exists within =
    let rows = from.base.rows in
    is.leave flight day exists within
    ∙ ap (legs_after rows plan flight day) (at-each_day (timetable_of from flight) day within)
    ∙ sym (plan_left rows airline plan (timetable_of from) flight day)
    ∙ ap (λ (t : Timetable). t flight day) (sym delivered.timetable)
    ∙ sym (at-each_day (timetable_of after flight) day within)

-- a plan is one of all timetables that agree with what it leaves
plan_agrees : (rows : List Row) (old new : FlightNumber → Days) (plan : List PlannedSub)
    (left after : FlightNumber → Days) → Agree left after → IsPlan rows old new plan left
    → IsPlan rows old new plan after
plan_agrees rows old new plan left after agree is = record {
  leave = λ flight day exists within. sym (agree flight day exists within) ∙ is.leave flight day exists within;
  published = λ flight day exists within.
      subst (IsPublishedOn rows day (on_day (old flight) day) (on_day (new flight) day))
      (agree flight day exists within) (is.published flight day exists within);
  differing = is.differing;
  acting = is.acting;
  ordered = is.ordered;
  apart = is.apart;
}

-- ---- the dates that differ

range_agrees : {A : Type 0} (f g : ℕ → A) (a k : ℕ) → ((n : ℕ) → n < a + k → f n ≡ g n)
    → map f (range_with_len a k) ≡ map g (range_with_len a k)
range_agrees f g a zero h = refl
range_agrees {A} f g a (suc k) h =
    ap (λ (x : A). x ∷ map f (range_with_len (a + 1) k)) (h a (omega arith))
    ∙ ap (λ (xs : List A). g a ∷ xs) (range_agrees f g (a + 1) k (λ n lt. h n (omega (arith, lt))))

flight_agrees : (one other new newer : FlightNumber → Days) → Agree one other → Agree new newer
    → (flight : FlightNumber) → IsFlight flight → compared one new flight ≡ compared other newer flight
flight_agrees one other new newer agree agree_too flight exists =
    ap (λ (days : List Difference). (flight, pieces_of same_difference no_difference days))
    (range_agrees (λ n. difference (on_day (one flight) n) (on_day (new flight) n))
    (λ n. difference (on_day (other flight) n) (on_day (newer flight) n)) 0 day_count
    (λ n within. let low : n < day_count = omega (arith, within) in
    ap (λ (legs : Legs). difference legs (on_day (new flight) n)) (agree flight n exists low)
    ∙ ap (difference (on_day (other flight) n)) (agree_too flight n exists low)))

flights_agree : (one other new newer : FlightNumber → Days) → Agree one other → Agree new newer → (low k : ℕ)
    → low + k ≤ flight_count → map (compared one new) (map flight_at (range_with_len low k))
    ≡ map (compared other newer) (map flight_at (range_with_len low k))
flights_agree one other new newer agree agree_too low zero within = refl
flights_agree one other new newer agree agree_too low (suc k) within =
    ap (λ (x : Compared). x ∷ map (compared one new) (map flight_at (range_with_len (low + 1) k)))
    (flight_agrees one other new newer agree agree_too (flight_at low) (flight-is low (omega (arith, within))))
    ∙ ap (λ (xs : List Compared). compared other newer (flight_at low) ∷ xs)
    (flights_agree one other new newer agree agree_too (low + 1) k (omega (arith, within)))

-- what differs hangs on what flights have on their dates alone
differences_agree : (one other new newer : FlightNumber → Days) → Agree one other → Agree new newer
    → differences one new ≡ differences other newer
differences_agree one other new newer agree agree_too =
    ap (filter differs) (flights_agree one other new newer agree agree_too 0 flight_count (omega arith))

-- ---- the plan

agree_equal : (one other : FlightNumber → Days) → ((flight : FlightNumber) → IsFlight flight → one flight ≡ other flight)
    → Agree one other
agree_equal one other same flight day exists within =
    ap (λ (days : Days). on_day days day) (same flight exists)

agree_self : (days : FlightNumber → Days) → Agree days days
agree_self days flight day exists within = refl

name_equal : (old older new newer : FlightNumber → Days) → Agree old older → Agree new newer
    → (plan : List PlannedSub) → AllByRecursion (λ (sub : PlannedSub). IsFlight sub.flight) plan
    → AllByRecursion (NamesDifferences old new) plan → AllByRecursion (NamesDifferences older newer) plan
name_equal old older new newer agree agree_too [] exist h = tt
name_equal old older new newer agree agree_too (sub ∷ plan) exist h = (
  record {
    some = h.0.some;
    each = λ day within held same.
        h.0.each day within held
        (agree sub.flight day exist.0 within ∙ same ∙ sym (agree_too sub.flight day exist.0 within));
  },
  name_equal old older new newer agree agree_too plan exist.1 h.1,
)

-- a plan between schedules is one between the timetables that these have
pub plan_of_days : (from to : DeskSeen) (rows : List Row) (old new after : FlightNumber → Days)
    (plan : List PlannedSub) (unsaid : List Compared) → rows ≡ from.base.rows
    → AllByRecursion (λ (sub : PlannedSub). IsFlight sub.flight) plan
    → ((flight : FlightNumber) → IsFlight flight → old flight ≡ days_of_desk from flight)
    → ((flight : FlightNumber) → IsFlight flight → new flight ≡ days_of_desk to flight)
    → Leave rows plan old after → IsPublished rows old new after → unsaid ≡ differences after new
    → AllByRecursion (λ (sub : PlannedSub). IsSaid sub.action) plan
    → AllByRecursion (NamesDifferences old new) plan → ActOnTheirDates rows plan old
    → ComeInOrder plan → DoNotOverlap plan → HasPlan from to plan unsaid
plan_of_days from to rows old new after plan unsaid rows_are exist is_old is_new leave published
    unsaid_is said differing acting ordered apart =
    let agree = agree_equal old (days_of_desk from) is_old in
    let agree_too = agree_equal new (days_of_desk to) is_new in
    record {
      after = after;
      is_plan = subst (λ (rs : List Row). IsPlan rs (days_of_desk from) (days_of_desk to) plan after) rows_are (record {
        leave = λ flight day exists within.
            leave flight day exists within
            ∙ ap (legs_after rows plan flight day) (agree flight day exists within);
        published = λ flight day exists within.
            subst (λ (legs : Legs). IsPublishedOn rows day legs (on_day (days_of_desk to flight) day) (on_day (after flight) day))
            (agree flight day exists within)
            (subst (λ (legs : Legs). IsPublishedOn rows day (on_day (old flight) day) legs (on_day (after flight) day))
            (agree_too flight day exists within) (published flight day exists within));
        differing = name_equal old (days_of_desk from) new (days_of_desk to) agree agree_too plan
            exist differing;
        acting = λ flight day exists within.
            subst (ActOn rows plan flight day) (agree flight day exists within)
            (acting flight day exists within);
        ordered = ordered;
        apart = apart;
      });
      said = said;
      unsaid_is = unsaid_is ∙ differences_agree after after new (days_of_desk to) (agree_self after) agree_too;
    }

-- ---- the messages

-- why sub-messages are not sent
pub not_sent_is : (m : MessageValue) (subs : List Sub) (refusal : SendFault) → RefusesSubs m subs refusal
    → RefusesMessages m subs (not_sent refusal)
not_sent_is m subs send_fault.Memory h = inl refl
not_sent_is m subs send_fault.References h = inr (refl, h)

-- ---- all together

module _ (from to : DeskSeen) (word : List ℕ) (heading : MessageValue) (reference : Reference)
    (plan : List PlannedSub) (unsaid : List Compared) (addressed : IsAddressed from to word heading reference)
    (has : HasPlan from to plan unsaid) where
  abbrev airline : List ℕ
  airline = airline_of from.base.records

  abbrev carrier : CarrierFields
  carrier = addressed.named.named.comparable.carriers.mine.carrier

  its_airline : airline ≡ carrier.airline
  its_airline = ap airline_of addressed.named.named.comparable.carriers.has.1

  abbrev after : List MessageValue → DeskSeen
  after messages = record {
    base = from.base;
    held = from.held ++ entries_of reference (dates_of_plan plan) messages;
    applied = 0;
  }

  pub published : (messages : List MessageValue) (lines mail : List ℕ)
      → Send heading heading.reference.group (subs_of_plan airline plan) messages
      → ((c : CarrierFields) → airline ≡ c.airline
      → AreResolved c (subs_of_plan airline plan) (dates_of_plan plan))
      → ((left new : FlightNumber → Days) → unsaid ≡ differences left new
      → lines ≡ publication_lines airline from.base.rows reference messages (length plan) left new)
      → mail ≡ mail_file messages → Publishes from to word lines mail
  published messages lines mail send resolved lines_are mail_is =
      let held = addressed.has in
      let desk = after messages in
      let delivered = holding_all from desk heading heading.reference.group (subs_of_plan airline plan) reference
      (dates_of_plan plan) messages send refl refl in
      let agree = agree_left from to desk airline plan reference messages has.after delivered has.is_plan in
      record {
        heading = heading;
        reference = reference;
        named = addressed.named;
        plan = plan;
        messages = messages;
        after = desk;
        can_deliver = record {
          send = send;
          addressed = record {
            frame = addressed.named.named.comparable.carriers.mine;
            in_base = addressed.named.named.comparable.carriers.has;
            resolved = held.text;
            resolves = held.resolves;
            reference_is = held.reference_is
                ∙ ap (λ (g : ℕ). record held.text.reference { group = g }) held.resolves.group;
            dated = resolved carrier its_airline;
          };
          follows = addressed.follows;
        };
        delivered = delivered;
        is_plan = plan_agrees from.base.rows (days_of_desk from) (days_of_desk to) plan has.after (days_of_desk desk)
            agree has.is_plan;
        lines_are = lines_are (days_of_desk desk) (days_of_desk to)
            (has.unsaid_is ∙ differences_agree has.after (days_of_desk desk) (days_of_desk to) (days_of_desk to) agree
            (agree_self (days_of_desk to)));
        mail_is = mail_is;
      }

  pub lacking : ((messages : List MessageValue)
      → Send heading heading.reference.group (subs_of_plan airline plan) messages → ⊥)
      → LackReferences from to word
  lacking none = record {
    heading = heading;
    reference = reference;
    named = addressed.named;
    follows = addressed.follows;
    plan = plan;
    after = has.after;
    is_plan = has.is_plan;
    none = none;
  }

  module _ (own : List ℕ) (is : own ≡ airline) where
    -- the messages have sub-messages of the airline, and the rows and lists are given as equal ones
    pub published_by : (messages : List MessageValue) (lines mail : List ℕ) (rows : List Row)
        (told : List MessageValue) (count : ℕ) (listed : List Compared)
        → rows ≡ from.base.rows → told ≡ messages → count ≡ length plan → listed ≡ unsaid
        → Send heading heading.reference.group (subs_of_plan own plan) messages
        → ((c : CarrierFields) → own ≡ c.airline → AreResolved c (subs_of_plan own plan) (dates_of_plan plan))
        → ((left new : FlightNumber → Days) → listed ≡ differences left new
        → lines ≡ publication_lines own rows reference told count left new)
        → mail ≡ mail_file messages → Publishes from to word lines mail
    published_by messages lines mail rows told count listed table are counted same send resolved lines_are mail_is =
        published messages lines mail
        (subst (λ (a : List ℕ). Send heading heading.reference.group (subs_of_plan a plan) messages) is send)
        (λ c e. subst (λ (a : List ℕ). AreResolved c (subs_of_plan a plan) (dates_of_plan plan)) is
        (resolved c (is ∙ e)))
        (λ left new h. lines_are left new (same ∙ h)
        ∙ (λ i. publication_lines (is i) (table i) reference (are i) (counted i) left new))
        mail_is

    pub unsent : (refusal : OutboxFault) → RefusesMessages heading (subs_of_plan own plan) refusal
        → RefusesPublication from to word refusal
    unsent refusal (inl e) = subst (RefusesPublication from to word) (sym e) tt
    unsent refusal (inr h) =
        subst (RefusesPublication from to word) (sym h.0)
        (lacking (λ messages send. h.1 messages
        (subst (λ (a : List ℕ). Send heading heading.reference.group (subs_of_plan a plan) messages) (sym is) send)))

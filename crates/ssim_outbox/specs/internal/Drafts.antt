-- Sub-messages so far, and the timetable that they leave.
use Rattle.std.specs.Prelude.{◌≡◌, ◌≢◌, ◌⊎◌, ℕ, ◌<◌, ◌≤◌, Bool, false, ◌&&◌, nat_eq, nat_lt}
use Rattle.std.specs.Prelude.{true, if◌then◌else◌, IsTrue, List, length}
use Rattle.std.specs.List.{AllByRecursion, list_any}
use Rattle.ssim_values.specs.Calendar.{weekday}
use Rattle.ssim_values.specs.Flight.{FlightNumber, IsFlight}
use Rattle.ssim_values.specs.Period.{DayRange}
use Rattle.ssim_periods.specs.Calendar.{day_count, holds}
use Rattle.ssim_text.specs.declared.action.Action.{Action}
use Rattle.ssim_base.specs.Stations.{Row}
use Rattle.ssim_base.specs.Timetable.{Days, Legs, on_day, same_flight}
use Rattle.ssim_schedule.specs.clauses.Schedule.{Flown, days_in}
use Rattle.ssim_schedule.specs.declared.finding.Finding.{Finding}
use Rattle.ssim_difference.specs.Differences.{Compared, DifferencePiece}
use Rattle.ssim_outbox.specs.clauses.Acting.{ActEach}
use Rattle.ssim_outbox.specs.Acting.{ActOnTheirDates}
use Rattle.ssim_outbox.specs.Reach.{IsSaid, Reach, after_all}
use Rattle.ssim_outbox.specs.PlanOrder.{DoNotOverlap, names_date}
use Rattle.ssim_outbox.specs.Published.{Leave, NamesDifferences}
use Rattle.ssim_outbox.specs.declared.draft.PlanDraft.{PlanDraft}
use Rattle.ssim_outbox.specs.declared.flight_change.FlightChange.{FlightChange}
use Rattle.ssim_outbox.specs.declared.planned_sub.PlannedSub.{PlannedSub}

-- the sub-message with an action for a flight and a period
abbrev pub planned : FlightNumber → DayRange → Action → PlannedSub
planned flight period action = record { action = action; flight = flight; period = period }

-- what a flight has on a day after actions of sub-messages for one flight and one period
abbrev pub after_actions :
    List Row → List Action → FlightNumber → DayRange → FlightNumber → ℕ → Legs → Legs
after_actions rows actions flight period g day legs =
    if same_flight flight g && holds period day then after_all rows day actions legs else legs

-- the actions act on the dates of the period of the flight
abbrev pub Acts : List Row → List Action → FlightNumber → DayRange → Flown → Flown → Type 0
Acts rows actions flight period before after =
    (g : FlightNumber) (day : ℕ) → IsFlight g → day < day_count
    → on_day (days_in after g) day
    ≡ after_actions rows actions flight period g day (on_day (days_in before g) day)

-- each flight has itineraries on as many days as before
abbrev pub AreAsLong : Flown → Flown → Type 0
AreAsLong before after =
    (g : FlightNumber) → length (days_in after g) ≡ length (days_in before g)

-- the finding counts no date on which the sub-message did not act
pub record IsAllActed (finding : Finding) : Type 0 where
  pub absent : finding.absent ≡ 0
  pub present : finding.present ≡ 0
  pub leg : finding.leg ≡ 0
  pub station : finding.station ≡ 0

-- each of the actions acts on each date of the period of the flight
abbrev pub ActOnEach : List Row → List Action → FlightNumber → DayRange → Flown → Type 0
ActOnEach rows actions flight period before =
    (n : ℕ) → n < day_count → n < length (days_in before flight) → holds period n ≡ true
    → ActEach rows n actions (on_day (days_in before flight) n)

-- if sub-messages name a date of a flight, these days have what the new ones have on it
abbrev pub MakeNamed : FlightNumber → ℕ → Days → Days → List PlannedSub → Type 0
MakeNamed flight day days new subs = AllByRecursion
    (λ sub. names_date flight day sub ≡ true → on_day days day ≡ on_day new day) subs

-- The sub-messages so far lead from the old timetable towards the new one. Of each date that they
-- name they make what the new one has.
pub record IsDraft (rows : List Row) (old new : FlightNumber → Days) (draft : PlanDraft) : Type 0 where
  pub leave : Leave rows draft.subs.items old (days_in draft.schedule)
  pub said : AllByRecursion (λ sub. IsSaid sub.action) draft.subs.items
  pub acting : ActOnTheirDates rows draft.subs.items old
  pub differing : AllByRecursion (NamesDifferences old new) draft.subs.items
  pub as_long : (flight : FlightNumber)
      → length (days_in draft.schedule flight) ≡ length (old flight)
  pub between : (flight : FlightNumber) (day : ℕ) → IsFlight flight → day < day_count
      → (on_day (days_in draft.schedule flight) day ≡ on_day (new flight) day)
      ⊎ (on_day (days_in draft.schedule flight) day ≡ on_day (old flight) day)
  pub made : (flight : FlightNumber) (day : ℕ) → IsFlight flight → day < day_count
      → MakeNamed flight day (days_in draft.schedule flight) (new flight) draft.subs.items
  pub apart : DoNotOverlap draft.subs.items

-- nothing is left to say of the date: the new itinerary is made, or no messages can make it
abbrev pub IsSettled :
    List Row → (FlightNumber → Days) → (FlightNumber → Days) → PlanDraft → FlightNumber → ℕ → Type 0
IsSettled rows old new draft flight day =
    (on_day (days_in draft.schedule flight) day ≡ on_day (new flight) day)
    ⊎ ¬ (Reach rows day (on_day (old flight) day) (on_day (new flight) day))

-- some dates of flights
abbrev pub Dates : Type 0
Dates = FlightNumber → ℕ → Bool

-- a draft becomes another, in which these dates are settled, and all that were before
pub record Settles (rows : List Row) (old new : FlightNumber → Days) (dates : Dates)
    (before after : PlanDraft) : Type 0 where
  pub draft : IsDraft rows old new after
  pub settled : (flight : FlightNumber) (day : ℕ) → IsFlight flight → day < day_count
      → IsSettled rows old new before flight day ⊎ IsTrue (dates flight day)
      → IsSettled rows old new after flight day

-- no dates
abbrev pub no_dates : Dates
no_dates flight day = false

-- a date of a flight
abbrev pub one_date : FlightNumber → ℕ → Dates
one_date flight day g n = same_flight flight g && nat_eq day n

-- the date of a flight with this number, if the period holds it
abbrev pub date_at : FlightNumber → DayRange → ℕ → Dates
date_at flight period number g n = same_flight flight g && (holds period n && nat_eq number n)

-- the dates of a period of a flight before a day
abbrev pub dates_before : FlightNumber → DayRange → ℕ → Dates
dates_before flight period end g n = same_flight flight g && (holds period n && nat_lt n end)

-- the dates of a period of a flight
abbrev pub dates_of_period : FlightNumber → DayRange → Dates
dates_of_period flight period g n = same_flight flight g && holds period n

-- the dates of some pieces of a flight
abbrev pub dates_of_pieces : FlightNumber → List DifferencePiece → Dates
dates_of_pieces flight pieces g n = list_any (λ piece. dates_of_period flight piece.0 g n) pieces

-- the dates on which flights differ
abbrev pub dates_of_flights : List Compared → Dates
dates_of_flights flights g n =
    list_any (λ compared. dates_of_pieces compared.0 compared.1 g n) flights

-- a flight with these itineraries has the new one on the day, where it had another one before
abbrev pub IsMadeOn : Days → Days → Days → ℕ → Type 0
IsMadeOn made before new day =
    (on_day made day ≡ on_day new day) × (on_day before day ≢ on_day new day)

-- the itineraries of the flight are those of an old and a new timetable
pub record IsChangeOf (old new : FlightNumber → Days) (change : FlightChange) : Type 0 where
  pub old_days : change.old.days ≡ old change.flight
  pub new_days : change.new.days ≡ new change.flight

-- two days of one weekday have the same itinerary if both are from the first day on and before the
-- end
abbrev pub AreWeekly : Days → ℕ → ℕ → Type 0
AreWeekly days first end = (m n : ℕ) → first ≤ m → m ≤ n → n < end → n < day_count
    → weekday m ≡ weekday n → on_day days m ≡ on_day days n

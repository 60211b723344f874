-- The messages have acted on the timetable of the dates, and it agrees there with the whole one.
use Rattle.std.proofs.Common.{◌≡◌, ℕ, ◌<◌, List, sym, ap, subst, ◌∙◌, arith}
use Rattle.ssim_values.specs.Flight.{FlightNumber}
use Rattle.ssim_periods.specs.Calendar.{day_count}
use Rattle.ssim_periods.specs.Days.{each_day}
use Rattle.ssim_periods.proofs.DayLemmas.{day_count-is}
use Rattle.ssim_base.specs.BaseSeen.{BaseSeen, base_with}
use Rattle.ssim_base.specs.Stations.{Row}
use Rattle.ssim_base.specs.Timetable.{Days, itinerary}
use Rattle.ssim_base.proofs.Calendars.{at-each_day}
use Rattle.ssim_base.proofs.Results.{if_ok}
use Rattle.ssim_schedule.specs.clauses.Dates.{AgreeBetween, itinerary_between}
use Rattle.ssim_schedule.specs.clauses.Schedule.{days_in}
use Rattle.ssim_schedule.proofs.Divisions.{divided_flights_agree}
use Rattle.ssim_held.specs.Entries.{DeskSeen, Entry}
use Rattle.ssim_desk.specs.Desk.{days_of_desk, timetable_of}
use Rattle.ssim_desk.specs.Meaning.{Timetable, after_entries}
use Rattle.ssim_desk.specs.internal.Changes.{AgreeFrom}
use Rattle.ssim_desk.proofs.SomeDates.{between_is}
use Rattle.ssim_desk.proofs.SomeFlights.{entries_agree_on}
use Rattle.ssim_desk.proofs.holdings.Holdings.into_flights_between.Goals as goal

-- the timetables of each flight by day agree
agree_days : (first last : ℕ) (one other : Timetable) → last < 36525 → AgreeFrom first last one other → AgreeBetween first last (λ g. each_day (one g)) (λ g. each_day (other g))
agree_days first last one other within agree g day low high =
    let in_calendar : day < day_count = subst (λ (n : ℕ). day < n) (sym day_count-is) (omega (arith, high, within)) in
    at-each_day (one g) day in_calendar ∙ agree g day low high ∙ sym (at-each_day (other g) day in_calendar)

-- what the messages leave of the dates agrees with what they leave of the whole timetable
left_between : (first last : ℕ) (base : BaseSeen) (entries messages : List Entry) (rows : List Row) (after : Timetable) → rows ≡ base.rows → messages ≡ entries
    → AgreeFrom first last after (after_entries rows messages (itinerary_between first last base.records))
    → AgreeFrom first last after (timetable_of (record { base = base; held = entries; applied = 0 }))
left_between first last base entries messages rows after same_rows same_messages agree g day low high =
    agree g day low high
    ∙ ap (λ (rs : List Row). after_entries rs messages (itinerary_between first last base.records) g day) same_rows
    ∙ ap (λ (es : List Entry). after_entries base.rows es (itinerary_between first last base.records) g day) same_messages
    ∙ entries_agree_on base.rows g day entries (itinerary_between first last base.records) (itinerary base.records) (between_is first last base.records g day low high)

abbrev seen : BaseSeen → DeskSeen → DeskSeen
seen base desk = record desk { base = base }

pub returns : goal.returns
returns c =
    let i = c.self.inside in
    let first = c.args.first in
    let last = c.args.last in
    let parts = c.into_parts-data_set.result in
    let base = base_with parts.0 parts.1 in
    let held = i.held.items in
    let desk : DeskSeen = record { base = base; held = held; applied = 0 } in
    let acted = c.in_ok-act_between.ensures (itinerary_between first last parts.0) c.in_ok-schedule.ensures in
    let after = acted.0 in
    let days : FlightNumber → Days = λ g. each_day (after g) in
    let from_parts : AgreeBetween first last days (days_of_desk desk) =
    agree_days first last after (timetable_of desk) (subst (λ (n : ℕ). n < 36525) c.number.ensures.value c.number.ensures.bound)
    (left_between first last base held c.deref.result.now c.rows.result.now after c.rows.ensures c.deref.ensures.value acted.2) in
    let agree : AgreeBetween first last days (days_of_desk c.args.self) =
    subst (λ (d : DeskSeen). AgreeBetween first last days (days_of_desk d)) (ap (λ (b : BaseSeen). seen b desk) c.into_parts-data_set.ensures ∙ c.self.view_is) from_parts in
    if_ok c.into_flights.result
    (λ flights is. (days, is ∙ divided_flights_agree (days_in c.act_between.new.schedule) days acted.1, agree))
    c.into_flights.ensures

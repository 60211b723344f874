-- The schedule shows the timetable of the flights that the messages name, in which they find what
-- they find in the whole.
use Rattle.std.proofs.Common.{◌≡◌, List, IfOk, ap, subst, ◌∙◌}
use Rattle.ssim_values.specs.Flight.{FlightNumber}
use Rattle.ssim_records.specs.declared.record.Record.{Record}
use Rattle.ssim_base.specs.Stations.{Row}
use Rattle.ssim_base.specs.clauses.Timetable.{itinerary_among}
use Rattle.ssim_base.proofs.Results.{if_ok}
use Rattle.ssim_desk.specs.Desk.{entry_lines}
use Rattle.ssim_desk.specs.Meaning.{Timetable, entries_findings}
use Rattle.ssim_desk.specs.internal.Changes.{Shows, flights_of}
use Rattle.ssim_desk.proofs.SomeFlights.{found_among}
use Rattle.ssim_desk.proofs.flights.lines_found.Goals as goal

pub returns : goal.returns
returns c =
    let base = c.args.base.now in
    let messages = c.args.messages.now in
    let named = c.deref.ensures.value ∙ c.in_ok-flights.ensures in
    let shows = subst (λ (flights : List FlightNumber). Shows c.in_ok-schedule.schedule (itinerary_among flights base.records)) named
    (subst (λ (records : List Record). Shows c.in_ok-schedule.schedule (itinerary_among c.deref.result.now records)) c.data_set.ensures c.in_ok-schedule.ensures.days) in
    if_ok c.act_all.result (λ lines h. h (itinerary_among (flights_of messages) base.records) shows
    ∙ ap (entry_lines messages) (found_among base messages))
    (subst (λ (rows : List Row). IfOk c.act_all.result (λ lines. (before : Timetable) → Shows c.in_ok-schedule.schedule before
    → lines.items ≡ entry_lines messages (entries_findings rows messages before))) c.rows.ensures c.act_all.ensures.lines)

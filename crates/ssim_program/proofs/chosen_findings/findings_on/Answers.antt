-- The schedule shows the timetable of the flights that the messages name, in which they find on chosen
-- dates what they find in the whole.
use Rattle.std.proofs.Common.{◌≡◌, ◌∙◌, List, IfOk, ap, map, subst}
use Rattle.ssim_values.specs.Flight.{FlightNumber}
use Rattle.ssim_records.specs.declared.record.Record.{Record}
use Rattle.ssim_base.specs.BaseSeen.{BaseSeen}
use Rattle.ssim_base.specs.Stations.{Row}
use Rattle.ssim_base.specs.clauses.Timetable.{itinerary_among}
use Rattle.ssim_base.proofs.Results.{if_ok}
use Rattle.ssim_held.specs.Entries.{Entry}
use Rattle.ssim_desk.specs.Desk.{entry_lines}
use Rattle.ssim_desk.specs.Meaning.{Timetable, entries_findings}
use Rattle.ssim_program.specs.internal.SomeFlights.{Shows}
use Rattle.ssim_program.specs.internal.Spans.{flights_named, part_entry}
use Rattle.ssim_program.proofs.SpanParts.{parts_find}
use Rattle.ssim_program.proofs.chosen_findings.findings_on.Goals as goal

pub returns : goal.returns
returns c =
    let desk = c.args.desk.now in
    let choice = c.args.choice.now in
    let made = c.in_ok-schedule.schedule in
    let named = c.deref.ensures.value ∙ c.in_ok-flights.ensures
    ∙ ap flights_named c.held.ensures.value in
    let rows : c.rows.result.now ≡ desk.base.rows =
    c.rows.ensures ∙ ap (λ (b : BaseSeen). b.rows) c.base.ensures in
    let one = itinerary_among (flights_named desk.held) desk.base.records in
    let shows = subst (λ (flights : List FlightNumber).
    Shows made (itinerary_among flights desk.base.records)) named
    (subst (λ (records : List Record). Shows made (itinerary_among c.deref.result.now records))
    c.data_set.ensures c.in_ok-schedule.ensures.days) in
    if_ok c.act_all.result
    (λ lines is. is one shows
    ∙ (λ i. entry_lines (c.held-2.ensures.value i)
    (entries_findings (rows i) (map (part_entry choice) (c.held-2.ensures.value i)) one))
    ∙ ap (entry_lines desk.held) (parts_find choice desk.base desk.held))
    c.act_all.ensures

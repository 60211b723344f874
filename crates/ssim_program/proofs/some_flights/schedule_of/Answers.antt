-- The schedule shows the timetable of the flights alone, which agrees with the whole at each of them.
use Rattle.std.proofs.Common.{◌≡◌, ℕ, List, ap, subst, ◌∙◌}
use Rattle.ssim_periods.specs.Days.{each_day}
use Rattle.ssim_records.specs.declared.record.Record.{Record}
use Rattle.ssim_base.specs.BaseSeen.{BaseSeen}
use Rattle.ssim_base.specs.Stations.{Row}
use Rattle.ssim_base.specs.Timetable.{Legs, itinerary}
use Rattle.ssim_base.specs.clauses.Timetable.{itinerary_among}
use Rattle.ssim_held.specs.Entries.{Entry}
use Rattle.ssim_desk.specs.Meaning.{Timetable, after_entries}
use Rattle.ssim_desk.proofs.SomeFlights.{among_is, entries_agree}
use Rattle.ssim_program.specs.internal.SomeFlights.{AgreeAt, Shows}
use Rattle.ssim_program.proofs.some_flights.schedule_of.Goals as goal

pub returns : goal.returns
returns c = λ g exists among.
    let desk = c.args.desk.now in
    let flights = c.args.flights.now in
    let made = c.in_ok-schedule.schedule in
    let one = itinerary_among flights desk.base.records in
    let shows = subst (λ (records : List Record). Shows made (itinerary_among flights records))
    c.data_set.ensures c.in_ok-schedule.ensures.days in
    let rows : c.rows.result.now ≡ desk.base.rows =
    c.rows.ensures ∙ ap (λ (b : BaseSeen). b.rows) c.base.ensures in
    let acts = subst (λ (rows : List Row). (before : Timetable) → Shows made before
    → (after : Timetable) × Shows c.act_on.new.schedule after
    × AgreeAt flights after (after_entries rows c.held.result.now before)) rows
    c.in_ok-act_on.ensures in
    let acted = subst (λ (held : List Entry). (after : Timetable)
    × Shows c.act_on.new.schedule after
    × AgreeAt flights after (after_entries desk.base.rows held one)) c.held.ensures.value
    (acts one shows) in
    acted.1 g exists
    ∙ ap (λ (legs : ℕ → Legs). each_day legs) (acted.2 g among
    ∙ entries_agree desk.base.rows desk.held one (itinerary desk.base.records) g
    (among_is flights desk.base.records g among))

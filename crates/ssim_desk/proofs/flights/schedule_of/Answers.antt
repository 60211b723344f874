-- The schedule shows the timetable of the flights alone, which agrees with the whole at each of them.
use Rattle.std.proofs.Common.{ℕ, List, ap, subst, ◌∙◌}
use Rattle.ssim_periods.specs.Days.{each_day}
use Rattle.ssim_records.specs.declared.record.Record.{Record}
use Rattle.ssim_base.specs.Stations.{Row}
use Rattle.ssim_base.specs.Timetable.{Legs, itinerary}
use Rattle.ssim_base.specs.clauses.Timetable.{itinerary_among}
use Rattle.ssim_desk.specs.Meaning.{Timetable, after_entries}
use Rattle.ssim_desk.specs.internal.Changes.{AgreeAt, Shows}
use Rattle.ssim_desk.proofs.SomeFlights.{among_is, entries_agree}
use Rattle.ssim_desk.proofs.flights.schedule_of.Goals as goal

pub returns : goal.returns
returns c = λ g exists among.
    let base = c.args.base.now in
    let messages = c.args.messages.now in
    let flights = c.args.flights.now in
    let one = itinerary_among flights base.records in
    let shows = subst (λ (records : List Record). Shows c.in_ok-schedule.schedule (itinerary_among flights records)) c.data_set.ensures c.in_ok-schedule.ensures.days in
    let acts = subst (λ (rows : List Row). (before : Timetable) → Shows c.in_ok-schedule.schedule before → (after : Timetable) × Shows c.act_on.new.schedule after × AgreeAt flights after (after_entries rows messages before)) c.rows.ensures c.in_ok-act_on.ensures in
    let acted = acts one shows in
    acted.1 g exists
    ∙ ap (λ (legs : ℕ → Legs). each_day legs) (acted.2 g among ∙ entries_agree base.rows messages one (itinerary base.records) g (among_is flights base.records g among))

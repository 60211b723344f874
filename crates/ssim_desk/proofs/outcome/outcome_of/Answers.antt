-- The schedule shows the timetable of the flights alone, on which the messages act.
use Rattle.std.proofs.Common.{◌≡◌, ◌∙◌, List, subst}
use Rattle.ssim_records.specs.declared.record.Record.{Record}
use Rattle.ssim_base.specs.Stations.{Row}
use Rattle.ssim_base.specs.clauses.Timetable.{itinerary_among}
use Rattle.ssim_schedule.specs.clauses.Schedule.{days_in}
use Rattle.ssim_schedule.proofs.Divisions.{divided_flights_agree}
use Rattle.ssim_desk.specs.Desk.{entry_lines}
use Rattle.ssim_desk.specs.Meaning.{after_entries, entries_findings}
use Rattle.ssim_desk.specs.internal.Changes.{Shows}
use Rattle.ssim_desk.specs.internal.Outcomes.{days_among, timetable_among}
use Rattle.ssim_desk.proofs.outcome.outcome_of.Goals as goal

pub returns : goal.returns
returns c =
    let base = c.args.base.now in
    let flights = c.args.flights.now in
    let messages = c.args.messages.now in
    let before = timetable_among base flights in
    let made = c.in_ok-schedule.schedule in
    let after = c.act_all.new.schedule in
    let rows : c.rows.result.now ≡ base.rows = c.rows.ensures in
    let shows : Shows made before =
    subst (λ (records : List Record). Shows made (itinerary_among flights records)) c.data_set.ensures
    c.in_ok-schedule.ensures.days in
    let left : Shows after (after_entries base.rows messages before) =
    subst (λ (rows : List Row). Shows after (after_entries rows messages before)) rows
    (c.in_ok-lines.ensures.shows before shows) in
    record {
      lines_are =
          c.in_ok-lines.ensures.lines before shows
          ∙ (λ i. entry_lines messages (entries_findings (rows i) messages before));
      flights_are =
          c.in_ok-flights.ensures
          ∙ divided_flights_agree (days_in after) (days_among base flights messages) left;
    }

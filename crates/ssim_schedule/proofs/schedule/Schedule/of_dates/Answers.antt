-- The timetable of the records on the wanted dates is one, and the table has its days.
use Rattle.std.proofs.Common.{◌&&◌, nat_le, [], List, Some, ap, subst, ◌∙◌}
use Rattle.ssim_periods.specs.Days.{each_day}
use Rattle.ssim_records.specs.declared.record.Record.{Record}
use Rattle.ssim_schedule.specs.clauses.Dates.{itinerary_between}
use Rattle.ssim_schedule.specs.internal.Table.{table_days}
use Rattle.ssim_base.specs.Timetable.{days_of}
use Rattle.ssim_base.specs.ReadBack.{AreInOrder}
use Rattle.ssim_base.proofs.Calendars.{length-each_day}
use Rattle.ssim_schedule.proofs.InOrder.{timetable-same}
use Rattle.ssim_schedule.proofs.TimetableBuilderLemmas.{built_all}
use Rattle.ssim_schedule.proofs.Wanted.{order_kept}
use Rattle.ssim_schedule.proofs.schedule.Schedule.of_dates.Goals as goal

pub returns : goal.returns
returns c = λ g is.
    let first = c.args.first in
    let last = c.args.last in
    let rs = c.into_parts-records.result.0.items in
    let built = built_all (Some (first, last)) c.put_list.new.self rs (c.in_ok-put_list.ensures (Some (first, last)) [] c.in_ok-building.ensures) in
    c.in_ok-table.ensures.days (Some (first, last)) rs built g is ∙ ap (λ (xs : List Record). each_day (itinerary_between first last xs g)) c.into_parts-records.ensures.value

pub invariant_of-result : goal.invariant_of-result
invariant_of-result c =
    let first = c.args.first in
    let last = c.args.last in
    let all = c.args.data_set in
    let rs = c.into_parts-records.result.0.items in
    let built = built_all (Some (first, last)) c.put_list.new.self rs (c.in_ok-put_list.ensures (Some (first, last)) [] c.in_ok-building.ensures) in
    timetable-same (table_days c.in_ok-table.table) (λ g. each_day (itinerary_between first last all g))
    (λ g is. c.in_ok-table.ensures.days (Some (first, last)) rs built g is ∙ ap (λ (xs : List Record). each_day (itinerary_between first last xs g)) c.into_parts-records.ensures.value)
    (record {
      each_day = λ g is. length-each_day (itinerary_between first last all g);
      rising = order_kept (λ g n. nat_le first n && nat_le n last) all (subst (λ (xs : List Record). AreInOrder (days_of xs)) c.records.ensures.value c.records.ensures.in_order);
    })

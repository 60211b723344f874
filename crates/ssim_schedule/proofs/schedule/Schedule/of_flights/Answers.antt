-- The records are those of the data set, and the marks those of the flights.
use Rattle.std.proofs.Common.{◌≡◌, ℕ, Bool, [], List, None, ap, subst, ◌∙◌}
use Rattle.std.specs.List.{filter}
use Rattle.ssim_periods.specs.Days.{each_day}
use Rattle.ssim_records.specs.declared.record.Record.{Record}
use Rattle.ssim_values.specs.Flight.{FlightNumber}
use Rattle.ssim_schedule.specs.clauses.DivisionPoints.{AreAtPoints}
use Rattle.ssim_schedule.specs.internal.FlightSet.{is_marked, is_record_of}
use Rattle.ssim_schedule.specs.internal.Table.{table_cuts, table_days}
use Rattle.ssim_base.specs.Timetable.{days_of, is_among}
use Rattle.ssim_base.specs.clauses.Timetable.{itinerary_among}
use Rattle.ssim_base.specs.ReadBack.{AreInOrder}
use Rattle.ssim_base.proofs.Calendars.{length-each_day}
use Rattle.ssim_schedule.proofs.FlightSets.{all_points, days_kept, no_points}
use Rattle.ssim_schedule.proofs.InOrder.{timetable-same}
use Rattle.ssim_schedule.proofs.TimetableBuilderLemmas.{built_all}
use Rattle.ssim_schedule.proofs.Wanted.{order_kept}
use Rattle.ssim_schedule.proofs.schedule.Schedule.of_flights.Goals as goal

pub returns-clause-days : goal.returns-clause-days
returns-clause-days c = λ g is.
    let p = is_record_of (is_marked c.in_ok-set.set.marks.items) in
    let kept = filter p c.records.result.now in
    let built = built_all None c.put_those_of.new.self kept (c.in_ok-put_those_of.ensures None [] c.in_ok-building.ensures) in
    c.in_ok-table.ensures.days None kept built g is
    ∙ ap (λ (rs : List Record). days_of (filter p rs) g) c.records.ensures.value
    ∙ days_kept c.in_ok-set.set.marks.items c.args.flights.now c.args.data_set.now g (c.in_ok-set.ensures g is)

-- the cuts of a flight are division points of its records in the set
at_kept : (p : FlightNumber → Bool) (kept rs : List Record) (g : FlightNumber) (cuts : List ℕ) → kept ≡ rs → AreAtPoints cuts g (filter (is_record_of p) kept) → AreAtPoints cuts g (filter (is_record_of p) rs)
at_kept p kept rs g cuts same are = subst (λ (rs : List Record). AreAtPoints cuts g (filter (is_record_of p) rs)) same are

pub returns-clause-cuts : goal.returns-clause-cuts
returns-clause-cuts c = λ g is.
    let p = is_marked c.in_ok-set.set.marks.items in
    let kept = filter (is_record_of p) c.records.result.now in
    let built = built_all None c.put_those_of.new.self kept (c.in_ok-put_those_of.ensures None [] c.in_ok-building.ensures) in
    let cuts = table_cuts c.in_ok-table.table g in
    all_points p c.args.data_set.now g cuts (at_kept p c.records.result.now c.args.data_set.now g cuts c.records.ensures.value (c.in_ok-table.ensures.cuts kept built g is))

pub returns-clause-others : goal.returns-clause-others
returns-clause-others c = λ g is other.
    let p = is_marked c.in_ok-set.set.marks.items in
    let kept = filter (is_record_of p) c.records.result.now in
    let built = built_all None c.put_those_of.new.self kept (c.in_ok-put_those_of.ensures None [] c.in_ok-building.ensures) in
    let cuts = table_cuts c.in_ok-table.table g in
    no_points p c.args.data_set.now g cuts (c.in_ok-set.ensures g is ∙ other) (at_kept p c.records.result.now c.args.data_set.now g cuts c.records.ensures.value (c.in_ok-table.ensures.cuts kept built g is))

pub invariant_of-result : goal.invariant_of-result
invariant_of-result c =
    let p = is_record_of (is_marked c.in_ok-set.set.marks.items) in
    let rs = c.args.data_set.now in
    let flights = c.args.flights.now in
    let kept = filter p c.records.result.now in
    let built = built_all None c.put_those_of.new.self kept (c.in_ok-put_those_of.ensures None [] c.in_ok-building.ensures) in
    timetable-same (table_days c.in_ok-table.table) (λ g. each_day (itinerary_among flights rs g))
    (λ g is. c.in_ok-table.ensures.days None kept built g is ∙ ap (λ (xs : List Record). days_of (filter p xs) g) c.records.ensures.value ∙ days_kept c.in_ok-set.set.marks.items flights rs g (c.in_ok-set.ensures g is))
    (record {
      each_day = λ g is. length-each_day (itinerary_among flights rs g);
      rising = order_kept (λ g n. is_among flights g) rs (subst (λ (xs : List Record). AreInOrder (days_of xs)) c.records.ensures.value c.records.ensures.in_order);
    })

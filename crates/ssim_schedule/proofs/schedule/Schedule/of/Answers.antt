-- The records are those of the base.
use Rattle.std.proofs.Common.{[], List, None, sym, ap, subst, ◌∙◌}
use Rattle.ssim_records.specs.declared.record.Record.{Record}
use Rattle.ssim_schedule.specs.clauses.DivisionPoints.{AreAtPoints}
use Rattle.ssim_schedule.specs.internal.Table.{Table, table_cuts, table_days}
use Rattle.ssim_base.specs.Timetable.{days_of, itinerary}
use Rattle.ssim_base.proofs.Calendars.{length-each_day}
use Rattle.ssim_schedule.proofs.InOrder.{timetable-same}
use Rattle.ssim_schedule.proofs.TimetableBuilderLemmas.{built_all}
use Rattle.ssim_schedule.proofs.schedule.Schedule.of.Goals as goal

pub returns-clause-cuts : goal.returns-clause-cuts
returns-clause-cuts c = λ g is.
    let rs = c.records.result.now in
    let built = built_all None c.put_all.new.self rs (c.in_ok-put_all.ensures None [] c.in_ok-building.ensures) in
    subst (λ (t : Table). AreAtPoints (table_cuts t g) g c.args.base.now.records) (sym c.share_where.ensures)
    (subst (λ (xs : List Record). AreAtPoints (table_cuts c.in_ok-table.table g) g xs) c.records.ensures.value (c.in_ok-table.ensures.cuts rs built g is))

pub invariant_of-result : goal.invariant_of-result
invariant_of-result c =
    let rs = c.records.result.now in
    let built = built_all None c.put_all.new.self rs (c.in_ok-put_all.ensures None [] c.in_ok-building.ensures) in
    timetable-same (table_days c.share_where.new.self) (days_of rs) (λ g is. ap (λ (t : Table). table_days t g) c.share_where.ensures ∙ c.in_ok-table.ensures.days None rs built g is)
    (record { each_day = λ g is. length-each_day (itinerary rs g); rising = c.records.ensures.in_order })

pub returns-clause-days : goal.returns-clause-days
returns-clause-days c = λ g is.
    let rs = c.records.result.now in
    let built = built_all None c.put_all.new.self rs (c.in_ok-put_all.ensures None [] c.in_ok-building.ensures) in
    ap (λ (t : Table). table_days t g) c.share_where.ensures ∙ c.in_ok-table.ensures.days None rs built g is ∙ ap (λ (xs : List Record). days_of xs g) c.records.ensures.value

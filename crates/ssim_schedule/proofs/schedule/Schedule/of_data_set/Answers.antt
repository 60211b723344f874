-- The timetable of a data set is one, and the table has its days.
use Rattle.std.proofs.Common.{[], List, None, sym, ap, subst, ◌∙◌}
use Rattle.ssim_records.specs.declared.record.Record.{Record}
use Rattle.ssim_schedule.specs.clauses.DivisionPoints.{AreAtPoints}
use Rattle.ssim_schedule.specs.internal.Table.{Table, table_cuts, table_days}
use Rattle.ssim_base.specs.Timetable.{days_of}
use Rattle.ssim_schedule.proofs.InOrder.{timetable-same}
use Rattle.ssim_schedule.proofs.TimetableBuilderLemmas.{built_all}
use Rattle.ssim_schedule.proofs.schedule.Schedule.of_data_set.Goals as goal

pub returns-clause-days : goal.returns-clause-days
returns-clause-days c = λ g is.
    let rs = c.into_parts-records.result.0.items in
    let built = built_all None c.put_list.new.self rs (c.in_ok-put_list.ensures None [] c.in_ok-building.ensures) in
    ap (λ (t : Table). table_days t g) c.share_where.ensures ∙ c.in_ok-table.ensures.days None rs built g is ∙ ap (λ (xs : List Record). days_of xs g) c.into_parts-records.ensures.value

pub returns-clause-cuts : goal.returns-clause-cuts
returns-clause-cuts c = λ g is.
    let rs = c.into_parts-records.result.0.items in
    let built = built_all None c.put_list.new.self rs (c.in_ok-put_list.ensures None [] c.in_ok-building.ensures) in
    subst (λ (t : Table). AreAtPoints (table_cuts t g) g c.args.data_set) (sym c.share_where.ensures)
    (subst (λ (xs : List Record). AreAtPoints (table_cuts c.in_ok-table.table g) g xs) c.into_parts-records.ensures.value (c.in_ok-table.ensures.cuts rs built g is))

pub invariant_of-result : goal.invariant_of-result
invariant_of-result c =
    let rs = c.into_parts-records.result.0.items in
    let built = built_all None c.put_list.new.self rs (c.in_ok-put_list.ensures None [] c.in_ok-building.ensures) in
    timetable-same (table_days c.share_where.new.self) (days_of c.args.data_set)
    (λ g is. ap (λ (t : Table). table_days t g) c.share_where.ensures ∙ c.in_ok-table.ensures.days None rs built g is ∙ ap (λ (xs : List Record). days_of xs g) c.into_parts-records.ensures.value)
    c.frame.ensures.exports.timetable

pub returns-clause-exists : goal.returns-clause-exists
returns-clause-exists c = (c.frame.ensures.exports.frame, c.frame.ensures.exports.has_frame)

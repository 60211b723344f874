-- An action has at most twenty leg lines, so its new legs are numbered in order.
use Rattle.std.proofs.Common.{ap, subst, ◌∙◌}
use Rattle.ssim_schedule.specs.clauses.Acts.{AddsPointsOf}
use Rattle.ssim_schedule.specs.Acts.{itinerary_after}
use Rattle.ssim_schedule.specs.clauses.Schedule.{Flown, cuts_in, days_in}
use Rattle.ssim_schedule.specs.internal.Table.{table_cuts}
use Rattle.ssim_base.specs.Timetable.{on_day}
use Rattle.ssim_schedule.proofs.InOrder.{date_after, timetable-kept}
use Rattle.ssim_schedule.proofs.schedule.Schedule.apply_sub.Goals as goal

pub invariant_of-self-2 : goal.invariant_of-self-2
invariant_of-self-2 c =
    let sub = c.args.sub.now in
    timetable-kept c.args.rows.now sub.action.now sub.flight sub.period c.self.inside.table c.act.new.self c.lines_of.ensures.few c.in_ok-counts.ensures.days c.self.invariant

pub returns-clause-cuts : goal.returns-clause-cuts
returns-clause-cuts c = λ g.
    let sub = c.args.sub.now in
    subst (λ (t : Flown). AddsPointsOf sub.flight c.args.rows.now sub.action.now sub.period g (cuts_in t g) (table_cuts c.act.new.self g)) c.self.view_is (c.in_ok-counts.ensures.cuts g)

pub returns-clause-each_date : goal.returns-clause-each_date
returns-clause-each_date c = λ g n exists within.
    let sub = c.args.sub.now in
    let table = c.self.inside.table in
    date_after c.args.rows.now sub.action.now sub.flight sub.period table c.act.new.self c.place.ensures.flight c.in_ok-counts.ensures.days c.self.invariant g n exists within
    ∙ ap (λ (t : Flown). itinerary_after c.args.rows.now sub.action.now sub.flight sub.period g n (on_day (days_in t g) n)) c.self.view_is

-- The change at the first day is the effect on each day, or a copy is changed, which replaces the
-- periods of the flight.
use Rattle.std.proofs.Common.{nat_eq, if◌then◌else◌, ap, refl, subst, ◌∙◌}
use Rattle.ssim_periods.specs.Calendar.{holds}
use Rattle.ssim_periods.specs.Days.{changed_on}
use Rattle.ssim_schedule.specs.clauses.Acts.{acted_on}
use Rattle.ssim_schedule.specs.Effect.{effect}
use Rattle.ssim_schedule.specs.internal.ActionParts.{AddsPoints}
use Rattle.ssim_base.specs.ReadBack.{place_of}
use Rattle.ssim_schedule.specs.internal.Table.{table_cuts, table_days}
use Rattle.ssim_base.specs.Timetable.{Days}
use Rattle.ssim_schedule.proofs.Acts.{counts_made, days_made}
use Rattle.ssim_schedule.proofs.Applied.{cuts_at_ends, cuts_put, days_put}
use Rattle.ssim_base.proofs.Results.{if_ok, on_ok}
use Rattle.ssim_schedule.proofs.timetable.flight_table.FlightTable.act.Goals as goal

pub returns-then-is_uniform-clause-days : goal.returns-then-is_uniform-clause-days
returns-then-is_uniform-clause-days c =
    let change = c.in_ok-change.change in
    let part = c.args.period.now in
    let old = c.args.self.now in
    on_ok c.change.result
    (λ h g. h g
    ∙ ap (λ (ds : Days). if nat_eq (place_of c.args.flight) (place_of g) then ds else table_days old g)
    (days_made c.args.rows.now change.rows.now c.args.action.now change.action.now part change.day c.in_ok-change.ensures.rows c.in_ok-change.ensures.action (c.in_ok-change.ensures.day ∙ c.first.ensures.value) (c.is_uniform.ensures c.if-is_uniform.true) (table_days old g)
    (changed_on (holds part) (λ it. (effect change.rows.now change.action.now change.day it).0) 0 (table_days old g)) refl))
    c.change.ensures.days

pub returns-then-is_uniform-clause-counts : goal.returns-then-is_uniform-clause-counts
returns-then-is_uniform-clause-counts c =
    let change = c.in_ok-change.change in
    if_ok c.change.result
    (counts_made c.args.rows.now change.rows.now c.args.action.now change.action.now c.args.period.now change.day c.in_ok-change.ensures.rows c.in_ok-change.ensures.action (c.in_ok-change.ensures.day ∙ c.first.ensures.value) (c.is_uniform.ensures c.if-is_uniform.true) (table_days c.args.self.now c.args.flight))
    c.change.ensures.counts

pub returns-then-is_uniform-clause-cuts : goal.returns-then-is_uniform-clause-cuts
returns-then-is_uniform-clause-cuts c =
    on_ok c.change.result
    (λ h g. cuts_at_ends c.args.rows.now c.args.action.now c.args.period.now c.args.flight g (table_cuts c.args.self.now g) (table_cuts c.change.new.self g) (h g))
    c.change.ensures.cuts

pub returns-clause-days : goal.returns-clause-days
returns-clause-days c =
    let rows = c.args.rows.now in
    let action = c.args.action.now in
    let period = c.args.period.now in
    days_put rows action period c.args.flight c.args.self.now c.act_on_parts.new.periods.days (c.in_ok-counts.ensures.days ∙ ap (acted_on rows action period) c.in_ok-periods.ensures.days) c.put.new.self c.in_ok-put.ensures.days

pub returns-clause-cuts : goal.returns-clause-cuts
returns-clause-cuts c =
    let rows = c.args.rows.now in
    let period = c.args.period.now in
    cuts_put rows c.args.action.now period c.args.flight c.args.self.now c.act_on_parts.new.periods.cuts
    (subst (λ cs. AddsPoints rows c.args.action.now period cs c.act_on_parts.new.periods.cuts) c.in_ok-periods.ensures.cuts c.in_ok-counts.ensures.cuts) c.put.new.self c.in_ok-put.ensures.cuts

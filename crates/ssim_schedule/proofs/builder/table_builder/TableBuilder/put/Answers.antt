-- The current flight is changed; or `put_other` puts the legs.
use Rattle.std.proofs.Common.{sym, ◌∙◌}
use Rattle.ssim_periods.specs.Calendar.{holds}
use Rattle.ssim_periods.specs.clauses.Days.{Seen}
use Rattle.ssim_base.proofs.Results.{on_ok}
use Rattle.ssim_base.specs.Timetable.{Legs}
use Rattle.ssim_schedule.specs.clauses.PlacedLegs.{placed_each}
use Rattle.ssim_schedule.specs.internal.Runs.{with_runs}
use Rattle.ssim_schedule.proofs.TableBuilderLemmas.{cuts-head, days-head}
use Rattle.ssim_schedule.proofs.builder.table_builder.TableBuilder.put.Goals as goal

pub returns-then-is_current-clause-days : goal.returns-then-is_current-clause-days
returns-then-is_current-clause-days c =
    let b = c.args.self.now in
    let s = holds c.args.period.now in
    let after = placed_each c.args.group.now.legs in
    let old : Seen Legs = with_runs b.runs.items b.periods in
    let new : Seen Legs = with_runs c.add_to_runs.new.runs.items c.add_to_runs.new.periods in
    let its = sym c.is_current.ensures ∙ c.if-is_current.true in
    on_ok c.add_to_runs.result (days-head s after c.args.flight b.blocks b.current old new its)
    c.add_to_runs.ensures.days

pub returns-then-is_current-clause-cuts : goal.returns-then-is_current-clause-cuts
returns-then-is_current-clause-cuts c =
    let b = c.args.self.now in
    let p = c.args.period.now in
    let old : Seen Legs = with_runs b.runs.items b.periods in
    let new : Seen Legs = with_runs c.add_to_runs.new.runs.items c.add_to_runs.new.periods in
    let its = sym c.is_current.ensures ∙ c.if-is_current.true in
    on_ok c.add_to_runs.result (cuts-head p c.args.flight b.blocks b.current old new its)
    c.add_to_runs.ensures.cuts

-- Once no run is left, the cuts are those that the runs may leave.
use Rattle.std.proofs.Common.{List, Contains, subst}
use Rattle.ssim_periods.specs.clauses.Days.{Seen}
use Rattle.ssim_base.specs.Timetable.{Legs}
use Rattle.ssim_schedule.specs.internal.Runs.{Run, with_runs}
use Rattle.ssim_schedule.proofs.builder.run.make_room.Goals as goal

pub returns-clause-cuts : goal.returns-clause-cuts
returns-clause-cuts c = λ cut has.
    let old : Seen Legs = c.args.periods.now in
    let new : Seen Legs = c.replace_each.new.self in
    subst (λ (rs : List Run). Contains (with_runs rs old).cuts cut) c.deref.ensures.value
    (c.in_ok-replace_each.ensures.cuts cut
    (subst (λ (rs : List Run). Contains (with_runs rs new).cuts cut) c.clear.ensures.items has))

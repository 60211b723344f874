-- The cuts of each of the three are not before its end, and the last end is not after it.
use Rattle.std.proofs.Common.{arith}
use Rattle.ssim_schedule.specs.clauses.Schedule.{days_in}
use Rattle.ssim_outbox.proofs.Weeks.{same_on, weekly_between}
use Rattle.ssim_outbox.proofs.made_dates.next_cut.Goals as goal

pub returns-clause-made : goal.returns-clause-made
returns-clause-made c =
    let to = c.cut_after.ensures.to in let before_to = c.cut_after-before_end.ensures.to in
    weekly_between (days_in c.args.made.now c.args.change.now.flight) c.cuts.result.now c.args.first
    c.cut_after-made_end.result c.cut_after.result c.cuts.ensures.weekly
    c.cut_after-made_end.ensures.none (omega arith)

pub returns-clause-before : goal.returns-clause-before
returns-clause-before c =
    weekly_between (days_in c.args.before.now c.args.change.now.flight) c.cuts-2.result.now
    c.args.first
    c.cut_after-before_end.result c.cut_after.result c.cuts-2.ensures.weekly
    c.cut_after-before_end.ensures.none c.cut_after.ensures.to

pub returns-clause-new : goal.returns-clause-new
returns-clause-new c =
    let days = c.args.change.now.new.days in
    weekly_between days c.cuts-3.result.now c.args.first c.cut_after.result c.cut_after.result
    (λ m n order within same gap. same_on days m n (c.cuts-3.ensures.weekly m n order within same gap))
    c.cut_after.ensures.none (omega arith)

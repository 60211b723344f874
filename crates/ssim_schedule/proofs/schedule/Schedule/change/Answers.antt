-- The legs of each date stay in order, as the change leaves them so.
use Rattle.ssim_periods.specs.Calendar.{holds}
use Rattle.ssim_schedule.proofs.Changed.{timetable-changed}
use Rattle.ssim_schedule.proofs.schedule.Schedule.change.Goals as goal

pub invariant_of-self-2 : goal.invariant_of-self-2
invariant_of-self-2 g c =
    timetable-changed (holds c.args.period.now) (g.C.Change.outcome c.args.change.now)
    c.requires.in_order c.args.flight c.self.inside.table c.change.new.self
    c.in_ok-change.ensures.days c.self.invariant

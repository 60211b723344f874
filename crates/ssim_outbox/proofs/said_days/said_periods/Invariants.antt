-- The things that are said so far may be.
use Rattle.std.specs.List.{AllByRecursion}
use Rattle.ssim_outbox.proofs.said_days.said_periods.Given as goal

abbrev pub invariant-loop-piece : goal.invariant-loop-piece
invariant-loop-piece g l = AllByRecursion g.T.SaidOfDay.Sayable l.days.said.items

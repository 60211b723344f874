-- The days after the values so far.
use Rattle.std.proofs.Common.{◌≡◌, fold, take}
use Rattle.ssim_sql.specs.DayRows.{widened}
use Rattle.ssim_sql.proofs.days.with_subs.Given as goal

abbrev pub invariant-loop-sub : goal.invariant-loop-sub
invariant-loop-sub l = l.days ≡ fold (λ within sub. widened within sub.period) l.initial.days (take l.sub-index l.subs)

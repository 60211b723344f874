-- The copy has the same itineraries.
use Rattle.std.proofs.Common.{sym, subst}
use Rattle.ssim_base.specs.ReadBack.{IsTimetable}
use Rattle.ssim_schedule.specs.internal.Table.{Table, table_days}
use Rattle.ssim_schedule.proofs.schedule.Schedule.copy.Goals as goal

pub invariant_of-result : goal.invariant_of-result
invariant_of-result c = subst (λ (t : Table). IsTimetable (table_days t)) (sym c.in_ok-copy.ensures) c.self.invariant

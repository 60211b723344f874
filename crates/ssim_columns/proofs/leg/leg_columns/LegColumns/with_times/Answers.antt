-- Valid columns with valid times are valid.
use Rattle.ssim_columns.proofs.lemmas.LegChanges.{beside_times, times_stand}
use Rattle.ssim_columns.proofs.leg.leg_columns.LegColumns.with_times.Goals as goal

pub invariant_of-result : goal.invariant_of-result
invariant_of-result c =
    times_stand c.args.times.now c.self.inside.bytes c.put.new.bytes c.put.ensures.times (beside_times c.self.inside.bytes c.self.invariant) c.put.array_long c.put.ensures.changes

pub returns-clause-changes : goal.returns-clause-changes
returns-clause-changes c = rw (← c.self.view_is) c.put.ensures.changes

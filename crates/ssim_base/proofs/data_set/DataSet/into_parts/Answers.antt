-- Each leg record of a base has its end.
use Rattle.ssim_base.proofs.FrameLemmas.{closed-records}
use Rattle.ssim_base.proofs.data_set.DataSet.into_parts.Goals as goal

pub returns-clause-closed : goal.returns-clause-closed
returns-clause-closed c = closed-records c.self.inside.records.items c.self.invariant.0

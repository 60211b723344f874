-- The frame is the frame of the records, which can be exported.
use Rattle.std.proofs.Common.{subst}
use Rattle.ssim_base.specs.ReadBack.{CanExport, HasFrame}
use Rattle.ssim_base.proofs.FrameLemmas.{exportable}
use Rattle.ssim_base.proofs.data_set.DataSet.frame.Goals as goal

pub returns-clause-frame : goal.returns-clause-frame
returns-clause-frame c = subst (HasFrame c.self.inside.frame) c.self.view_is c.self.invariant.2

pub returns-clause-exports : goal.returns-clause-exports
returns-clause-exports c = subst CanExport c.self.view_is (exportable c.self.inside.records.items c.self.invariant.0)

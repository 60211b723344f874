-- The airline is the frame's.
use Rattle.std.proofs.Common.{ap, ◌∙◌}
use Rattle.ssim_base.specs.Base.{airline_of}
use Rattle.ssim_base.proofs.data_set.DataSet.airline.Goals as goal

pub returns : goal.returns
returns c = c.airline.ensures c.self.inside.records.items c.self.invariant.2 ∙ ap airline_of c.self.view_is

-- The frame is the base's.
use Rattle.ssim_base.proofs.resolution.resolve.Goals as goal

pub returns-clause-ok : goal.returns-clause-ok
returns-clause-ok c = c.resolve.ensures.ok c.args.base.now.records c.frame.ensures

pub returns-clause-err : goal.returns-clause-err
returns-clause-err c = c.resolve.ensures.err c.args.base.now.records c.frame.ensures

-- The carrier record is the base's.
use Rattle.std.proofs.Common.{IfErr, IfOk, subst}
use Rattle.ssim_base.specs.Export.{Frame}
use Rattle.ssim_base.specs.Resolve.{IsRefused, Resolves}
use Rattle.ssim_base.proofs.Results.{if_fault, if_ok}
use Rattle.ssim_base.proofs.base_frame.BaseFrame.resolve.Goals as goal

pub returns-clause-ok : goal.returns-clause-ok
returns-clause-ok c = λ records has.
    if_ok c.resolve_by.result (λ text h. (c.args.self.now, has, h))
    (subst (λ (f : Frame). IfOk c.resolve_by.result (Resolves f.carrier c.args.message.now)) c.self.view_is c.resolve_by.ensures.ok)

pub returns-clause-err : goal.returns-clause-err
returns-clause-err c = λ records has.
    if_fault c.resolve_by.result (λ e h. (c.args.self.now, has, h))
    (subst (λ (f : Frame). IfErr c.resolve_by.result (IsRefused f.carrier c.args.message.now)) c.self.view_is c.resolve_by.ensures.err)

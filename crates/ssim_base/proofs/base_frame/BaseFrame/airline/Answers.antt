-- The airline is the carrier record's.
use Rattle.std.proofs.Common.{sym, ap, ◌∙◌}
use Rattle.ssim_base.specs.Export.{Frame}
use Rattle.ssim_base.proofs.FrameLemmas.{airline-is}
use Rattle.ssim_base.proofs.base_frame.BaseFrame.airline.Goals as goal

pub returns : goal.returns
returns c = λ records has.
    c.airline.ensures ∙ ap (λ (f : Frame). f.carrier.airline) c.self.view_is ∙ sym (airline-is c.args.self.now records has)

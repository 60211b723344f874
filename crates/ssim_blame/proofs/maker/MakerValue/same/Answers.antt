-- Makers are equal if neither comes before the other.
use Rattle.std.proofs.Common.{◌∙◌, ap, sym}
use Rattle.std.specs.Ordering.{is_eq}
use Rattle.ssim_blame.specs.clauses.MakerOrder.{makers_told_apart}
use Rattle.ssim_blame.proofs.maker.MakerValue.same.Goals as goal

pub returns : goal.returns
returns c =
    c.is_eq.ensures ∙ ap is_eq c.order.ensures
    ∙ sym (makers_told_apart c.args.self.now c.args.other.now)

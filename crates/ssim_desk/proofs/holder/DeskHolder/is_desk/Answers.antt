-- A base is of records that were read, and the messages resolve in it.
use Rattle.std.proofs.Common.{subst}
use Rattle.ssim_base.specs.BaseSeen.{BaseSeen}
use Rattle.ssim_base.specs.SavedBase.{IsBaseRecords}
use Rattle.ssim_desk.proofs.OneRun.{is_desk}
use Rattle.ssim_desk.proofs.holder.DeskHolder.is_desk.Goals as goal

pub returns : goal.returns
returns c =
    let base = subst (λ (b : BaseSeen). IsBaseRecords b.records) c.base.ensures (subst IsBaseRecords c.records.ensures.value c.records.ensures.is_base) in
    is_desk c.args.self.now.seen base c.held.ensures.kept

-- One row more is copied.
use Rattle.ssim_periods.proofs.CopyLemmas.{copied-next}
use Rattle.ssim_periods.proofs.rows.copy_rows.Goals as goal

pub loop-row-preserved : goal.loop-row-preserved
loop-row-preserved g c =
    let l = c.loop-row in
    copied-next c.args.rows.now l.copies.items c.push.new.self.items l.row-index c.row-item.result c.in_ok-copy.copy c.loop-row-test.true c.row-item.is l.invariant c.in_ok-push.ensures.items c.in_ok-copy.ensures

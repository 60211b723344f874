use Rattle.ssim_periods.proofs.ApartLemmas.{none-more}
use Rattle.ssim_periods.proofs.apart_periods.entries.meets_none.Goals as goal

pub loop-entry-preserved : goal.loop-entry-preserved
loop-entry-preserved g c n h =
    none-more c.args.entries.now c.loop-entry.entry-index c.entry-item.result n c.loop-entry-test.true c.entry-item.is (c.are_apart.ensures.none c.if-not-are_apart.false n h) (c.loop-entry.invariant n h)

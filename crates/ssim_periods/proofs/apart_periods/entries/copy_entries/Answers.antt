-- One entry more is copied.
use Rattle.std.proofs.Common.{ap}
use Rattle.ssim_periods.proofs.CopyLemmas.{copied-next}
use Rattle.ssim_periods.proofs.apart_periods.entries.copy_entries.Goals as goal

pub loop-entry-preserved : goal.loop-entry-preserved
loop-entry-preserved g c =
    let l = c.loop-entry in let entry = c.entry-item.result in
    copied-next c.args.entries.now l.copies.items c.push.new.self.items l.entry-index entry (entry.0, c.in_ok-value.value) c.loop-entry-test.true c.entry-item.is l.invariant c.in_ok-push.ensures.items (ap (λ v. (entry.0, v)) c.in_ok-value.ensures)

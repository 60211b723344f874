-- What is added for one more entry comes last.
use Rattle.std.proofs.Common.{◌≡◌, ◌+◌, ◌-◌, ◌<◌, length, arith}
use Rattle.ssim_periods.proofs.PartsLemmas.{added-next}
use Rattle.ssim_periods.proofs.apart_periods.within.added_parts.Goals as goal

pub loop-place-preserved : goal.loop-place-preserved
loop-place-preserved g c =
    let xs = c.args.entries.now in let i = c.loop-place.place in
    let inv = c.loop-place.invariant in let test = c.loop-place-test.true in let fits = inv.within in
    let next : i - 1 + 1 ≡ i = omega arith in let lt : i - 1 < length xs = omega arith in
    record {
      within = omega arith;
      added = added-next g.V.Value.alike g.V.Value.nothing (g.C.Change.outcome c.args.change.now) c.args.period.now xs c.loop-place.added.items c.push_added.new.added.items i (i - 1) c.index-entries-place.result next lt c.index-entries-place.is inv.added c.in_ok-push_added.ensures;
    }

-- The cuts before the place are not after the one that is not after the day.
use Rattle.std.proofs.Common.{◌≡◌, ◌+◌, ◌-◌, ◌≤◌, slice_index_or, ap, sym, arith}
use Rattle.ssim_periods.proofs.CutLemmas.{place-between, rising-to}
use Rattle.ssim_periods.proofs.apart_periods.first_entries.place_from_end.Goals as goal

pub returns-then-cuts-place-clause-place : goal.returns-then-cuts-place-clause-place
returns-then-cuts-place-clause-place c =
    let cuts = c.args.cuts.now in let day = c.args.day in let i = c.loop-place.place in
    let inv = c.loop-place.invariant in let within = inv.within in let some = c.loop-place-test.true in
    let at : slice_index_or cuts (i - 1) 0 ≤ day = omega arith in
    sym (place-between cuts day i within (λ k h.
    let same : k + (i - 1 - k) ≡ i - 1 = omega arith in
    let up = rising-to cuts k (i - 1 - k) c.requires (omega arith) in
    let there = ap (λ j. slice_index_or cuts j 0) same in omega arith) inv.after)

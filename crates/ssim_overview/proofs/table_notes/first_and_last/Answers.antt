-- After the last day these are the first and the last of all.
use Rattle.std.proofs.Common.{◌≡◌, false, slice_index_or, arith}
use Rattle.ssim_overview.proofs.NoteDates.{spans_all}
use Rattle.ssim_overview.proofs.table_notes.first_and_last.Goals as goal

pub returns : goal.returns
returns c =
    let done = c.loop-day-test.false in let to = c.loop-day.auto.day-end in
    let end : c.loop-day.day ≡ 36525 = omega arith in
    spans_all (λ n. slice_index_or c.args.marks.now n false) c.loop-day.day c.loop-day.days end
    c.loop-day.invariant

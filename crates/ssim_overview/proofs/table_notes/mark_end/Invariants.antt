-- The dates before the current one that the end marks.
use Rattle.std.proofs.Common.{◌&&◌, nat_lt}
use Rattle.ssim_overview.specs.internal.StationNotes.{AddsDates, is_marked_by}
use Rattle.ssim_overview.proofs.table_notes.mark_end.Given as goal

abbrev pub invariant-loop-day : goal.invariant-loop-day
invariant-loop-day l =
    AddsDates (λ n. nat_lt n l.day && is_marked_by l.station l.kind l.rows n l.end)
    l.fn.marks.items l.marks.items

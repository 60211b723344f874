-- The first and the last of the dates so far.
use Rattle.std.proofs.Common.{false, slice_index_or}
use Rattle.ssim_overview.proofs.NoteDates.{SpansTo}
use Rattle.ssim_overview.proofs.table_notes.first_and_last.Given as goal

abbrev pub invariant-loop-day : goal.invariant-loop-day
invariant-loop-day l = SpansTo l.day (λ n. slice_index_or l.marks n false) l.days

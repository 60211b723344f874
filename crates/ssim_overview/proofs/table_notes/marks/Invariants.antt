-- The dates that the ends so far mark.
use Rattle.std.proofs.Common.{◌≡◌, ◌<◌, ℕ, false, length, slice_index_or, take}
use Rattle.ssim_overview.specs.internal.StationNotes.{is_marked}
use Rattle.ssim_overview.proofs.table_notes.marks.Given as goal

abbrev pub invariant-loop-end : goal.invariant-loop-end
invariant-loop-end l = record {
  len : length l.marks.items ≡ 36525;
  each : (n : ℕ) → n < 36525 → slice_index_or l.marks.items n false
      ≡ is_marked l.station l.kind l.rows (take l.end-index l.ends) n;
}

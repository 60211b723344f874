-- The columns that are compared decide it.
use Rattle.ssim_columns.proofs.lemmas.Segments.{segment_is_written, written_segment_has}
use Rattle.ssim_records.proofs.record.segment.SegmentRecord.is_written.Goals as goal

pub returns-clause-same : goal.returns-clause-same
returns-clause-same c = (
  λ h. segment_is_written c.args.self.now c.args.bytes.now c.told-bytes c.requires (c.has_digits.ensures.0 h),
  λ e. c.has_digits.ensures.1 (written_segment_has c.args.self.now c.args.bytes.now c.serial.ensures.is_segment e),
)

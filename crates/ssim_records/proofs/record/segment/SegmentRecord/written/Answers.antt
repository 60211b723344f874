-- The written spelling spells the record.
use Rattle.ssim_columns.proofs.lemmas.Segments.{spells_segment}
use Rattle.ssim_records.proofs.record.segment.SegmentRecord.written.Goals as goal

pub returns-clause-spells : goal.returns-clause-spells
returns-clause-spells c = rw c.write_over.ensures.value (spells_segment _ c.write_over.ensures.is_segment)

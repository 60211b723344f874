-- The carried columns of a record are carried when they are copied out of it.
use Rattle.ssim_columns.proofs.lemmas.Segments.{is_tail}
use Rattle.ssim_columns.proofs.segment.segment_tail.SegmentTail.put.Goals as goal

pub invariant_of-self : goal.invariant_of-self
invariant_of-self c = rw c.put_tail.ensures (is_tail c.args.bytes.now c.told-bytes c.requires)

pub returns-clause-is_tail : goal.returns-clause-is_tail
returns-clause-is_tail c = rw c.put_tail.ensures (is_tail c.args.bytes.now c.told-bytes c.requires)

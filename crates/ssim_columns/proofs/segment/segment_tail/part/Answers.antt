-- The last columns are next to each other in a tail's bytes.
use Rattle.ssim_columns.proofs.lemmas.Segments.{tail_part}
use Rattle.ssim_columns.proofs.segment.segment_tail.part.Goals as goal

pub returns-clause-value : goal.returns-clause-value
returns-clause-value c = tail_part c.args.tail.now c.args.first c.args.last c.told-tail c.requires.from c.requires.some c.requires.to

-- One text spells both messages.
use Rattle.ssim_text.proofs.ReadsBack.{equal_where_written_equal}
use Rattle.ssim_text.proofs.laws.equal_where_written_equal.Goals as goal

pub returns : goal.returns
returns c = equal_where_written_equal

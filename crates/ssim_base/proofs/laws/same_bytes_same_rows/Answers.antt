use Rattle.ssim_base.proofs.SameBytes.{same_bytes_same_rows}
use Rattle.ssim_base.proofs.laws.same_bytes_same_rows.Goals as goal

pub returns : goal.returns
returns c = same_bytes_same_rows

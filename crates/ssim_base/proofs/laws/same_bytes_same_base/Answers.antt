use Rattle.ssim_base.proofs.ReadOnce.{read_once}
use Rattle.ssim_base.proofs.SameBytes.{same_bytes_same_base}
use Rattle.ssim_base.proofs.laws.same_bytes_same_base.Goals as goal

pub returns : goal.returns
returns c = same_bytes_same_base (read_once c.frames_are_one.ensures.one)

-- The law, of the lemmas on frames.
use Rattle.ssim_records.proofs.FrameLaws.{frames_exist, frames_are_one}
use Rattle.ssim_records.proofs.laws.frames_are_one.Goals as goal

pub returns : goal.returns
returns c = record { exist = frames_exist; one = frames_are_one }

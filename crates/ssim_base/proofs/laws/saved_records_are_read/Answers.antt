use Rattle.ssim_base.proofs.ReadBackBy.{read_back}
use Rattle.ssim_base.proofs.ReadOnce.{read_once}
use Rattle.ssim_base.proofs.SavedBases.{saved_can_be_read, saved_is_one, saved_is_read}
use Rattle.ssim_base.proofs.laws.saved_records_are_read.Goals as goal

pub returns : goal.returns
returns c =
    let frames = c.written_records_read_back.ensures.frames in
    let spells = c.written_records_read_back.ensures.spells in
    let one = c.frames_are_one.ensures.one in
    record {
      can_be_read = saved_can_be_read frames spells;
      only = saved_is_read frames spells (read_back one);
      one = saved_is_one frames spells (read_once one);
    }

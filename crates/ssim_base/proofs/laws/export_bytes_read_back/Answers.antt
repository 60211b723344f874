use Rattle.ssim_base.proofs.Bytes.{bytes_read_back, exports_are_one}
use Rattle.ssim_base.proofs.ReadOnce.{read_once}
use Rattle.ssim_base.proofs.laws.export_bytes_read_back.Goals as goal

pub returns : goal.returns
returns c =
    let frames = c.written_records_read_back.ensures.frames in
    let spells = c.written_records_read_back.ensures.spells in
    record { read = bytes_read_back frames spells; one = exports_are_one frames spells (read_once c.frames_are_one.ensures.one) }

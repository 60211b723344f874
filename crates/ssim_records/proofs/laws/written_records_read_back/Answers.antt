-- The law, of the lemmas on lines.
use Rattle.ssim_records.proofs.Lines.{framed, others_numbered}
use Rattle.ssim_records.proofs.AnyRecord.{spells_written}
use Rattle.ssim_records.proofs.laws.written_records_read_back.Goals as goal

pub returns : goal.returns
returns c = record { frames = λ items h. (framed items h, others_numbered 0 items h); spells = spells_written }

-- Each by computing.
use Rattle.ssim_records.proofs.Examples.{worked_records}
use Rattle.ssim_records.proofs.laws.worked_records.Goals as goal

pub returns : goal.returns
returns c = worked_records

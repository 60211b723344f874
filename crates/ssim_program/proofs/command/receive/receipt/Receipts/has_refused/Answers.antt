-- The count of refused ones is that of the receipts.
use Rattle.std.proofs.Common.{ap, nat_lt}
use Rattle.ssim_program.proofs.command.receive.receipt.Receipts.has_refused.Goals as goal

pub returns : goal.returns
returns c csv receipts are = ap (nat_lt 0) are.refused

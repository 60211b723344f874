-- The rows are whole; after the lines comes the one that counts them.
use Rattle.ssim_program.proofs.Received.{all_printed}
use Rattle.ssim_program.proofs.command.receive.receipt.Receipts.finish.Goals as goal

pub returns : goal.returns
returns c csv receipts are = (all_printed csv c.args.self receipts _ c.in_ok-lines.ensures are, are.texts)

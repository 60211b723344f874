-- The table has the two digits.
use Rattle.ssim_values.proofs.Pairs.{digits_at}
use Rattle.ssim_values.proofs.digits.write_two_digits.Goals as goal

pub returns : goal.returns
returns c = digits_at c.args.n c.requires

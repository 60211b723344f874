-- The name is one of the list of names.
use Rattle.ssim_values.proofs.MonthNames.{name_at}
use Rattle.ssim_values.proofs.digits.write_month.Goals as goal

pub returns : goal.returns
returns c = name_at c.args.month c.requires.from c.requires.to

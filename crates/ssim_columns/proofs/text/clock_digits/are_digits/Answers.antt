-- No highest bit is set.
use Rattle.std.proofs.lemmas.Bool.Decides.{Decides-eqb}
use Rattle.ssim_columns.proofs.lemmas.Clocks.{has_digits}
use Rattle.ssim_columns.proofs.text.clock_digits.are_digits.Goals as goal

pub returns : goal.returns
returns c = λ h. has_digits c.args.digits c.requires ((Decides-eqb _ _).0 h)

-- What is left of a text is no longer than it.
use Rattle.std.proofs.Common.{arith}
use Rattle.ssim_columns.proofs.lemmas.Numbers.{below_more}
use Rattle.ssim_columns.proofs.text.number.number_beside_blanks.Goals as goal

pub returns-clause-below : goal.returns-clause-below
returns-clause-below c = below_more _ _ _ (omega arith) c.digits_of.ensures.below

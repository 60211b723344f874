use Rattle.std.proofs.Common.{arith}
use Rattle.std.proofs.lemmas.Bool.Decides.{nat_tests}
use Rattle.ssim_periods.proofs.CutLemmas.{upto-last}
use Rattle.ssim_periods.proofs.rows.is_after_cuts.Goals as goal

pub returns : goal.returns
returns c met k d l = let high = upto-last c.args.cuts.now c.requires k d l in grind (arith, nat_tests)

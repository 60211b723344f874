-- No pair begins at a leg that was passed.
use Rattle.std.proofs.Common.{◌≡◌, drop}
use Rattle.ssim_text.specs.Grammar.{leg_pair}
use Rattle.ssim_text.proofs.leg.leg_pair.Given as goal

abbrev pub invariant-loop-at : goal.invariant-loop-at
invariant-loop-at l = leg_pair l.board l.off 0 l.legs ≡ leg_pair l.board l.off l.at (drop l.at l.legs)

use Rattle.std.proofs.Common.{All, take}
use Rattle.ssim_desk.proofs.StepLemmas.{is_one}
use Rattle.ssim_desk.proofs.steps.each_is_desk.Given as goal

abbrev pub invariant-loop-desk : goal.invariant-loop-desk
invariant-loop-desk g l = All (is_one g.D.Holder.seen) (take l.desk-index l.desks)

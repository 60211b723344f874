use Rattle.std.proofs.Common.{◌≡◌, take}
use Rattle.ssim_desk.proofs.holdings.copies.Given as goal

abbrev pub invariant-loop-held : goal.invariant-loop-held
invariant-loop-held l = l.copies.items ≡ take l.held-index l.messages

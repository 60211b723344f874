-- The sub-messages so far are copied.
use Rattle.std.proofs.Common.{◌≡◌, ◌∷◌, take}
use Rattle.ssim_outbox.proofs.messages.copies.Given as goal

abbrev pub invariant-loop-sub : goal.invariant-loop-sub
invariant-loop-sub l = l.subs.items ≡ l.first ∷ take l.sub-index l.later

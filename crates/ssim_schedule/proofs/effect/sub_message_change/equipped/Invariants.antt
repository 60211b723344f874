use Rattle.std.proofs.Common.{◌≡◌, map, take}
use Rattle.ssim_schedule.specs.Effect.{equipped}
use Rattle.ssim_schedule.proofs.effect.sub_message_change.equipped.Given as goal

abbrev pub invariant-loop-leg : goal.invariant-loop-leg
invariant-loop-leg l = l.legs.items ≡ map (equipped l.equipment) (take l.leg-index l.leg-items)

-- The legs so far are moved, and the first reasons in them are known.
use Rattle.std.proofs.Common.{◌≡◌, map, take}
use Rattle.ssim_parts.specs.MovedLegs.{beyond_in, moved_leg, unknown_in}
use Rattle.ssim_parts.proofs.moved_legs.MovedLegs.of.Given as goal

abbrev pub invariant-loop-leg : goal.invariant-loop-leg
invariant-loop-leg l = record {
  legs_are : l.moved.items ≡ map (moved_leg l.rows l.wanted l.day l.shift) (take l.leg-index l.legs);
  unknown_is : l.unknown ≡ unknown_in l.rows l.day (take l.leg-index l.legs);
  beyond_is : l.beyond ≡ beyond_in l.rows l.wanted l.day l.shift (take l.leg-index l.legs);
}

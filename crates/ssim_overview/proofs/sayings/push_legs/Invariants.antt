-- What the legs so far say is added.
use Rattle.std.proofs.Common.{map, take}
use Rattle.ssim_overview.specs.internal.SaidRows.{AddsSayings, legs_say}
use Rattle.ssim_overview.proofs.sayings.push_legs.Given as goal

abbrev pub invariant-loop-leg : goal.invariant-loop-leg
invariant-loop-leg l =
    AddsSayings (legs_say l.period (take l.leg-index l.legs))
    (map (λ list. list.items) l.initial.sayings.items) (map (λ list. list.items) l.sayings.items)

-- The values so far were copied.
use Rattle.std.proofs.Common.{◌≡◌, map, take}
use Rattle.ssim_calendar.proofs.letters.copies.Given as goal

abbrev pub invariant-loop-value : goal.invariant-loop-value
invariant-loop-value g l = l.copies.items ≡ map (λ value. value.now) (take l.value-index l.values)

-- The different values of the days so far.
use Rattle.std.proofs.Common.{◌≡◌}
use Rattle.ssim_calendar.specs.Letters.{new_values}
use Rattle.ssim_calendar.proofs.letters.values_of.Given as goal

abbrev pub invariant-loop-number : goal.invariant-loop-number
invariant-loop-number g l =
    l.values ≡ new_values g.V.Value.alike g.V.Value.nothing l.days.days l.number

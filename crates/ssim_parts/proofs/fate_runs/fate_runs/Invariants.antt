-- The runs give the dates of the parts so far their fates.
use Rattle.std.proofs.Common.{◌≡◌, ℕ, take}
use Rattle.ssim_periods.specs.Pieces.{held_on}
use Rattle.ssim_parts.specs.declared.fate.Fate.TheVariants.{Absent}
use Rattle.ssim_parts.specs.internal.Placed.{fate_by, last_fate}
use Rattle.ssim_parts.proofs.fate_runs.fate_runs.Given as goal

abbrev pub invariant-loop-part : goal.invariant-loop-part
invariant-loop-part l =
    (n : ℕ) → fate_by Absent l.runs.items n
    ≡ last_fate Absent (held_on (take l.part-index l.parts) n)

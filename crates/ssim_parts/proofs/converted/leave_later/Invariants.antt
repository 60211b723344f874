-- The parts so far have left dates.
use Rattle.std.proofs.Common.{◌≡◌, ◌+◌, ◌-◌, ℕ, take}
use Rattle.ssim_periods.specs.Days.{each_day}
use Rattle.ssim_parts.specs.declared.fate.Fate.{Fate}
use Rattle.ssim_parts.specs.internal.Placed.{fate_after}
use Rattle.ssim_parts.proofs.converted.leave_later.Given as goal

abbrev pub invariant-loop-part : goal.invariant-loop-part
invariant-loop-part l =
    (before : ℕ → Fate) → l.initial.fates.days ≡ each_day before
    → l.fates.days ≡ each_day (λ n. fate_after l.shift (l.shift + 1 - l.later) l.later
    (take l.part-index l.parts) n (before n))

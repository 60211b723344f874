-- The flight dates before the next part are there.
use Rattle.std.proofs.Common.{◌≡◌, ◌≤◌, ◌-◌, ◌++◌, ℕ}
use Rattle.std.specs.List.{AllByRecursion}
use Rattle.ssim_periods.specs.Pieces.{held_on}
use Rattle.ssim_base.specs.Timetable.{Above}
use Rattle.ssim_parts.specs.internal.Placed.{IsFit}
use Rattle.ssim_parts.proofs.Parting.{before_day}
use Rattle.ssim_parts.proofs.moved_parts.add_parts.Given as goal

abbrev pub invariant-loop-first : goal.invariant-loop-first
invariant-loop-first l = record {
  from : l.period.first ≤ l.first;
  to : l.first ≤ l.end;
  held : (n : ℕ) → held_on l.parts.items n
      ≡ held_on l.initial.parts.items n ++ before_day l.rows l.wanted l.period l.legs l.first n;
  fit : Above 0 l.legs → AllByRecursion IsFit l.initial.parts.items
      → AllByRecursion IsFit l.parts.items;
}

abbrev pub decreases-loop-first : goal.decreases-loop-first
decreases-loop-first l = l.end - l.first

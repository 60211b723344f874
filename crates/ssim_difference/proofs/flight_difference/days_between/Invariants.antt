-- The days have the difference of the pieces so far.
use Rattle.std.proofs.Common.{◌≡◌, ◌+◌, ◌-◌, ◌≤◌, length, take}
use Rattle.ssim_difference.specs.internal.Between.{AreDisjoint, days_between}
use Rattle.ssim_difference.proofs.flight_difference.days_between.Given as goal

abbrev pub invariant-loop-i : goal.invariant-loop-i
invariant-loop-i l = record {
  in_old : l.i ≤ length l.old;
  in_new : l.j ≤ length l.new;
  days : AreDisjoint l.old → AreDisjoint l.new
      → l.days.days ≡ days_between (take l.i l.old) (take l.j l.new);
}

abbrev pub decreases-loop-i : goal.decreases-loop-i
decreases-loop-i l = (length l.old + length l.new) - (l.i + l.j)

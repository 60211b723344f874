-- The exports so far are those of the desks so far, and each has its line.
use Rattle.std.proofs.Common.{◌≡◌, length, map}
use Rattle.ssim_held.specs.Entries.{state_of}
use Rattle.ssim_program.specs.rehearse.Rehearsal.{AreExports, desk_lines}
use Rattle.ssim_program.specs.internal.Rehearse.{outcome_of}
use Rattle.ssim_program.proofs.rehearse.outcome.ends_of.Given as goal

abbrev pub invariant-loop-desk : goal.invariant-loop-desk
invariant-loop-desk l = record {
  are : AreExports (map state_of l.yielded) (map outcome_of l.outcomes.items);
  lines : l.lines.items ≡ desk_lines 1 (map state_of l.yielded) (map outcome_of l.outcomes.items);
  count : length l.lines.items ≡ length l.yielded;
}

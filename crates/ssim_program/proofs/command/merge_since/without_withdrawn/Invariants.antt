-- Of the messages that were looked at, those are gone that the other desk does not hold.
use Rattle.std.proofs.Common.{◌≡◌}
use Rattle.ssim_held.specs.Entries.{map_of}
use Rattle.ssim_program.proofs.MergingSince.{AreGone}
use Rattle.ssim_program.proofs.command.merge_since.without_withdrawn.Given as goal

abbrev pub invariant-loop-held : goal.invariant-loop-held
invariant-loop-held l = record {
  gone : AreGone l.held-index l.before (map_of l.other.held) (map_of l.desk.held) (map_of l.left.held);
  base : l.left.base ≡ l.desk.base;
}

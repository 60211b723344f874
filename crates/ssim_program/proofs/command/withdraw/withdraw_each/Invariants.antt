-- The lines so far, and what the words that are left do, are what all words do.
use Rattle.std.proofs.Common.{◌≡◌, map}
use Rattle.ssim_held.specs.Entries.{map_of}
use Rattle.ssim_program.proofs.Withdrawing.{AreWithdrawn}
use Rattle.ssim_program.proofs.command.withdraw.withdraw_each.Given as goal

abbrev pub invariant-loop-word : goal.invariant-loop-word
invariant-loop-word l = record {
  withdrawn : AreWithdrawn (map (λ t. t.now) l.words) l.word-index (map_of l.fn.desk.held) (map_of l.desk.held) l.lines.items;
  base : l.desk.base ≡ l.fn.desk.base;
}

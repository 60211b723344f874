-- The command has one more word.
use Rattle.std.proofs.Common.{rules}
use Rattle.ssim_command_line.proofs.TableLoops.{word_added}
use Rattle.ssim_command_line.proofs.table.CommandRow.command.Goals as goal

pub loop-word-preserved : goal.loop-word-preserved
loop-word-preserved c =
    word_added _ _ _ _ _ _ _ (search rules) c.in_ok-command.ensures c.arg.ensures.rule c.arg.ensures.local c.loop-word.invariant

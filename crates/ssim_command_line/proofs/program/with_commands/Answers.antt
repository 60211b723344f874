-- The program has one more command.
use Rattle.std.proofs.Common.{rules}
use Rattle.ssim_command_line.proofs.TableLoops.{row_added}
use Rattle.ssim_command_line.proofs.program.with_commands.Goals as goal

pub loop-row-preserved : goal.loop-row-preserved
loop-row-preserved c =
    row_added c.args.rows.now c.loop-row.row-index _ _ _ _ _ (search rules) c.in_ok-program.ensures c.in_ok-command.ensures c.loop-row.invariant

-- The program has the commands so far.
use Rattle.std.proofs.Common.{◌≡◌, map, take}
use Rattle.std.specs.List.{fold}
use Rattle.clap.specs.Words.{app_of, with_subcommand}
use Rattle.ssim_command_line.specs.internal.Table.{shape_of_row}
use Rattle.ssim_command_line.proofs.program.with_commands.Given as goal

abbrev pub invariant-loop-row : goal.invariant-loop-row
invariant-loop-row l = app_of l.program ≡ fold with_subcommand (app_of l.initial.program) (map shape_of_row (take l.row-index l.rows))

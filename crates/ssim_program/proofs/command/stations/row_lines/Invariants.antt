-- The lines of the rows so far.
use Rattle.std.proofs.Common.{◌≡◌, take}
use Rattle.std.specs.List.{flat_map}
use Rattle.ssim_held.specs.File.{row_line}
use Rattle.ssim_program.proofs.command.stations.row_lines.Given as goal

abbrev pub invariant-loop-row : goal.invariant-loop-row
invariant-loop-row l = l.lines.items ≡ flat_map row_line (take l.row-index l.rows)

-- What was put, and the rows that are left, is the whole part.
use Rattle.std.proofs.Common.{◌++◌}
use Rattle.ssim_held.specs.File.{IsRow, row_line, rows_part}
use Rattle.ssim_held.proofs.FileParts.{ArePut}
use Rattle.ssim_held.proofs.desk_file_writer.put_rows.Given as goal

abbrev pub invariant-loop-row : goal.invariant-loop-row
invariant-loop-row g l =
    ArePut row_line IsRow (l.fn.block ++ rows_part l.rows) (g.W.Sink.state l.fn.out) l.rows
    l.row-index l.block (g.W.Sink.state l.out)

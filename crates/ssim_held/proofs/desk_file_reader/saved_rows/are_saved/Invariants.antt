-- The lines are the rows exactly if the rest is the rows that are left.
use Rattle.std.proofs.Common.{take}
use Rattle.std.specs.List.{AllByRecursion as Each}
use Rattle.ssim_held.specs.File.{IsRow, row_line}
use Rattle.ssim_held.proofs.SavedElements.{Meets}
use Rattle.ssim_held.proofs.desk_file_reader.saved_rows.are_saved.Given as goal

abbrev pub invariant-loop-row : goal.invariant-loop-row
invariant-loop-row l = record { meets : Meets row_line l.rows l.lines l.row-index l.rest; rows : Each IsRow (take l.row-index l.rows) }

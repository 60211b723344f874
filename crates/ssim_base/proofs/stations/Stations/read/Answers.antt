-- What the function on lines returns is what the relation says.
use Rattle.ssim_text.specs.Left.{lines_left}
use Rattle.ssim_base.proofs.StationLines.{rows-spelled, names_line, gives_rows, gives_fault}
use Rattle.ssim_base.proofs.stations.Stations.read.Goals as goal

pub returns-in-Ok-clause-ok : goal.returns-in-Ok-clause-ok
returns-in-Ok-clause-ok c = rows-spelled (lines_left c.args.text.now) c.in-Ok.rows.items c.in-Ok.ensures.ok

pub returns-in-Ok-clause-only : goal.returns-in-Ok-clause-only
returns-in-Ok-clause-only c = λ rows are. gives_rows (lines_left c.args.text.now) rows c.in-Ok.rows.items c.in-Ok.ensures.ok are

pub returns-in-Err-clause-only : goal.returns-in-Err-clause-only
returns-in-Err-clause-only c = λ rows are. gives_fault (lines_left c.args.text.now) rows c.in-Err.fault c.in-Err.ensures.err are

pub returns-in-Err-clause-err : goal.returns-in-Err-clause-err
returns-in-Err-clause-err c = names_line (lines_left c.args.text.now) c.in-Err.fault c.in-Err.ensures.err

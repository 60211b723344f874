-- The file's desk, and the table that its timetable says.
use Rattle.ssim_program.proofs.command.stations.stations.Goals as goal

pub returns-clause-answer : goal.returns-clause-answer
returns-clause-answer g c = (c.in_ok-desk.desk, c.in_ok-desk.ensures.read, c.in_ok-lines.ensures)

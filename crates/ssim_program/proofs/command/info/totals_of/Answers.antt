-- The flights are those of the desk's timetable.
use Rattle.std.proofs.Common.{◌∙◌}
use Rattle.ssim_desk.specs.Desk.{timetable_of}
use Rattle.ssim_program.proofs.command.info.totals_of.Goals as goal

pub returns : goal.returns
returns c =
    c.of.ensures (timetable_of c.args.desk) (c.deref.ensures.value ∙ c.in_ok-flights.ensures)

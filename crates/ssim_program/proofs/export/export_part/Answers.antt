-- The part is written, and then flushed.
use Rattle.std.proofs.Common.{◌∙◌, ap}
use Rattle.ssim_base.specs.Base.{airline_of}
use Rattle.ssim_desk.specs.Desk.{days_of_desk}
use Rattle.ssim_parts.specs.Chosen.{chosen_days}
use Rattle.ssim_program.proofs.export.export_part.Goals as goal

pub returns-clause-printed : goal.returns-clause-printed
returns-clause-printed g c =
    let desk = c.args.desk in
    c.end_export.ensures.printed desk.base.records
    (chosen_days c.args.choice.now (days_of_desk desk)) c.args.out.now
    (c.airline-airline.ensures ∙ ap airline_of c.data_set.ensures) c.write_part-written.ensures

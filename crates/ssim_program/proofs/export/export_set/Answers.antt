-- The export is written, and then flushed.
use Rattle.ssim_base.specs.Timetable.{days_of}
use Rattle.ssim_program.proofs.export.export_set.Goals as goal

pub returns-clause-printed : goal.returns-clause-printed
returns-clause-printed g c =
    let base = c.args.data_set in let e = c.export_data_set-written.ensures in
    c.end_export.ensures.printed base (days_of base) c.args.out.now c.airline-airline.ensures (record { ok = e.ok; err = e.err; reads_back = e.reads_back })

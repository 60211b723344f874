-- The schedule has the desk's timetable, and then the chosen part of it, which is exported.
use Rattle.std.proofs.Common.{◌≡◌, sym, ap, subst, ◌∙◌}
use Rattle.ssim_values.specs.Flight.{FlightNumber, IsFlight}
use Rattle.ssim_periods.specs.Days.{each_day}
use Rattle.ssim_base.proofs.Results.{if_fault, on_ok}
use Rattle.ssim_base.specs.BaseSeen.{BaseSeen}
use Rattle.ssim_base.specs.Export.{Frame}
use Rattle.ssim_base.specs.ReadBack.{HasFrame}
use Rattle.ssim_base.specs.Timetable.{Days, on_day}
use Rattle.ssim_schedule.specs.clauses.Schedule.{days_in}
use Rattle.ssim_desk.proofs.Exports.{reads_back, refuses, writes}
use Rattle.ssim_desk.specs.Desk.{days_of_desk}
use Rattle.ssim_parts.specs.Chosen.{chosen_days, chosen_legs}
use Rattle.ssim_program.specs.print.Paper.{writer_of}
use Rattle.ssim_program.proofs.export.write_part.Goals as goal

pub returns : goal.returns
returns g c =
    let desk = c.args.desk in
    let records = desk.base.records in
    let choice = c.args.choice.now in
    let schedule = c.choose.new.schedule in
    let days = chosen_days choice (days_of_desk desk) in
    let frame = c.copy-frame.result in
    let old = writer_of c.args.out.now in
    let new = writer_of c.export_in.new.out in
    let shows : (f : FlightNumber) → IsFlight f → days_in schedule f ≡ days f = λ f is.
    c.in_ok-choose.ensures f is
    ∙ ap (λ (ds : Days). each_day (λ n. chosen_legs choice f n (on_day ds n)))
    (c.in_ok-schedule.ensures f is) in
    let has : HasFrame frame records =
    subst (λ (f : Frame). HasFrame f records) (sym c.copy-frame.ensures)
    (subst (λ (b : BaseSeen). HasFrame c.frame.result.now b.records) c.base.ensures
    c.frame.ensures) in
    record {
      ok = on_ok c.export_in.result
          (λ wrote. writes (days_in schedule) days shows records old new (frame, has, wrote))
          c.export_in.ensures.ok;
      err = if_fault c.export_in.result
          (λ fault refused. refuses (days_in schedule) days shows records writer_of c.args.out.now
          c.export_in.new.out fault (frame, has, refused)) c.export_in.ensures.err;
      reads_back = on_ok c.export_in.result
          (λ back. reads_back (days_in schedule) days shows records old new
          (frame, has, back.0, back.1, back.2)) c.export_in.ensures.reads_back;
    }

-- The schedule has the days of the base, and the frame is the base's.
use Rattle.std.proofs.Common.{◌≡◌, Result, ap, subst}
use Rattle.std.specs.Prelude.{ℕ, List}
use Rattle.ssim_base.specs.Export.{ExportRefusal, chapter7, export_bytes, result_map}
use Rattle.ssim_base.specs.Timetable.{days_of}
use Rattle.ssim_base.proofs.ReadingBack.{reads_back_as}
use Rattle.ssim_base.proofs.Results.{if_fault, on_ok}
use Rattle.ssim_base.proofs.Whole.{same_export}
use Rattle.ssim_schedule.specs.clauses.ExportResult.{Refuses, Writes}
use Rattle.ssim_schedule.specs.clauses.Schedule.{days_in}
use Rattle.ssim_schedule.specs.declared.export.ExportFault.{ExportFault}
use Rattle.ssim_schedule.proofs.export.export_data_set.Goals as goal

pub returns : goal.returns
returns g c =
    let its = days_of c.args.data_set in
    let frame = c.in_ok-schedule.frame in
    let days = days_in c.in_ok-schedule.schedule in
    let has = c.in_ok-schedule.ensures.frame in
    let same = c.in_ok-schedule.ensures.days in
    let old = c.args.out.now in
    let new = c.export_in.new.out in
    let is : chapter7 frame days ≡ chapter7 frame its =
    ap (result_map export_bytes) (same_export frame days its same) in
    let writes = subst (λ (e : Result (List ℕ) ExportRefusal).
    Writes e (g.W.Sink.state old) (g.W.Sink.state new)) is in
    let refuses = λ (fault : ExportFault). subst (λ (e : Result (List ℕ) ExportRefusal).
    Refuses g.W.Sink.state e old new fault) is in
    record {
      ok = on_ok c.export_in.result (λ wrote. (frame, has, writes wrote)) c.export_in.ensures.ok;
      err = if_fault c.export_in.result (λ fault refused. (frame, has, refuses fault refused))
          c.export_in.ensures.err;
      reads_back = on_ok c.export_in.result
          (λ back. (frame, has, back.0, back.1, reads_back_as frame days its back.0 same back.2))
          c.export_in.ensures.reads_back;
    }

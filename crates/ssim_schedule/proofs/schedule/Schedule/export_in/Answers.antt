-- The export is written in the frame, and reads back if it was written.
use Rattle.std.proofs.Common.{◌≡◌, ℕ, List, Result, OnOk, IfErr, ap, subst, ◌∙◌}
use Rattle.ssim_base.specs.Export.{ExportRefusal, Frame, chapter7}
use Rattle.ssim_base.specs.clauses.Export.{frame_from}
use Rattle.ssim_base.specs.clauses.ReadBack.{CanReadBack}
use Rattle.ssim_base.proofs.SinkLemmas.{if_both}
use Rattle.ssim_schedule.specs.clauses.ExportResult.{Refuses, Writes}
use Rattle.ssim_schedule.specs.clauses.Schedule.{Flown, days_in}
use Rattle.ssim_schedule.specs.internal.Table.{table_days}
use Rattle.ssim_schedule.proofs.schedule.Schedule.export_in.Goals as goal

pub returns : goal.returns
returns g c =
    let result = c.export_frame.result in
    let frame = c.args.frame.now in
    let days = days_in c.args.self in
    let old = c.args.out.now in
    let new = c.export_frame.new.out in
    let records = c.records.result in
    let is : chapter7 (frame_from records.0.now records.1.now records.2.now)
    (table_days c.self.inside.table) ≡ chapter7 frame days =
    ap (λ (f : Frame). chapter7 f (table_days c.self.inside.table)) c.records.ensures.value
    ∙ ap (λ (t : Flown). chapter7 frame (days_in t)) c.self.view_is in
    let ok = subst (λ (e : Result (List ℕ) ExportRefusal).
    OnOk result (Writes e (g.W.Sink.state old) (g.W.Sink.state new))) is
    c.export_frame.ensures.ok in
    record {
      ok = ok;
      err = subst (λ (e : Result (List ℕ) ExportRefusal).
          IfErr result (Refuses g.W.Sink.state e old new)) is c.export_frame.ensures.err;
      reads_back = if_both result (λ wrote readable.
          let reads = subst (λ (t : Flown). CanReadBack (days_in t)) c.self.view_is
          (readable c.self.invariant) in (
            wrote.0,
            wrote.2.taken,
            c.export_bytes_read_back.ensures.read frame days wrote.0 (record {
              frame_is = c.records.ensures.frame;
              frame_writable = c.records.ensures.writable;
              timetable = reads.timetable;
              legs = reads.legs;
              written = wrote.1;
            }),
          )) ok c.export_frame.ensures.readable;
    }

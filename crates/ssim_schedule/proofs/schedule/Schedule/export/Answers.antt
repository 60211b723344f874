-- A copy has the same itineraries, and the frame is the base's.
use Rattle.ssim_base.proofs.Results.{if_fault, on_ok}
use Rattle.ssim_schedule.proofs.schedule.Schedule.export.Goals as goal

pub returns : goal.returns
returns g c =
    let frame = c.frame-frame.result.now in
    let has = c.frame-frame.ensures in
    let its = rw c.in_ok-own.ensures at c.export_in.ensures in
    record {
      ok = on_ok c.export_in.result (λ wrote. (frame, has, wrote)) its.ok;
      err = if_fault c.export_in.result (λ fault refused. (frame, has, refused)) its.err;
      reads_back = on_ok c.export_in.result (λ back. (frame, has, back.0, back.1, back.2))
          its.reads_back;
    }

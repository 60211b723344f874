-- What is exported in a frame reads back, by the law on bytes.
use Rattle.std.proofs.Common.{◌≡◌, ℕ, List, ap, ◌∙◌}
use Rattle.ssim_values.specs.Flight.{FlightNumber, IsFlight}
use Rattle.ssim_records.specs.Carrier.{CarrierFields}
use Rattle.ssim_records.specs.Header.{HeaderFields}
use Rattle.ssim_records.specs.Trailer.{TrailerFields}
use Rattle.ssim_base.specs.Timetable.{Days, on_day}
use Rattle.ssim_base.specs.Export.{Frame}
use Rattle.ssim_base.specs.clauses.Export.{frame_from}
use Rattle.ssim_base.specs.ReadBack.{ReadsBackFrom}

-- the header, carrier and trailer of a base are its frame's
pub frame-is : (frame : Frame) (h : HeaderFields) (c : CarrierFields) (t : TrailerFields) → h ≡ frame.header → c ≡ frame.carrier → t ≡ frame.trailer → frame_from h c t ≡ frame
frame-is frame h c t header carrier trailer =
    ap (λ (x : HeaderFields). frame_from x c t) header ∙ ap (λ (x : CarrierFields). frame_from frame.header x t) carrier ∙ ap (λ (x : TrailerFields). frame_from frame.header frame.carrier x) trailer

-- an export in a frame reads back to each timetable that is the same
pub reads_back_as : (frame : Frame) (days others : FlightNumber → Days) (bytes : List ℕ) → ((flight : FlightNumber) → IsFlight flight → days flight ≡ others flight)
    → ReadsBackFrom frame days bytes → ReadsBackFrom frame others bytes
reads_back_as frame days others bytes same back = record {
  count = back.count;
  records = back.records;
  base = back.base;
  read = back.read;
  valid = back.valid;
  frame_is = back.frame_is;
  same = λ flight n is within. back.same flight n is within ∙ ap (λ (ds : Days). on_day ds n) (same flight is);
  again = back.again;
}

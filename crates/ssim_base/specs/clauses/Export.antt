-- The frame of an export from the records of a base, as a function.
use Rattle.ssim_records.specs.Carrier.{CarrierFields}
use Rattle.ssim_records.specs.Header.{HeaderFields}
use Rattle.ssim_records.specs.Trailer.{TrailerFields}
use Rattle.ssim_base.specs.Export.{Frame}

-- the frame with this header, carrier and trailer
abbrev pub frame_from : HeaderFields → CarrierFields → TrailerFields → Frame
frame_from header carrier trailer = record { header = header; carrier = carrier; trailer = trailer }

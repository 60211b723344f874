-- The records are the header, the carrier record and the trailer of a frame that can be written.
use Rattle.std.proofs.Common.{sym, subst}
use Rattle.ssim_base.specs.Export.{Frame}
use Rattle.ssim_base.specs.ReadBack.{IsFrame, IsWritableFrame}
use Rattle.ssim_base.proofs.FrameLemmas.{of-frame}
use Rattle.ssim_base.proofs.base_frame.BaseFrame.of.Goals as goal

pub unreachable-requires : goal.unreachable-requires
unreachable-requires c = absurd (c.in_default.not-Header c.requires.0.header c.requires.1.0)

pub unreachable-requires-in_default-second : goal.unreachable-requires-in_default-second
unreachable-requires-in_default-second c = absurd (c.in_default-second.not-Carrier c.requires.0.carrier c.requires.1.1)

pub unreachable-requires-in_default-last : goal.unreachable-requires-in_default-last
unreachable-requires-in_default-last c = absurd (c.in_default-last.not-Trailer c.requires.0.trailer c.requires.1.2)

pub invariant_of-result : goal.invariant_of-result
invariant_of-result c =
    let f = c.requires in
    subst (λ (x : Frame). IsFrame x × IsWritableFrame x) (sym (of-frame f.0 c.args.first.now c.args.second.now c.args.last.now c.in-Header.header c.in-Carrier.carrier c.in-Trailer.trailer f.1 c.in-Header.is c.in-Carrier.is c.in-Trailer.is)) (f.2, f.3)

pub returns : goal.returns
returns c = λ frame are. of-frame frame c.args.first.now c.args.second.now c.args.last.now c.in-Header.header c.in-Carrier.carrier c.in-Trailer.trailer are c.in-Header.is c.in-Carrier.is c.in-Trailer.is

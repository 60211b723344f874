-- The records are framed: the first is the header, the second the carrier record, the last the
-- trailer.
use Rattle.std.proofs.Common.{◌≡◌, length, sym, subst, arith}
use Rattle.ssim_base.specs.Export.{Frame}
use Rattle.ssim_base.specs.ReadBack.{HasFrame}
use Rattle.ssim_base.proofs.FrameLemmas.{are-of-frame, exportable, three-read}
use Rattle.ssim_base.proofs.data_set.DataSet.of_base.Goals as goal

pub index-header-requires : goal.index-header-requires
index-header-requires c = omega (arith, three-read c.args.records.items c.requires.was_read)

pub index-carrier-requires : goal.index-carrier-requires
index-carrier-requires c = omega (arith, three-read c.args.records.items c.requires.was_read)

pub overflow_sub-len : goal.overflow_sub-len
overflow_sub-len c =
    omega (arith, three-read c.args.records.items c.requires.was_read, c.len.ensures)

pub index-trailer-requires : goal.index-trailer-requires
index-trailer-requires c =
    omega (arith, three-read c.args.records.items c.requires.was_read, c.len.ensures)

pub of-frame-requires : goal.of-frame-requires
of-frame-requires c =
    let rs = c.args.records.items in
    let can = exportable rs c.requires.was_read in
    let all : c.len.result ≡ length rs = omega (arith, c.len.ensures) in
    let of_frame = are-of-frame can.frame rs _ _ _ _ can.has_frame all
    c.index-header.ensures c.index-carrier.ensures c.index-trailer.ensures in
    (can.frame, of_frame, can.frame_is, can.frame_writable)

pub invariant_of-result : goal.invariant_of-result
invariant_of-result c =
    let rs = c.args.records.items in
    let can = exportable rs c.requires.was_read in
    let all : c.len.result ≡ length rs = omega (arith, c.len.ensures) in
    let of_frame = are-of-frame can.frame rs _ _ _ _ can.has_frame all
    c.index-header.ensures c.index-carrier.ensures c.index-trailer.ensures in
    let frame = c.of-frame.ensures can.frame of_frame in
    let framed = subst (λ (f : Frame). HasFrame f rs) (sym frame) can.has_frame in
    (c.requires.was_read, c.requires.flights, framed)

-- The parts, each written after those before it, are the tail.
use Rattle.std.proofs.Common.{◌∙◌, arith}
use Rattle.ssim_columns.proofs.lemmas.Overlay.{all_added}
use Rattle.ssim_columns.proofs.lemmas.Segments.{tail_cut}
use Rattle.ssim_columns.proofs.segment.segment_tail.put_tail.Goals as goal

pub returns : goal.returns
returns c =
    let parts =
    all_added c.append.result c.append.new.out (omega arith)
    ∙ c.append.ensures.value _
    ∙ c.append-at-2.ensures.value _
    ∙ c.append-at.ensures.value _ in
    rw (parts, c.bytes_of.ensures, c.bytes_of-2.ensures, c.bytes_of-3.ensures) (tail_cut c.args.bytes.now)

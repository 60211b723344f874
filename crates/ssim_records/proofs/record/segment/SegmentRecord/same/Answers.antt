-- Two segments are the same if each part is the same.
use Rattle.std.proofs.Common.{sym, ◌∙◌}
use Rattle.ssim_columns.proofs.lemmas.Segments.{segments_decide}
use Rattle.ssim_records.proofs.record.segment.SegmentRecord.same.Goals as goal

pub returns : goal.returns
returns c =
    let parts = segments_decide c.args.self.now c.args.other.now in
    (λ h. parts.0 (sym c.eq.ensures ∙ h), λ e. c.eq.ensures ∙ parts.1 e)

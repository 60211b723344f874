-- The line of each tail is that of the lines that the tails have.
use Rattle.std.proofs.Common.{◌++◌, ◌∙◌, List, [], ◌∷◌, ap, sym, append_assoc}
use Rattle.ssim_text.specs.declared.segment.SegmentLine.{SegmentLine}
use Rattle.ssim_outbox.specs.internal.ColumnLines.{HasSegment}
use Rattle.ssim_outbox.proofs.Zipped.{next, whole}
use Rattle.ssim_outbox.proofs.new_lines.push_segment_lines.Goals as goal

pub loop-tail-preserved : goal.loop-tail-preserved
loop-tail-preserved c = record {
  are = c.in_ok-push_segment_line.ensures.are;
  found = λ own h.
      let before = c.args.segments.now.items in
      let n = next HasSegment own c.args.tails.now c.loop-tail.tail-index c.tail-item.result h
      c.loop-tail-test.true c.tail-item.is in
      c.in_ok-push_segment_line.ensures.found n.x n.has
      ∙ ap (λ (lines : List SegmentLine). lines ++ n.x ∷ []) (c.loop-tail.invariant.found own h)
      ∙ append_assoc before _ (n.x ∷ [])
      ∙ ap (λ (lines : List SegmentLine). before ++ lines) (sym n.more);
}

pub returns-clause-found : goal.returns-clause-found
returns-clause-found c = λ own h.
    c.loop-tail.invariant.found own h
    ∙ ap (λ (lines : List SegmentLine). c.args.segments.now.items ++ lines)
    (whole HasSegment own c.args.tails.now c.loop-tail.tail-index h c.loop-tail-test.false)

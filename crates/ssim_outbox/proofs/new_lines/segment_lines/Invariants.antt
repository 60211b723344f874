-- The lines so far are those of the legs so far.
use Rattle.std.proofs.Common.{◌≡◌, List, take}
use Rattle.std.specs.List.{AllByRecursion, AllZip, flat_map}
use Rattle.ssim_text.specs.Grammar.{IsSegmentLine}
use Rattle.ssim_text.specs.declared.segment.SegmentLine.{SegmentLine}
use Rattle.ssim_outbox.specs.internal.ColumnLines.{HasSegment}
use Rattle.ssim_outbox.proofs.new_lines.segment_lines.Given as goal

abbrev pub invariant-loop-leg : goal.invariant-loop-leg
invariant-loop-leg l = record {
  are : AllByRecursion IsSegmentLine l.segments.items;
  found : (all : List (List SegmentLine))
      → AllZip (λ own leg. AllZip HasSegment own leg.tails) all l.legs
      → l.segments.items ≡ flat_map (λ own. own) (take l.leg-index all);
}

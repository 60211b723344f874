-- The lines so far are those of the tails so far.
use Rattle.std.proofs.Common.{◌≡◌, ◌++◌, List, take}
use Rattle.std.specs.List.{AllByRecursion, AllZip}
use Rattle.ssim_text.specs.Grammar.{IsSegmentLine}
use Rattle.ssim_text.specs.declared.segment.SegmentLine.{SegmentLine}
use Rattle.ssim_outbox.specs.internal.ColumnLines.{HasSegment}
use Rattle.ssim_outbox.proofs.new_lines.push_segment_lines.Given as goal

abbrev pub invariant-loop-tail : goal.invariant-loop-tail
invariant-loop-tail l = record {
  are : AllByRecursion IsSegmentLine l.segments.items;
  found : (own : List SegmentLine) → AllZip HasSegment own l.tails
      → l.segments.items ≡ l.initial.segments.items ++ take l.tail-index own;
}

-- The lines of each leg are those that its tails have.
use Rattle.std.proofs.Common.{◌++◌, ◌∙◌, List, [], ap, subst, sym, take}
use Rattle.std.specs.List.{AllZip, flat_map}
use Rattle.std.proofs.lemmas.List.{flat_map_more}
use Rattle.ssim_text.specs.declared.segment.SegmentLine.{SegmentLine}
use Rattle.ssim_base.specs.Timetable.{LegValue}
use Rattle.ssim_outbox.specs.internal.ColumnLines.{HasSegment}
use Rattle.ssim_outbox.proofs.Zipped.{next, whole}
use Rattle.ssim_outbox.proofs.new_lines.segment_lines.Goals as goal

abbrev Has : List SegmentLine → LegValue → Type 0
Has own leg = AllZip HasSegment own leg.tails

pub loop-leg-preserved : goal.loop-leg-preserved
loop-leg-preserved c = record {
  are = c.in_ok-push_segment_lines.ensures.are;
  found = λ all h.
      let n = next Has all c.args.legs.now c.loop-leg.leg-index c.leg-item.result h
      c.loop-leg-test.true c.leg-item.is in
      c.in_ok-push_segment_lines.ensures.found n.x (subst (AllZip HasSegment n.x) (sym c.tails.ensures) n.has)
      ∙ ap (λ (lines : List SegmentLine). lines ++ n.x) (c.loop-leg.invariant.found all h)
      ∙ flat_map_more (λ own. own) [] (take c.loop-leg.leg-index all) n.x
      ∙ ap (λ (lists : List (List SegmentLine)). flat_map (λ own. own) lists) (sym n.more);
}

pub returns-clause-found : goal.returns-clause-found
returns-clause-found c = λ all h.
    c.loop-leg.invariant.found all h
    ∙ ap (λ (lists : List (List SegmentLine)). flat_map (λ own. own) lists)
    (whole Has all c.args.legs.now c.loop-leg.leg-index h c.loop-leg-test.false)

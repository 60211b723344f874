-- The lines so far are those of the legs so far.
use Rattle.std.proofs.Common.{◌≡◌, List, take}
use Rattle.std.specs.List.{AllByRecursion, AllZip}
use Rattle.ssim_text.specs.Grammar.{IsLegLine}
use Rattle.ssim_text.specs.declared.leg.LegLine.{LegLine}
use Rattle.ssim_outbox.specs.internal.ColumnLines.{HasLine}
use Rattle.ssim_outbox.proofs.new_lines.leg_lines.Given as goal

abbrev pub invariant-loop-leg : goal.invariant-loop-leg
invariant-loop-leg l = record {
  are : AllByRecursion IsLegLine l.lines.items;
  found : (all : List LegLine) → AllZip (λ line leg. HasLine line leg.columns) all l.legs
      → l.lines.items ≡ take l.leg-index all;
}

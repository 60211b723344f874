-- The line of each leg is that of the lines that the legs have.
use Rattle.std.proofs.Common.{◌++◌, ◌∙◌, List, [], ◌∷◌, ap, subst, sym}
use Rattle.ssim_text.specs.declared.leg.LegLine.{LegLine}
use Rattle.ssim_base.specs.Timetable.{LegValue}
use Rattle.ssim_outbox.specs.internal.ColumnLines.{HasLine}
use Rattle.ssim_outbox.proofs.Zipped.{next, whole}
use Rattle.ssim_outbox.proofs.new_lines.leg_lines.Goals as goal

abbrev Has : LegLine → LegValue → Type 0
Has line leg = HasLine line leg.columns

pub loop-leg-preserved : goal.loop-leg-preserved
loop-leg-preserved c = record {
  are = c.in_ok-push_leg_line.ensures.are;
  found = λ all h.
      let n = next Has all c.args.legs.now c.loop-leg.leg-index c.leg-item.result h
      c.loop-leg-test.true c.leg-item.is in
      c.in_ok-push_leg_line.ensures.found n.x (subst (HasLine n.x) (sym c.columns.ensures) n.has)
      ∙ ap (λ (lines : List LegLine). lines ++ n.x ∷ []) (c.loop-leg.invariant.found all h)
      ∙ sym n.more;
}

pub returns-clause-found : goal.returns-clause-found
returns-clause-found c = λ all h.
    c.loop-leg.invariant.found all h
    ∙ whole Has all c.args.legs.now c.loop-leg.leg-index h c.loop-leg-test.false

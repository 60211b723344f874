-- A flight is planned, of those that are left.
use Rattle.std.proofs.Common.{◌≡◌, ◌∷◌, length, ap, ◌∙◌, arith}
use Rattle.std.specs.Vec.Iter.{into_iter_items}
use Rattle.ssim_values.specs.Flight.{IsFlight}
use Rattle.ssim_periods.specs.clauses.Days.{Seen}
use Rattle.ssim_base.specs.Export.{pieces}
use Rattle.ssim_base.specs.Timetable.{Legs}
use Rattle.ssim_base.proofs.Each.{all_left}
use Rattle.ssim_schedule.proofs.Planning.{planned_left}
use Rattle.ssim_schedule.proofs.export.plan.divide_block.Goals as goal

pub loop-entry-preserved : goal.loop-entry-preserved
loop-entry-preserved c =
    let at = c.loop-entry in
    let f = c.in-Some.entry in
    let left = into_iter_items at.entry-iterator in
    let rest = into_iter_items c.next.new.self in
    let steps : left ≡ f ∷ rest = c.in-Some.ensures.steps.0 in
    record {
      plan = planned_left left rest f at.plan.items c.push.new.self.items _ c.in_ok-pieces.field-0.items steps (c.in_ok-pieces.ensures.pieces ∙ ap (λ (p : Seen Legs). pieces p.days) c.get.ensures) c.in_ok-push.ensures.items at.invariant.plan;
      flights = all_left (λ f. IsFlight f.flight) _ left rest f steps c.place.ensures.flight at.invariant.flights;
      left = let was = at.invariant.left in let gone = c.in-Some.ensures.steps.1 in let short = ap length steps in omega arith;
    }

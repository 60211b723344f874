-- The flights of a block are planned, of those that are left.
use Rattle.std.proofs.Common.{◌≡◌, ◌∷◌, ◌++◌, ap, subst, ◌∙◌, arith}
use Rattle.std.proofs.Common.{length}
use Rattle.std.specs.List.{All}
use Rattle.std.specs.Vec.Iter.{into_iter_items}
use Rattle.ssim_values.specs.Flight.{IsFlight}
use Rattle.ssim_schedule.specs.internal.Plan.{plan_of}
use Rattle.ssim_schedule.specs.internal.Table.{Table}
use Rattle.ssim_schedule.proofs.Planning.{block_exists, planned_block}
use Rattle.ssim_schedule.proofs.export.plan.divide.Goals as goal

pub loop-block-preserved : goal.loop-block-preserved
loop-block-preserved c =
    let at = c.loop-block in
    let b = c.in-Some.block in
    let left = into_iter_items at.block-iterator in
    let rest = into_iter_items c.next.new.self in
    let steps : left ≡ b ∷ rest = c.in-Some.ensures.steps.0 in
    record {
      plan = planned_block left rest b at.plan.items c.divide_block.new.plan.items _ steps (c.in_ok-divide_block.ensures.plan ∙ ap (λ (t : Table). at.plan.items ++ plan_of t) (c.into_entries.ensures ∙ c.in_ok-into_own.ensures)) at.invariant.plan;
      flights = block_exists _ left rest b steps (subst (λ (t : Table). All (λ f. IsFlight f.flight) t) (c.into_entries.ensures ∙ c.in_ok-into_own.ensures) c.in_ok-divide_block.ensures.flights) at.invariant.flights;
      left = let was = at.invariant.left in let gone = c.in-Some.ensures.steps.1 in let short = ap length steps in omega arith;
    }
